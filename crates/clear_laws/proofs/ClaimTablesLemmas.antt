-- The tables of a book, after a claim, a withdrawal or a release more.
use Rattle.std.proofs.Common.{◌≡◌, ℕ, ◌+◌, List, [], ◌∷◌, ◌++◌, length, map, Option, Some, None, Bool, true, false, cond, ◌&&◌, ◌==◌, refl, sym, ap, ◌∙◌, subst, arith}
use Rattle.std.proofs.lemmas.List.{append-nil, length-map, map-id}
use Rattle.std.specs.Option.{option_map_or}
use Rattle.clear_values.specs.declared.callers.Caller.{Caller}
use Rattle.clear_values.specs.declared.replies.Reply.{Reply}
use Rattle.clear_values.specs.declared.replies.Reply.TheVariants.{Released}
use Rattle.clear_values.specs.declared.replies.Settlement.{Settlement}
use Rattle.clear_values.specs.declared.rows.BankRow.{BankRow}
use Rattle.clear_values.specs.declared.rows.Change.TheVariants.{AddClaim, WithdrawClaim, ReleaseClaim}
use Rattle.clear_values.specs.declared.rows.ClaimRow.{ClaimRow}
use Rattle.clear_values.specs.declared.rows.CreditRow.{CreditRow}
use Rattle.clear_values.specs.declared.rows.ListRow.{ListRow}
use Rattle.clear_values.specs.declared.rows.RunRow.{RunRow}
use Rattle.clear_values.specs.Keyed.{is_key, find_row, with_row, with_rows, put_row, AreInOrder, AreOnce}
use Rattle.clear_book.specs.declared.calls.Call.TheVariants.{Do}
use Rattle.clear_book.specs.declared.calls.Command.TheVariants.{Claim, Withdraw, Release}
use Rattle.clear_book.specs.declared.calls.HolidayClaim.{HolidayClaim}
use Rattle.clear_book.specs.declared.calls.Withdrawal.{Withdrawal}
use Rattle.clear_book.specs.Accounts.{credit_key}
use Rattle.clear_book.specs.Book.{Book, Entry, Member, entry, entry_under, member_after, is_registration, report_in, rates_added}
use Rattle.clear_book.specs.Calls.{is_remind_run}
use Rattle.clear_book.specs.Judge.{Verdict, new_reply, judge}
use Rattle.clear_book.specs.Lines.{lines_seen, lines_standing, moved_by, rows_by, serial_count, set_offs, set_offs_by, set_offs_of, credits_made, credits_of_lines}
use Rattle.clear_book.specs.Machine.{step, after, appended}
use Rattle.clear_book.specs.Tables.{Tables, Stands, claim_key, changed, noted}
use Rattle.clear_book.specs.Workers.{new_claim, withdrawn, released, is_claim, claims_of, claim_of, lists_by, lists_of}
use Rattle.clear_values.proofs.KeyedLemmas.{found_key, is_key-refl, length-with_row}
use Rattle.clear_values.proofs.KeyedMapLemmas.{find_row-between, put_row-map}
use Rattle.clear_values.proofs.KeyedRowsLemmas.{AreNew, AreInOrder-with_rows}
use Rattle.clear_laws.proofs.CreditsMadeLemmas.{set_offs_new}
use Rattle.clear_laws.proofs.ImportTablesLemmas.{grown, still_new}
use Rattle.clear_laws.proofs.JudgeLemmas.{unrefused}
use Rattle.clear_laws.proofs.LinesLemmas.{none_moved, none_taken, serial_count-next}
use Rattle.clear_laws.proofs.ListNumbersLemmas.{lists_left}
use Rattle.clear_laws.proofs.RemindersLemmas.{reminders_left, runs_left}
use Rattle.clear_laws.proofs.RequestLemmas.{requests_found, requests_still_in_order}
use Rattle.clear_laws.proofs.SerialLemmas.{follow-last}
use Rattle.clear_laws.proofs.TablesLemmas.{bank_left, charges_left, credits_left, employer_rows_left, employers_left, rates_left, reports_left, wages_left}
use Rattle.clear_laws.proofs.ClaimsLemmas.{claims_numbered}

-- ---- a command that changes claims alone

-- an entry whose command changes no employer, reports nothing, brings and moves no lines, adds no rates, and makes no run
pub record IsOfClaims (xs : List Entry) (x : Entry) : Type 0 where
  pub no_member : (e : ℕ) (old : Option Member) → member_after old x.command e ≡ old
  pub no_registration : is_registration x.command ≡ false
  pub no_report : report_in x.command ≡ None
  pub no_move : (rows : List BankRow) → moved_by x.command rows ≡ rows
  pub no_rows : rows_by xs (lines_seen xs) x.command ≡ []
  pub no_rates : rates_added x.command ≡ []
  pub no_run : is_remind_run x.command ≡ false

module _ (b : Book) (t : Tables) (stands : Stands b t) (x : Entry) (of_claims : IsOfClaims b.entries x) (free : entry_under b.entries x.caller x.number ≡ None) where
  -- tables with the claims, the lists and the credits of the next book, and else as they were
  pub with_claims : (claims : List ClaimRow) (last : ℕ) (lists : List ListRow) (last_list : ℕ) (credits : List CreditRow) (serial : ℕ) → claims ≡ claims_of (x ∷ b.entries) → last ≡ length (claims_of (x ∷ b.entries))
      → lists ≡ lists_of (x ∷ b.entries) → last_list ≡ length (lists_of (x ∷ b.entries))
      → ((k : List ℕ) → find_row credit_key credits k ≡ find_row credit_key (credits_made (x ∷ b.entries)) k) → AreInOrder credit_key credits → serial ≡ serial_count (x ∷ b.entries)
      → Stands (appended b x) (noted x (record t { claims = claims; last_claim = last; lists = lists; last_list = last_list; credits = credits; serial = serial }))
  with_claims claims last lists last_list credits serial claims_are last_is lists_are last_list_is credits_are in_order serial_is = record {
    rates = rates_left b t stands x of_claims.no_rates;
    day = refl;
    entries = omega (arith, stands.entries);
    employers = employers_left b t stands x of_claims.no_member;
    employer_rows = employer_rows_left b t stands x of_claims.no_registration;
    employers_in_order = stands.employers_in_order;
    reports = reports_left b t stands x of_claims.no_report;
    reports_in_order = stands.reports_in_order;
    wages = wages_left b t stands x of_claims.no_report;
    wages_in_order = stands.wages_in_order;
    charges = charges_left b t stands x of_claims.no_report of_claims.no_rates;
    charges_in_order = stands.charges_in_order;
    charges_paid = stands.charges_paid;
    bank = bank_left b t stands x of_claims.no_move of_claims.no_rows;
    bank_in_order = stands.bank_in_order;
    credits = credits_are;
    credits_in_order = in_order;
    requests = requests_found b t stands x free;
    requests_in_order = requests_still_in_order b t stands x free;
    claims = claims_are;
    last_claim = last_is;
    lists = lists_are;
    last_list = last_list_is;
    runs = stands.runs ∙ sym (runs_left b.entries x of_claims.no_run);
    last_run = stands.last_run ∙ sym (ap (λ (runs : List RunRow). length runs) (runs_left b.entries x of_claims.no_run));
    reminders = stands.reminders ∙ sym (reminders_left b x of_claims.no_run);
    serial = serial_is;
  }

  -- where the command makes no list, the lists stay
  with_lists_left : lists_by x.day x.reply x.command ≡ [] → (claims : List ClaimRow) (last : ℕ) (credits : List CreditRow) (serial : ℕ) → claims ≡ claims_of (x ∷ b.entries) → last ≡ length (claims_of (x ∷ b.entries))
      → ((k : List ℕ) → find_row credit_key credits k ≡ find_row credit_key (credits_made (x ∷ b.entries)) k) → AreInOrder credit_key credits → serial ≡ serial_count (x ∷ b.entries)
      → Stands (appended b x) (noted x (record t { claims = claims; last_claim = last; credits = credits; serial = serial }))
  with_lists_left none claims last credits serial claims_are last_is credits_are in_order serial_is =
      let left = lists_left b.entries x none in
      with_claims claims last t.lists t.last_list credits serial claims_are last_is (stands.lists ∙ sym left) (stands.last_list ∙ sym (ap (λ (lists : List ListRow). length lists) left)) credits_are in_order serial_is

-- ---- the claims

-- a new claim comes behind those of a book
claim_last : (xs : List Entry) (claim : ClaimRow) → claim.claim ≡ length (claims_of xs) + 1 → with_row claim_key (claims_of xs) claim ≡ claims_of xs ++ claim ∷ []
claim_last xs claim is =
    follow-last (λ (row : ClaimRow). row.claim) (length (claims_of xs)) (claims_of xs) claim (claims_numbered xs).numbers is

-- a claim has a number as its key is that of the number
pub is_claim-key : (number : ℕ) (row : ClaimRow) → is_claim number row ≡ is_key (claim_key row) (number ∷ [])
is_claim-key number row = told (row.claim == number)
  where
    told : (b : Bool) → b ≡ b && true
    told true = refl
    told false = refl

module _ (xs : List Entry) (number : ℕ) (row : ClaimRow) (found : claim_of xs number ≡ Some row) (change : ClaimRow → ClaimRow) (same : (claim : ClaimRow) → (change claim).claim ≡ claim.claim) where
  -- the claim of a number changed
  abbrev turned : ClaimRow → ClaimRow
  turned claim = cond (is_claim number claim) (change claim) claim

  still_numbered : (b : Bool) (claim : ClaimRow) → claim_key (cond b (change claim) claim) ≡ claim_key claim
  still_numbered true claim = ap (λ n. n ∷ []) (same claim)
  still_numbered false claim = refl

  is_of : claim_key row ≡ number ∷ []
  is_of = found_key claim_key (claims_of xs) (number ∷ []) row found

  here : is_claim number row ≡ true
  here = is_claim-key number row ∙ ap (λ (k : List ℕ). is_key k (number ∷ [])) is_of ∙ is_key-refl (number ∷ [])

  -- it stands in its place, and all others as before
  one_turned : put_row claim_key (claims_of xs) (change row) ≡ map turned (claims_of xs) ++ []
  one_turned =
      put_row-map claim_key turned (λ claim. still_numbered (is_claim number claim) claim) (claims_of xs) (number ∷ []) row (change row) (claims_numbered xs).order found
      (ap (λ n. n ∷ []) (same row) ∙ is_of)
      (ap (λ b. cond b (change row) row) here)
      (λ claim apart. ap (λ b. cond b (change claim) claim) (is_claim-key number claim ∙ apart))
      ∙ sym (append-nil (map turned (claims_of xs)))

  -- and they are as many
  as_many : length (claims_of xs) ≡ length (map turned (claims_of xs) ++ [])
  as_many = sym (length-map (claims_of xs) turned) ∙ ap (λ (claims : List ClaimRow). length claims) (sym (append-nil (map turned (claims_of xs))))

-- ---- the three commands

module _ (b : Book) (t : Tables) (stands : Stands b t) (caller : Caller) (number day : ℕ) where
  pub Stands-claimed : (c : HolidayClaim) (reply : Reply) → judge b (Do caller number day (Claim c)) ≡ new_reply reply → (next : ℕ) → next ≡ length (claims_of b.entries) + 1
      → Stands (step b (Do caller number day (Claim c))) (noted (entry caller number day (Claim c) reply) (changed (AddClaim (new_claim next day c)) t))
  Stands-claimed c reply judged next is =
      let x = entry caller number day (Claim c) reply in
      let new = new_claim (length (claims_of b.entries) + 1) day c in
      let claims : with_row claim_key t.claims new ≡ claims_of (x ∷ b.entries) =
      ap (λ (rows : List ClaimRow). with_row claim_key rows new) stands.claims
      ∙ claim_last b.entries new refl
      ∙ ap (λ (rows : List ClaimRow). rows ++ new ∷ []) (sym (map-id (claims_of b.entries))) in
      let many : t.last_claim + 1 ≡ length (claims_of (x ∷ b.entries)) =
      (let old : length t.claims ≡ length (claims_of b.entries) = ap (λ (rows : List ClaimRow). length rows) stands.claims in omega (arith, stands.last_claim, old, length-with_row claim_key t.claims new))
      ∙ ap (λ (rows : List ClaimRow). length rows) claims in
      let there = with_lists_left b t stands x (record { no_member = λ e old. refl; no_registration = refl; no_report = refl; no_move = λ rows. refl; no_rows = refl; no_rates = refl; no_run = refl }) (unrefused b caller number day (Claim c) reply judged).free refl
      (with_row claim_key t.claims new) (t.last_claim + 1) t.credits t.serial claims many (credits_left b t stands x (λ rows. refl) refl refl) stands.credits_in_order (stands.serial ∙ sym (none_taken b.entries x refl refl)) in
      subst (λ (p : Verdict × ℕ). Stands (after b (Do caller number day (Claim c)) p.0) (noted x (changed (AddClaim (new_claim p.1 day c)) t))) (λ i. (sym judged i, sym is i)) there

  pub Stands-withdrawn : (w : Withdrawal) (reply : Reply) → judge b (Do caller number day (Withdraw w)) ≡ new_reply reply → (row : ClaimRow) → claim_of b.entries w.claim ≡ Some row
      → Stands (step b (Do caller number day (Withdraw w))) (noted (entry caller number day (Withdraw w) reply) (changed (WithdrawClaim (withdrawn row)) t))
  Stands-withdrawn w reply judged row found =
      let x = entry caller number day (Withdraw w) reply in
      let claims : put_row claim_key t.claims (withdrawn row) ≡ claims_of (x ∷ b.entries) =
      ap (λ (rows : List ClaimRow). put_row claim_key rows (withdrawn row)) stands.claims
      ∙ one_turned b.entries w.claim row found withdrawn (λ claim. refl) in
      let there = with_lists_left b t stands x (record { no_member = λ e old. refl; no_registration = refl; no_report = refl; no_move = λ rows. refl; no_rows = refl; no_rates = refl; no_run = refl }) (unrefused b caller number day (Withdraw w) reply judged).free refl
      (put_row claim_key t.claims (withdrawn row)) t.last_claim t.credits t.serial claims (stands.last_claim ∙ as_many b.entries w.claim row found withdrawn (λ claim. refl)) (credits_left b t stands x (λ rows. refl) refl refl) stands.credits_in_order
      (stands.serial ∙ sym (none_taken b.entries x refl refl)) in
      subst (λ (p : Verdict). Stands (after b (Do caller number day (Withdraw w)) p) (noted x (changed (WithdrawClaim (withdrawn row)) t))) (sym judged) there

  module _ (claim : ℕ) (row : ClaimRow) (found : claim_of b.entries claim ≡ Some row) (settlement : Settlement) where
    abbrev release : Entry
    release = entry caller number day (Release claim) (Released settlement)

    abbrev offs : List CreditRow
    offs = set_offs_of (released day settlement row) (serial_count b.entries + 1)

    offs_are : set_offs_by b.entries day (Released settlement) (Release claim) ≡ offs
    offs_are = ap (λ (o : Option ClaimRow). option_map_or (λ r. set_offs_of (released day settlement r) (serial_count b.entries + 1)) o []) found

    -- the set-offs are new, and apart
    offs_new : AreOnce credit_key offs × AreNew credit_key (credits_made b.entries) offs
    offs_new = subst (λ (new : List CreditRow). AreOnce credit_key new × AreNew credit_key (credits_made b.entries) new) offs_are (set_offs_new b.entries release)

    credits_then : (k : List ℕ) → find_row credit_key (with_rows credit_key t.credits offs) k ≡ find_row credit_key (credits_made (release ∷ b.entries)) k
    credits_then k =
        let lines = credits_of_lines (lines_standing b.entries) in
        grown credit_key t.credits (credits_made b.entries) offs stands.credits offs_new.1 offs_new.0 k
        ∙ sym (find_row-between credit_key (set_offs b.entries) lines offs k offs_new.1)
        ∙ (λ i. find_row credit_key ((set_offs b.entries ++ sym offs_are i) ++ credits_of_lines (sym (none_moved b.entries release (λ rows. refl) refl) i)) k)

    claims_then : put_row claim_key t.claims (released day settlement row) ≡ claims_of (release ∷ b.entries)
    claims_then =
        ap (λ (rows : List ClaimRow). put_row claim_key rows (released day settlement row)) stands.claims
        ∙ one_turned b.entries claim row found (released day settlement) (λ c. refl)

    released_tables : entry_under b.entries caller number ≡ None → Stands (appended b release) (noted release (changed (ReleaseClaim (released day settlement row) (serial_count b.entries + 1)) t))
    released_tables free =
        with_lists_left b t stands release (record { no_member = λ e old. refl; no_registration = refl; no_report = refl; no_move = λ rows. refl; no_rows = refl; no_rates = refl; no_run = refl }) free refl
        (put_row claim_key t.claims (released day settlement row)) t.last_claim (with_rows credit_key t.credits offs) (t.serial + 1) claims_then
        (stands.last_claim ∙ as_many b.entries claim row found (released day settlement) (λ c. refl)) credits_then
        (AreInOrder-with_rows credit_key t.credits offs stands.credits_in_order (still_new credit_key t.credits (credits_made b.entries) offs stands.credits offs_new.1) offs_new.0)
        (let next = serial_count-next b.entries release in omega (arith, stands.serial, next))

  pub Stands-released : (claim : ℕ) (reply : Reply) → judge b (Do caller number day (Release claim)) ≡ new_reply reply → (row : ClaimRow) → claim_of b.entries claim ≡ Some row
      → (settlement : Settlement) → reply ≡ Released settlement → (serial : ℕ) → serial ≡ serial_count b.entries + 1
      → Stands (step b (Do caller number day (Release claim))) (noted (entry caller number day (Release claim) reply) (changed (ReleaseClaim (released day settlement row) serial) t))
  Stands-released claim reply judged row found settlement replied serial next =
      subst
      (λ (p : Verdict × Reply × ℕ).
      Stands (after b (Do caller number day (Release claim)) p.0) (noted (entry caller number day (Release claim) p.1) (changed (ReleaseClaim (released day settlement row) p.2) t)))
      (λ i. (sym (judged ∙ ap new_reply replied) i, sym replied i, sym next i))
      (released_tables claim row found settlement (unrefused b caller number day (Release claim) reply judged).free)
