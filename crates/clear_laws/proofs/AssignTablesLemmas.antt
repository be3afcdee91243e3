-- The tables of a book, after an assignment more.
use Rattle.std.proofs.Common.{◌≡◌, ℕ, List, [], ◌∷◌, ◌++◌, length, map, Option, Some, None, Bool, true, false, cond, refl, sym, ap, ◌∙◌, subst, arith, append_assoc}
use Rattle.std.proofs.lemmas.List.{append-nil}
use Rattle.std.proofs.lemmas.List.Sums.{sum_by-cons}
use Rattle.std.specs.Option.{option_map}
use Rattle.clear_values.specs.declared.callers.Caller.{Caller}
use Rattle.clear_values.specs.declared.replies.Reply.{Reply}
use Rattle.clear_values.specs.declared.rows.BankRow.{BankRow}
use Rattle.clear_values.specs.declared.rows.Change.TheVariants.{AssignLine}
use Rattle.clear_values.specs.declared.rows.ClaimRow.{ClaimRow}
use Rattle.clear_values.specs.declared.rows.CreditRow.{CreditRow}
use Rattle.clear_values.specs.declared.rows.ListRow.{ListRow}
use Rattle.clear_values.specs.declared.rows.RunRow.{RunRow}
use Rattle.clear_values.specs.Keyed.{is_key, find_row, put_row, with_rows, AreOnce}
use Rattle.clear_values.proofs.KeyedChangesLemmas.{find_row-put_row, AreInOrder-put_row}
use Rattle.clear_values.proofs.KeyedLemmas.{found_key, is_key-refl, is_key-sym, is_key-true}
use Rattle.clear_values.proofs.KeyedMapLemmas.{find_row-between, find_row-map}
use Rattle.clear_values.proofs.KeyedRowsLemmas.{AreNew, AreInOrder-with_rows}
use Rattle.clear_book.specs.declared.calls.Assignment.{Assignment}
use Rattle.clear_book.specs.declared.calls.Call.TheVariants.{Do}
use Rattle.clear_book.specs.declared.calls.Command.TheVariants.{Assign}
use Rattle.clear_book.specs.Accounts.{credit_key}
use Rattle.clear_book.specs.Book.{Book, Entry, entry, entry_under, is_registration, latest_lines, rates_of}
use Rattle.clear_book.specs.Judge.{Verdict, new_reply, judge}
use Rattle.clear_book.specs.Lines.{assigned, credits_made, credits_of_lines, line_of, lines_standing, set_offs}
use Rattle.clear_book.specs.Machine.{step, after, appended}
use Rattle.clear_book.specs.Tables.{Tables, Stands, bank_key, changed, noted}
use Rattle.clear_laws.proofs.AssignLemmas.{IsAccepted, IsAmong, accepted_assignment, credits_before, credits_then, given, kept, new_credit, once-between, standing_among}
use Rattle.clear_laws.proofs.ClaimsLemmas.{claims_left}
use Rattle.clear_laws.proofs.CreditsMadeLemmas.{credits_once}
use Rattle.clear_laws.proofs.ImportTablesLemmas.{grown, still_new}
use Rattle.clear_laws.proofs.JudgeLemmas.{unrefused}
use Rattle.clear_laws.proofs.LinesLemmas.{none_taken}
use Rattle.clear_laws.proofs.ListNumbersLemmas.{lists_left}
use Rattle.clear_laws.proofs.RemindersLemmas.{reminders_left, runs_left}
use Rattle.clear_laws.proofs.RequestLemmas.{requests_found, requests_still_in_order}
use Rattle.clear_laws.proofs.TablesLemmas.{charges_left}
use Rattle.clear_laws.proofs.VersionLemmas.{version_of-other}

module _ (b : Book) (t : Tables) (stands : Stands b t) (caller : Caller) (number day : ℕ) (a : Assignment) (reply : Reply) (judged : judge b (Do caller number day (Assign a)) ≡ new_reply reply) where
  abbrev assignment : Entry
  assignment = entry caller number day (Assign a) reply

  no_number : entry_under b.entries caller number ≡ None
  no_number = (unrefused b caller number day (Assign a) reply judged).free

  ok : IsAccepted b a
  ok = accepted_assignment b day a (unrefused b caller number day (Assign a) reply judged).unruled

  abbrev standing : List BankRow
  standing = lines_standing b.entries

  part : IsAmong a standing ok.line
  part = standing_among b a ok

  abbrev row : BankRow
  row = given a ok.line

  reference_is : bank_key row ≡ a.reference
  reference_is = found_key bank_key standing a.reference ok.line ok.found

  -- the line is found under its firm, and each other as it was
  bank_found : (reference : List ℕ) → find_row bank_key (put_row bank_key t.bank row) reference ≡ find_row bank_key (lines_standing (assignment ∷ b.entries)) reference
  bank_found reference =
      find_row-put_row bank_key t.bank row reference
      ∙ (λ i. cond (is_key (reference_is i) reference) (Some row) (stands.bank reference i))
      ∙ told (is_key a.reference reference) refl
      ∙ sym (find_row-map bank_key (assigned a) (kept a) standing reference)
      ∙ ap (λ (rows : List BankRow). find_row bank_key rows reference) (sym (append-nil (map (assigned a) standing)))
    where
      other : (o : Option BankRow) → find_row bank_key standing reference ≡ o → is_key a.reference reference ≡ false → o ≡ option_map (assigned a) o
      other None is apart = refl
      other (Some x) is apart =
          let key = found_key bank_key standing reference x is in
          let differs : is_key (bank_key x) a.reference ≡ false = ap (λ k. is_key k a.reference) key ∙ is_key-sym a.reference reference apart in
          ap (λ c. Some (cond c (given a x) x)) (sym differs)

      told : (c : Bool) → is_key a.reference reference ≡ c → cond c (Some row) (find_row bank_key standing reference) ≡ option_map (assigned a) (find_row bank_key standing reference)
      told true is =
          let same = is_key-true a.reference reference is in
          let found : find_row bank_key standing reference ≡ Some ok.line = subst (λ k. find_row bank_key standing k ≡ Some ok.line) same ok.found in
          let here : is_key (bank_key ok.line) a.reference ≡ true = ap (λ k. is_key k a.reference) reference_is ∙ is_key-refl a.reference in
          ap (λ c. Some (cond c row ok.line)) (sym here) ∙ ap (option_map (assigned a)) (sym found)
      told false is = other (find_row bank_key standing reference) refl is

  -- ---- the credits

  abbrev credit : CreditRow
  credit = new_credit a ok.line

  abbrev front : List CreditRow
  front = set_offs b.entries ++ credits_of_lines part.before

  abbrev rear : List CreditRow
  rear = credits_of_lines part.behind

  old_credits : credits_made b.entries ≡ front ++ rear
  old_credits =
      ap (λ (l : List CreditRow). set_offs b.entries ++ l) (credits_before a standing ok.line ok.waits part)
      ∙ sym (append_assoc (set_offs b.entries) (credits_of_lines part.before) rear)

  new_credits : credits_made (assignment ∷ b.entries) ≡ front ++ credit ∷ rear
  new_credits =
      (λ i. append-nil (set_offs b.entries) i ++ credits_of_lines (append-nil (map (assigned a) standing) i))
      ∙ ap (λ (l : List CreditRow). set_offs b.entries ++ l) (credits_then a standing ok.line ok.waits part)
      ∙ sym (append_assoc (set_offs b.entries) (credits_of_lines part.before) (credit ∷ rear))

  free : AreNew credit_key (front ++ rear) (credit ∷ [])
  free = (once-between credit_key front rear credit (subst (AreOnce credit_key) new_credits (credits_once (assignment ∷ b.entries))), tt)

  old_found : (k : List ℕ) → find_row credit_key t.credits k ≡ find_row credit_key (front ++ rear) k
  old_found k = stands.credits k ∙ ap (λ (l : List CreditRow). find_row credit_key l k) old_credits

  credits_found : (k : List ℕ) → find_row credit_key (with_rows credit_key t.credits (credit ∷ [])) k ≡ find_row credit_key (credits_made (assignment ∷ b.entries)) k
  credits_found k =
      grown credit_key t.credits (front ++ rear) (credit ∷ []) old_found free (refl, tt) k
      ∙ sym (find_row-between credit_key front rear (credit ∷ []) k free)
      ∙ ap (λ (l : List CreditRow). find_row credit_key l k) (append_assoc front (credit ∷ []) rear ∙ sym new_credits)

  -- ---- the tables

  assigned_tables : Stands (appended b assignment) (noted assignment (changed (AssignLine row) t))
  assigned_tables = record {
    rates = stands.rates ∙ sym (append-nil (rates_of b));
    day = refl;
    entries = omega (arith, stands.entries);
    employers = λ e. stands.employers e;
    employer_rows = omega (arith, stands.employer_rows, sum_by-cons (λ (x : Entry). cond {A = ℕ} (is_registration x.command) 1 0) assignment b.entries);
    employers_in_order = stands.employers_in_order;
    reports = λ e m. stands.reports e m ∙ ap (λ (n : ℕ). option_map (λ lines. n) (latest_lines b.entries e m)) (sym (version_of-other b.entries assignment e m refl));
    reports_in_order = stands.reports_in_order;
    wages = λ e m w. stands.wages e m w;
    wages_in_order = stands.wages_in_order;
    charges = charges_left b t stands assignment refl refl;
    charges_in_order = stands.charges_in_order;
    charges_paid = stands.charges_paid;
    bank = bank_found;
    bank_in_order = AreInOrder-put_row bank_key t.bank row stands.bank_in_order;
    credits = credits_found;
    credits_in_order = AreInOrder-with_rows credit_key t.credits (credit ∷ []) stands.credits_in_order (still_new credit_key t.credits (front ++ rear) (credit ∷ []) old_found free) (refl, tt);
    requests = requests_found b t stands assignment no_number;
    requests_in_order = requests_still_in_order b t stands assignment no_number;
    claims = stands.claims ∙ sym (claims_left b.entries assignment (record { kept = λ claim. refl; none = λ last. refl }));
    last_claim = stands.last_claim ∙ sym (ap (λ (claims : List ClaimRow). length claims) (claims_left b.entries assignment (record { kept = λ claim. refl; none = λ last. refl })));
    lists = stands.lists ∙ sym (lists_left b.entries assignment refl);
    last_list = stands.last_list ∙ sym (ap (λ (lists : List ListRow). length lists) (lists_left b.entries assignment refl));
    runs = stands.runs ∙ sym (runs_left b.entries assignment refl);
    last_run = stands.last_run ∙ sym (ap (λ (runs : List RunRow). length runs) (runs_left b.entries assignment refl));
    reminders = stands.reminders ∙ sym (reminders_left b assignment refl);
    serial = stands.serial ∙ sym (none_taken b.entries assignment refl refl);
  }

  pub Stands-assigned : (line : BankRow) → line_of b.entries a.reference ≡ Some line → Stands (step b (Do caller number day (Assign a))) (noted assignment (changed (AssignLine (given a line)) t))
  Stands-assigned line found =
      let same : ok.line ≡ line = cc (sym ok.found ∙ found) in
      subst (λ (p : Verdict × BankRow). Stands (after b (Do caller number day (Assign a)) p.0) (noted assignment (changed (AssignLine (given a p.1)) t))) (λ i. (sym judged i, same i)) assigned_tables
