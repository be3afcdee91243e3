-- No cent of a lawful book is lost.
use Rattle.std.proofs.Common.{◌≡◌, ℕ, ◌+◌, List, [], ◌∷◌, filter, map, Option, Some, None, IfSome, is_some, option_and_then, Bool, true, false, cond, ◌&&◌, ◌==◌, sum_by, refl, sym, ap, ◌∙◌, subst, arith}
use Rattle.std.specs.Prelude.{is_none}
use Rattle.std.proofs.lemmas.Bool.Decides.{nat_tests}
use Rattle.std.proofs.lemmas.List.Sums.{sum_by-append, sum_by-cons}
use Rattle.std.specs.List.{AllByRecursion, cons_option}
use Rattle.std.specs.Option.{option_map_or}
use Rattle.clear_account.specs.Account.{credited}
use Rattle.clear_account.specs.Allocation.{prepaid, right_pieces}
use Rattle.clear_account.specs.declared.entries.Piece.{Piece}
use Rattle.clear_account.proofs.LawLemmas.{credits_kept}
use Rattle.clear_bank.specs.Newness.{Placed}
use Rattle.clear_values.specs.declared.lines.BankLine.{BankLine}
use Rattle.clear_values.specs.declared.lines.Purpose.{Purpose}
use Rattle.clear_values.specs.declared.lines.Purpose.TheVariants.{Contribution}
use Rattle.clear_values.specs.declared.replies.Reply.{Reply}
use Rattle.clear_values.specs.declared.replies.Reply.TheVariants.{Released as release_of}
use Rattle.clear_values.specs.declared.rows.BankRow.{BankRow}
use Rattle.clear_values.specs.declared.rows.ClaimRow.{ClaimRow}
use Rattle.clear_values.specs.declared.rows.CreditRow.{CreditRow}
use Rattle.clear_values.specs.Keyed.{is_key, find_row, AreOnce}
use Rattle.clear_values.specs.Lines.{same_purpose}
use Rattle.clear_values.proofs.CreditRowsLemmas.{set_offs-all}
use Rattle.clear_values.proofs.KeyedChangesLemmas.{found_holds}
use Rattle.clear_values.proofs.KeyedLemmas.{other_row}
use Rattle.clear_values.proofs.KeyedRowsLemmas.{sum_by-with_rows}
use Rattle.clear_values.proofs.ListLemmas.{both, each}
use Rattle.clear_book.specs.declared.calls.Assignment.{Assignment}
use Rattle.clear_book.specs.declared.calls.Command.{Command}
use Rattle.clear_book.specs.declared.calls.Command.TheVariants.{ImportBank, Assign, Release}
use Rattle.clear_book.specs.Accounts.{charges_of, credit_key, credits_of, credits_standing, credits_under}
use Rattle.clear_book.specs.Book.{RateTable, Book, Entry, member_of}
use Rattle.clear_book.specs.Conserved.{firm_cents, is_line_of, line_cents, over_firms, pieces_cents, prepaid_cents, set_off_cents, standing_cents, suspense_cents}
use Rattle.clear_book.specs.Judge.{own_rule}
use Rattle.clear_book.specs.Lines.{assigned, moved_by, credit_of_line, credits_made, credits_of_lines, employer_of_line, is_credit_of, is_in_suspense, line_credit, lines_in, lines_of_rows, lines_seen, lines_standing, new_lines, rows_by, rows_from, serial_count, serials_of, set_offs, set_offs_by, set_offs_of}
use Rattle.clear_book.specs.Machine.{AreJudged, IsLawful}
use Rattle.clear_laws.proofs.AssignLemmas.{accepted_assignment}
use Rattle.clear_laws.proofs.LimitsLemmas.{accepted}
use Rattle.clear_book.specs.Tables.{bank_key, claim_key}
use Rattle.clear_book.specs.Workers.{claim_of, claims_of, employers_of, number_key, released_by}
use Rattle.clear_laws.proofs.AccountLimitLemmas.{among-cents}
use Rattle.clear_laws.proofs.ClaimsLemmas.{claims-registered, still_member}
use Rattle.clear_laws.proofs.DistinctLemmas.{itself, same_worker}
use Rattle.clear_laws.proofs.SerialLemmas.{in_order-once}
use Rattle.clear_laws.proofs.WorkersLemmas.{employers_right}

-- ---- sums

sum_by-add : {X : Type 0} (f g : X → ℕ) (xs : List X) → sum_by (λ x. f x + g x) xs ≡ sum_by f xs + sum_by g xs
sum_by-add f g [] = refl
sum_by-add f g (x ∷ xs) = omega (arith, sum_by-add f g xs, sum_by-cons (λ y. f y + g y) x xs, sum_by-cons f x xs, sum_by-cons g x xs)

sum_by-none : {X : Type 0} (xs : List X) → sum_by (λ x. 0) xs ≡ 0
sum_by-none [] = refl
sum_by-none (x ∷ xs) = omega (arith, sum_by-none xs, sum_by-cons (λ y. 0) x xs)

-- what a test lets through
sum_by-filter : {X : Type 0} (f : X → ℕ) (test : X → Bool) (xs : List X) → sum_by f (filter test xs) ≡ sum_by (λ x. cond {A = ℕ} (test x) (f x) 0) xs
sum_by-filter f test [] = refl
sum_by-filter {X} f test (x ∷ xs) = told (test x) (sum_by-filter f test xs) ∙ sym (sum_by-cons (λ (y : X). cond {A = ℕ} (test y) (f y) 0) x xs)
  where
    told : (b : Bool) → sum_by f (filter test xs) ≡ sum_by (λ y. cond {A = ℕ} (test y) (f y) 0) xs → sum_by f (cond b (x ∷ filter test xs) (filter test xs)) ≡ cond {A = ℕ} b (f x) 0 + sum_by (λ y. cond {A = ℕ} (test y) (f y) 0) xs
    told true rest = omega (arith, rest, sum_by-cons f x (filter test xs))
    told false rest = omega (arith, rest)

one_by_one : (a b : Bool) (v : ℕ) → cond {A = ℕ} (a && b) v 0 ≡ cond {A = ℕ} a (cond b v 0) 0
one_by_one true b v = refl
one_by_one false b v = refl

-- ---- the sum over firms of what each has is the sum over all rows

-- the number is one of these
abbrev IsIn : List ℕ → ℕ → Type 0
IsIn es n = is_some (find_row number_key es (number_key n)) ≡ true

other : (e n : ℕ) → is_key (number_key e) (number_key n) ≡ false → n == e ≡ false
other e n h = grind (arith, nat_tests)

also_other : (e n : ℕ) → e == n ≡ false → n == e ≡ false
also_other e n h = grind (arith, nat_tests)

-- an amount at one of several numbers
at_none : (n v : ℕ) (es : List ℕ) → find_row number_key es (number_key n) ≡ None → sum_by (λ e. cond {A = ℕ} (n == e) v 0) es ≡ 0
at_none n v [] none = refl
at_none n v (e ∷ es) none =
    let parts = other_row number_key e es (number_key n) none in
    let here : cond {A = ℕ} (n == e) v 0 ≡ 0 = ap (λ b. cond {A = ℕ} b v 0) (other e n parts.0) in
    omega (arith, here, at_none n v es parts.1, sum_by-cons (λ (d : ℕ). cond {A = ℕ} (n == d) v 0) e es)

at_one : (n v : ℕ) (es : List ℕ) → AreOnce number_key es → IsIn es n → sum_by (λ e. cond {A = ℕ} (n == e) v 0) es ≡ v
at_one n v [] once there = absurd (cc there)
at_one n v (e ∷ es) once there = told (e == n) refl there (at_one n v es once.1)
  where
    sum : sum_by (λ d. cond {A = ℕ} (n == d) v 0) (e ∷ es) ≡ cond {A = ℕ} (n == e) v 0 + sum_by (λ d. cond {A = ℕ} (n == d) v 0) es
    sum = sum_by-cons (λ (d : ℕ). cond {A = ℕ} (n == d) v 0) e es

    told : (b : Bool) → e == n ≡ b → is_some (cond (b && true) (Some e) (find_row number_key es (number_key n))) ≡ true → (IsIn es n → sum_by (λ d. cond {A = ℕ} (n == d) v 0) es ≡ v) → sum_by (λ d. cond {A = ℕ} (n == d) v 0) (e ∷ es) ≡ v
    told true is on rest =
        let same : e ≡ n = same_worker e n is in
        let here : cond {A = ℕ} (n == e) v 0 ≡ v = (λ i. cond {A = ℕ} (n == same i) v 0) ∙ ap (λ b. cond {A = ℕ} b v 0) (itself n) in
        omega (arith, sum, here, at_none n v es (subst (λ (m : ℕ). find_row number_key es (number_key m) ≡ None) same once.0))
    told false is on rest =
        let here : cond {A = ℕ} (n == e) v 0 ≡ 0 = ap (λ b. cond {A = ℕ} b v 0) (also_other e n is) in
        omega (arith, sum, here, rest on)

module _ (es : List ℕ) (once : AreOnce number_key es) where
  module _ {Row : Type 0} (firm : Row → Option ℕ) (cents : Row → ℕ) where
    -- what a row has for a firm
    abbrev had_by : ℕ → Row → ℕ
    had_by e row = cond {A = ℕ} (option_map_or (λ f. f == e) (firm row) false) (cents row) 0

    -- and for any
    abbrev had : Row → ℕ
    had row = cond {A = ℕ} (is_some (firm row)) (cents row) 0

    of_firms : (rows : List Row) → AllByRecursion (λ row. IfSome (firm row) (IsIn es)) rows → sum_by (λ e. sum_by (had_by e) rows) es ≡ sum_by had rows
    of_firms [] all = sum_by-none es
    of_firms (row ∷ rows) all =
        (λ i. sum_by (λ e. sum_by-cons (had_by e) row rows i) es)
        ∙ sum_by-add (λ e. had_by e row) (λ e. sum_by (had_by e) rows) es
        ∙ (λ i. one (firm row) all.0 i + of_firms rows all.1 i)
        ∙ sym (sum_by-cons had row rows)
      where
        one : (o : Option ℕ) → IfSome o (IsIn es) → sum_by (λ e. cond {A = ℕ} (option_map_or (λ f. f == e) o false) (cents row) 0) es ≡ cond {A = ℕ} (is_some o) (cents row) 0
        one None h = sum_by-none es
        one (Some n) h = at_one n (cents row) es once h

-- ---- the cents of a purpose

module _ (p : Purpose) where
  abbrev cents_of_line : BankRow → ℕ
  cents_of_line row = cond {A = ℕ} (same_purpose row.line.purpose p) row.line.cents 0

  abbrev cents_of : CreditRow → ℕ
  cents_of credit = cond {A = ℕ} (same_purpose credit.purpose p) credit.cents 0

  lines-sum : (rows : List BankRow) → line_cents p rows ≡ sum_by cents_of_line rows
  lines-sum rows = sum_by-filter (λ (row : BankRow). row.line.cents) (λ row. same_purpose row.line.purpose p) rows

  some_lines-sum : (test : BankRow → Bool) (rows : List BankRow) → line_cents p (filter test rows) ≡ sum_by (λ row. cond {A = ℕ} (test row) (cents_of_line row) 0) rows
  some_lines-sum test rows = lines-sum (filter test rows) ∙ sum_by-filter cents_of_line test rows

  -- a line has a firm or is in suspense
  lines-split : (rows : List BankRow) → line_cents p rows ≡ sum_by (λ row. cond {A = ℕ} (is_some row.employer) (cents_of_line row) 0) rows + line_cents p (filter is_in_suspense rows)
  lines-split rows =
      lines-sum rows
      ∙ (λ i. sum_by (λ row. either row.employer (cents_of_line row) i) rows)
      ∙ sum_by-add (λ (row : BankRow). cond {A = ℕ} (is_some row.employer) (cents_of_line row) 0) (λ row. cond {A = ℕ} (is_none row.employer) (cents_of_line row) 0) rows
      ∙ ap (λ n. sum_by (λ row. cond {A = ℕ} (is_some row.employer) (cents_of_line row) 0) rows + n) (sym (some_lines-sum is_in_suspense rows))
    where
      either : (o : Option ℕ) (v : ℕ) → v ≡ cond {A = ℕ} (is_some o) v 0 + cond {A = ℕ} (is_none o) v 0
      either None v = omega arith
      either (Some e) v = omega arith

  -- the payments of a firm are its lines and its set-offs
  module _ (e : ℕ) where
    abbrev paid_by : CreditRow → ℕ
    paid_by credit = cond {A = ℕ} (is_credit_of e p credit) credit.cents 0

    paid_by_lines : (rows : List BankRow) → sum_by paid_by (credits_of_lines rows) ≡ sum_by (λ row. cond {A = ℕ} (is_line_of e row) (cents_of_line row) 0) rows
    paid_by_lines [] = refl
    paid_by_lines (row ∷ rows) =
        told row.employer (paid_by_lines rows) ∙ sym (sum_by-cons (λ (r : BankRow). cond {A = ℕ} (is_line_of e r) (cents_of_line r) 0) row rows)
      where
        told : (o : Option ℕ) → sum_by paid_by (credits_of_lines rows) ≡ sum_by (λ r. cond {A = ℕ} (is_line_of e r) (cents_of_line r) 0) rows
            → sum_by paid_by (cons_option (credit_of_line row o) (credits_of_lines rows)) ≡ cond {A = ℕ} (option_map_or (λ f. f == e) o false) (cents_of_line row) 0 + sum_by (λ r. cond {A = ℕ} (is_line_of e r) (cents_of_line r) 0) rows
        told None rest = omega (arith, rest)
        told (Some f) rest =
            omega (arith, rest, sum_by-cons paid_by (line_credit row f) (credits_of_lines rows), one_by_one (f == e) (same_purpose row.line.purpose p) row.line.cents)

    set_offs-apart : (offs : List CreditRow) → sum_by paid_by offs ≡ sum_by (λ credit. cond {A = ℕ} (credit.employer == e) (cents_of credit) 0) offs
    set_offs-apart offs = (λ i. sum_by (λ credit. one_by_one (credit.employer == e) (same_purpose credit.purpose p) credit.cents i) offs)

    paid_of_firm : (xs : List Entry) → credited (credits_under (credits_standing xs) e p) ≡ line_cents p (filter (is_line_of e) (lines_standing xs)) + sum_by (λ credit. cond {A = ℕ} (credit.employer == e) (cents_of credit) 0) (set_offs xs)
    paid_of_firm xs =
        let offs = set_offs xs in
        let lines = lines_standing xs in
        let made : sum_by paid_by (credits_standing xs) ≡ 0 + sum_by paid_by (credits_made xs) = sum_by-with_rows credit_key paid_by [] (credits_made xs) in
        omega (arith, among-cents e p (credits_standing xs), made, sum_by-append paid_by offs (credits_of_lines lines), paid_by_lines lines, set_offs-apart offs, some_lines-sum (is_line_of e) lines)

-- ---- each line's firm and each set-off's is registered

-- the firm of a row, if it has one, is registered
abbrev HasFirm : List Entry → BankRow → Type 0
HasFirm xs row = IfSome row.employer (λ e. is_some (member_of xs e) ≡ true)

abbrev IsFirms : List Entry → CreditRow → Type 0
IsFirms xs credit = is_some (member_of xs credit.employer) ≡ true

firm-registered : (is_registered : ℕ → Bool) (line : BankLine) → IfSome (employer_of_line is_registered line) (λ e. is_registered e ≡ true)
firm-registered is_registered line = told line.employer
  where
    kept : (e : ℕ) (b : Bool) → is_registered e ≡ b → IfSome (cond b (Some e) None) (λ f. is_registered f ≡ true)
    kept e true is = is
    kept e false is = tt

    told : (o : Option ℕ) → IfSome (option_and_then (λ e. cond (is_registered e) (Some e) None) o) (λ e. is_registered e ≡ true)
    told None = tt
    told (Some e) = kept e (is_registered e) refl

rows-registered : (is_registered : ℕ → Bool) (last : ℕ) (new : List Placed) → AllByRecursion (λ row. IfSome row.employer (λ e. is_registered e ≡ true)) (rows_from is_registered last new)
rows-registered is_registered last [] = tt
rows-registered is_registered last (placed ∷ new) = (firm-registered is_registered placed.1, rows-registered is_registered (last + 1) new)

by-registered : (xs : List Entry) (seen : List BankRow) (command : Command) → AllByRecursion (HasFirm xs) (rows_by xs seen command)
by-registered xs seen (ImportBank file) =
    rows-registered (λ e. is_some (member_of xs e)) (serials_of xs seen) (new_lines (lines_of_rows seen) (lines_in file))
by-registered xs seen command = tt

still_firm : (xs : List Entry) (x : Entry) (row : BankRow) → HasFirm xs row → HasFirm (x ∷ xs) row
still_firm xs x row h = told row.employer h
  where
    told : (o : Option ℕ) → IfSome o (λ e. is_some (member_of xs e) ≡ true) → IfSome o (λ e. is_some (member_of (x ∷ xs) e) ≡ true)
    told None h = tt
    told (Some e) h = still_member xs x e h

-- a line is assigned to a firm that is registered
assigned-registered : (xs : List Entry) (a : Assignment) (rows : List BankRow) → is_some (member_of xs a.employer) ≡ true → AllByRecursion (HasFirm xs) rows → AllByRecursion (HasFirm xs) (map (assigned a) rows)
assigned-registered xs a [] member h = tt
assigned-registered xs a (row ∷ rows) member h = (told (is_key (bank_key row) a.reference), assigned-registered xs a rows member h.1)
  where
    told : (b : Bool) → HasFirm xs (cond b (record row { employer = Some a.employer }) row)
    told true = member
    told false = h.0

moved-registered : (b : Book) (t : ℕ) (command : Command) (rows : List BankRow) → own_rule b t command ≡ None → AllByRecursion (HasFirm b.entries) rows → AllByRecursion (HasFirm b.entries) (moved_by command rows)
moved-registered b t (Assign a) rows own h =
    assigned-registered b.entries a rows (accepted_assignment b t a own).member h
moved-registered b t command rows own h = h

standing-registered : (rates : RateTable) (xs : List Entry) → AreJudged rates xs → AllByRecursion (HasFirm xs) (lines_standing xs)
standing-registered rates [] h = tt
standing-registered rates (x ∷ xs) h =
    let rows = rows_by xs (lines_seen xs) x.command in
    let lines = moved_by x.command (lines_standing xs) in
    both (HasFirm (x ∷ xs)) lines rows
    (each (HasFirm xs) (HasFirm (x ∷ xs)) (still_firm xs x) lines
    (moved-registered (record { opening = rates; entries = xs }) x.day x.command (lines_standing xs) (accepted rates x xs h).1 (standing-registered rates xs h.0)))
    (each (HasFirm xs) (HasFirm (x ∷ xs)) (still_firm xs x) rows (by-registered xs (lines_seen xs) x.command))

same_firm : (t : ℕ) (reply : Reply) (claim : ClaimRow) → (released_by t reply claim).employer ≡ claim.employer
same_firm t (release_of settlement) claim = refl
same_firm t reply claim = refl

offs_by-registered : (xs : List Entry) (t : ℕ) (reply : Reply) (command : Command) → AllByRecursion (λ claim. is_some (member_of xs claim.employer) ≡ true) (claims_of xs) → AllByRecursion (IsFirms xs) (set_offs_by xs t reply command)
offs_by-registered xs t reply (Release number) all = told (claim_of xs number) refl
  where
    told : (o : Option ClaimRow) → claim_of xs number ≡ o → AllByRecursion (IsFirms xs) (option_map_or (λ claim. set_offs_of (released_by t reply claim) (serial_count xs + 1)) o [])
    told None is = tt
    told (Some claim) is =
        let member = found_holds claim_key (λ (c : ClaimRow). is_some (member_of xs c.employer) ≡ true) (claims_of xs) (number ∷ []) claim all is in
        let here = subst (λ (e : ℕ). is_some (member_of xs e) ≡ true) (sym (same_firm t reply claim)) member in
        set_offs-all (IsFirms xs) (released_by t reply claim) (serial_count xs + 1) (λ release state. (λ some. here, λ some. here))
offs_by-registered xs t reply command all = tt

set_offs-registered : (rates : RateTable) (xs : List Entry) → AreJudged rates xs → AllByRecursion (IsFirms xs) (set_offs xs)
set_offs-registered rates [] h = tt
set_offs-registered rates (x ∷ xs) h =
    let more = set_offs_by xs x.day x.reply x.command in
    let still = λ (credit : CreditRow) (is : IsFirms xs credit). still_member xs x credit.employer is in
    both (IsFirms (x ∷ xs)) (set_offs xs) more
    (each (IsFirms xs) (IsFirms (x ∷ xs)) still (set_offs xs) (set_offs-registered rates xs h.0))
    (each (IsFirms xs) (IsFirms (x ∷ xs)) still more (offs_by-registered xs x.day x.reply x.command (claims-registered rates xs h.0)))

-- ---- all firms

module _ (b : Book) (lawful : IsLawful b) where
  firms-once : AreOnce number_key (employers_of b.entries)
  firms-once = in_order-once number_key (employers_of b.entries) (employers_right b lawful).order

  there : (e : ℕ) → is_some (member_of b.entries e) ≡ true → IsIn (employers_of b.entries) e
  there e h = (employers_right b lawful).registered e ∙ h

  lines-there : AllByRecursion (λ row. IfSome row.employer (IsIn (employers_of b.entries))) (lines_standing b.entries)
  lines-there =
      each (HasFirm b.entries) (λ row. IfSome row.employer (IsIn (employers_of b.entries))) (λ row h. told row.employer h) (lines_standing b.entries)
      (standing-registered b.opening b.entries lawful)
    where
      told : (o : Option ℕ) → IfSome o (λ e. is_some (member_of b.entries e) ≡ true) → IfSome o (IsIn (employers_of b.entries))
      told None h = tt
      told (Some e) h = there e h

  -- lines are those of firms and those in suspense
  pub lines_conserved : (p : Purpose) → standing_cents b p ≡ firm_cents b p + suspense_cents b p
  lines_conserved p =
      let lines = lines_standing b.entries in
      lines-split p lines
      ∙ ap (λ n. n + suspense_cents b p)
      (sym ((λ i. over_firms b (λ e. some_lines-sum p (is_line_of e) lines i))
      ∙ of_firms (employers_of b.entries) firms-once (λ (row : BankRow). row.employer) (cents_of_line p) lines lines-there))

  -- the payments of firms are their lines and the set-offs
  pub paid_conserved : (p : Purpose) → over_firms b (λ e. credited (credits_under (credits_standing b.entries) e p)) ≡ firm_cents b p + set_off_cents b p
  paid_conserved p =
      let offs = set_offs b.entries in
      (λ i. over_firms b (λ e. paid_of_firm p e b.entries i))
      ∙ sum_by-add (λ e. line_cents p (filter (is_line_of e) (lines_standing b.entries))) (λ e. sum_by (λ (credit : CreditRow). cond {A = ℕ} (credit.employer == e) (cents_of p credit) 0) offs) (employers_of b.entries)
      ∙ ap (λ n. firm_cents b p + n)
      (of_firms (employers_of b.entries) firms-once (λ (credit : CreditRow). Some credit.employer) (cents_of p) offs offs-there
      ∙ sym (sum_by-filter (λ (credit : CreditRow). credit.cents) (λ credit. same_purpose credit.purpose p) offs))
    where
      offs-there : AllByRecursion (λ credit. IfSome (Some credit.employer) (IsIn (employers_of b.entries))) (set_offs b.entries)
      offs-there =
          each (IsFirms b.entries) (λ credit. IfSome (Some credit.employer) (IsIn (employers_of b.entries))) (λ credit h. there credit.employer h) (set_offs b.entries)
          (set_offs-registered b.opening b.entries lawful)

  -- no cent of contributions is lost
  pub contributions_conserved : standing_cents b Contribution + set_off_cents b Contribution ≡ pieces_cents b + prepaid_cents b + suspense_cents b Contribution
  contributions_conserved =
      let kept : pieces_cents b + prepaid_cents b ≡ over_firms b (λ e. credited (credits_of b e)) =
      sym (sum_by-add (λ e. sum_by (λ (piece : Piece). piece.cents) (right_pieces (charges_of b e) (credits_of b e))) (λ e. prepaid (charges_of b e) (credits_of b e)) (employers_of b.entries))
      ∙ (λ i. over_firms b (λ e. credits_kept (charges_of b e) (credits_of b e) i)) in
      omega (arith, kept, paid_conserved Contribution, lines_conserved Contribution)
