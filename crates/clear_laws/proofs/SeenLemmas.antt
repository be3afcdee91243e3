-- What holds of each bank line that a book has seen, and of the credits that lines are.
use Rattle.std.proofs.Common.{◌≡◌, ℕ, ◌+◌, ◌*◌, ◌≤◌, List, [], ◌∷◌, length, filter, Option, Some, None, Result, Ok, Err, is_some, Bool, true, false, cond, nat_lt, refl, subst, arith}
use Rattle.std.proofs.lemmas.Bool.Decides.{nat_tests}
use Rattle.std.specs.List.{AllByRecursion, cons_option, enumerate_from, find}
use Rattle.std.specs.Option.{option_map_or}
use Rattle.clear_bank.specs.declared.fault.BankFault.{BankFault}
use Rattle.clear_values.specs.declared.lines.BankLine.{BankLine}
use Rattle.clear_bank.specs.Files.{file_lines}
use Rattle.clear_bank.specs.Newness.{Placed, is_new}
use Rattle.clear_values.specs.Ranges.{IsBankLine}
use Rattle.clear_bank.proofs.LengthLemmas.{few_lines}
use Rattle.clear_bank.proofs.RangeLemmas.{HaveRanges, file-lines-in-range}
use Rattle.clear_money.specs.Calendar.{IsDay}
use Rattle.clear_book.specs.declared.calls.Command.{Command}
use Rattle.clear_book.specs.declared.calls.Command.TheVariants.{ImportBank, Release}
use Rattle.clear_values.specs.declared.replies.Reply.{Reply}
use Rattle.clear_values.specs.declared.rows.BankRow.{BankRow}
use Rattle.clear_values.specs.declared.replies.Settlement.{Settlement}
use Rattle.clear_values.specs.declared.rows.ClaimRow.{ClaimRow}
use Rattle.clear_values.specs.declared.rows.ClaimState.TheVariants.{Released}
use Rattle.clear_values.specs.declared.rows.CreditRow.{CreditRow}
use Rattle.clear_values.specs.declared.rows.ReleasedClaim.{ReleasedClaim}
use Rattle.clear_book.specs.declared.rules.Rule.TheVariants.{DayBack}
use Rattle.clear_book.specs.Accounts.{credit_key, credits_standing}
use Rattle.clear_book.specs.Book.{RateTable, Book, Entry, ledger_day, member_of}
use Rattle.clear_book.specs.Judge.{day_back, own_rule, reply_to}
use Rattle.clear_book.specs.Laws.{IsBy}
use Rattle.clear_book.specs.Lines.{lines_or_none, lines_in, new_lines, rows_from, lines_of_rows, rows_brought, rows_by, lines_seen, lines_standing, lines_after, credit_of_line, credits_after, credits_made, credits_of_lines, serial_count, serials_of, set_offs, set_offs_by, set_offs_of, suspense_count, credit_count}
use Rattle.clear_book.specs.Machine.{AreJudged, IsLawful}
use Rattle.clear_values.specs.RowRanges.{IsClaimRow, IsCreditRow}
use Rattle.clear_book.specs.Own.ImportBank.{ahead_rule, is_ahead, import_rules}
use Rattle.clear_book.specs.Own.Release.{debts_of, release_reply, settles}
use Rattle.clear_book.specs.Tables.{claim_key}
use Rattle.clear_book.specs.Workers.{claim_of, claims_of, released, released_by}
use Rattle.clear_laws.proofs.ChecksLemmas.{none_applies, when-none}
use Rattle.clear_laws.proofs.ClaimsLemmas.{claims-in-range, released_in_range}
use Rattle.clear_laws.proofs.JudgeLemmas.{unrefused}
use Rattle.clear_values.proofs.CreditRowsLemmas.{claim_set_offs-in-range, set_offs-all}
use Rattle.clear_values.proofs.KeyedChangesLemmas.{AllByRecursion-in_key_order, found_holds}
use Rattle.clear_laws.proofs.LimitsLemmas.{accepted, lawful_entries}
use Rattle.clear_laws.proofs.LinesLemmas.{length-rows_from, of_standing, own_count, serial_count-next}
use Rattle.clear_values.proofs.ListLemmas.{both, each}

-- ---- from a file's lines to rows and credits

module _ (P : BankLine → Type 0) where
  abbrev OfLine : BankRow → Type 0
  OfLine row = P row.line

  pub chosen : (test : Placed → Bool) (n : ℕ) (lines : List BankLine) → AllByRecursion P lines → AllByRecursion (λ (p : Placed). P p.1) (filter test (enumerate_from n lines))
  chosen test n [] h = tt
  chosen test n (line ∷ lines) h = told (test (n, line)) (chosen test (n + 1) lines h.1)
    where
      told : (b : Bool) → AllByRecursion (λ (p : Placed). P p.1) (filter test (enumerate_from (n + 1) lines)) → AllByRecursion (λ (p : Placed). P p.1) (cond b ((n, line) ∷ filter test (enumerate_from (n + 1) lines)) (filter test (enumerate_from (n + 1) lines)))
      told true rest = (h.0, rest)
      told false rest = rest

  of_rows : (is_registered : ℕ → Bool) (last : ℕ) (new : List Placed) → AllByRecursion (λ (p : Placed). P p.1) new → AllByRecursion OfLine (rows_from is_registered last new)
  of_rows is_registered last [] h = tt
  of_rows is_registered last (p ∷ new) h = (h.0, of_rows is_registered (last + 1) new h.1)

-- ---- each line is in range

-- the line of a row is in range
abbrev pub HasRanges : BankRow → Type 0
HasRanges row = IsBankLine row.line

pub lines-in-range : (file : List ℕ) → AllByRecursion IsBankLine (lines_in file)
unfolding lines_in
lines-in-range file = told (file_lines 10000 file) (file-lines-in-range 10000 file)
  where
    told : (r : Result (List BankLine) BankFault) → HaveRanges r → AllByRecursion IsBankLine (lines_or_none r)
    told (Ok lines) h = h
    told (Err fault) h = tt

by-in-range : (xs : List Entry) (seen : List BankRow) (command : Command) → AllByRecursion HasRanges (rows_by xs seen command)
by-in-range xs seen (ImportBank file) =
    of_rows IsBankLine (λ e. is_some (member_of xs e)) (serials_of xs seen) (new_lines (lines_of_rows seen) (lines_in file))
    (chosen IsBankLine (is_new (lines_of_rows seen) (lines_in file)) 0 (lines_in file) (lines-in-range file))
by-in-range xs seen command = tt

-- each line that a book has seen is in range
pub seen-in-range : (xs : List Entry) → AllByRecursion HasRanges (lines_seen xs)
seen-in-range [] = tt
seen-in-range (x ∷ xs) = both HasRanges (lines_seen xs) (rows_by xs (lines_seen xs) x.command) (seen-in-range xs) (by-in-range xs (lines_seen xs) x.command)

-- ---- each request takes at most 10,000 serials

pub file-few : (file : List ℕ) → length (lines_in file) ≤ 10000
unfolding lines_in
file-few file = told (file_lines 10000 file) refl
  where
    told : (r : Result (List BankLine) BankFault) → file_lines 10000 file ≡ r → length (lines_or_none r) ≤ 10000
    told (Ok lines) is = few_lines 10000 file lines is
    told (Err fault) is = omega arith

chosen-few : {A : Type 0} (test : A → Bool) (xs : List A) → length (filter test xs) ≤ length xs
chosen-few test [] = omega arith
chosen-few test (x ∷ xs) = told (test x) (chosen-few test xs)
  where
    told : (b : Bool) → length (filter test xs) ≤ length xs → length (cond b (x ∷ filter test xs) (filter test xs)) ≤ length (x ∷ xs)
    told true h = omega (arith, h)
    told false h = omega (arith, h)

placed-length : (n : ℕ) (lines : List BankLine) → length (enumerate_from n lines) ≡ length lines
placed-length n [] = refl
placed-length n (line ∷ lines) = let rest = placed-length (n + 1) lines in omega (arith, rest)

pub by-few : (xs : List Entry) (seen : List BankRow) (command : Command) → length (rows_by xs seen command) + own_count command ≤ 10000
by-few xs seen (ImportBank file) =
    let known = lines_of_rows seen in
    let new = new_lines known (lines_in file) in
    let rows : length (rows_brought xs seen file) ≡ length new = length-rows_from (λ e. is_some (member_of xs e)) (serials_of xs seen) new in
    omega (arith, rows, chosen-few (is_new known (lines_in file)) (enumerate_from 0 (lines_in file)), placed-length 0 (lines_in file), file-few file)
by-few xs seen command = omega arith

serials-few : (xs : List Entry) → serial_count xs ≤ 10000 * length xs
serials-few [] = omega arith
serials-few (x ∷ xs) = omega (arith, serials-few xs, by-few xs (lines_seen xs) x.command, serial_count-next xs x)

-- a lawful book has given at most 500,000,000,000 serials
pub lawful_serials : (rates : RateTable) (xs : List Entry) → AreJudged rates xs → serial_count xs ≤ 500000000000
lawful_serials rates xs h = omega (arith, serials-few xs, lawful_entries rates xs h)

-- ---- no line has a value date after the last request

come : (t : ℕ) (new : List Placed) → ahead_rule (find (is_ahead t) new) ≡ None → AllByRecursion (λ (p : Placed). p.1.value ≤ t) new
come t [] h = tt
come t (p ∷ new) h = told (nat_lt t p.1.value) refl h (come t new)
  where
    within : nat_lt t p.1.value ≡ false → p.1.value ≤ t
    within k = grind (arith, nat_tests)

    told : (b : Bool) → nat_lt t p.1.value ≡ b → ahead_rule (cond b (Some p) (find (is_ahead t) new)) ≡ None → (ahead_rule (find (is_ahead t) new) ≡ None → AllByRecursion (λ (q : Placed). q.1.value ≤ t) new) → AllByRecursion (λ (q : Placed). q.1.value ≤ t) (p ∷ new)
    told true is k rest = absurd (cc)
    told false is k rest = (within is, rest k)

by-come : (b : Book) (t : ℕ) (command : Command) → own_rule b t command ≡ None → AllByRecursion (λ row. row.line.value ≤ t) (rows_by b.entries (lines_seen b.entries) command)
by-come b t (ImportBank file) own =
    let seen = lines_seen b.entries in
    let new = new_lines (lines_of_rows seen) (lines_in file) in
    let none = none_applies (import_rules (lines_of_rows seen) (rows_brought b.entries seen file) (suspense_count (lines_after b.entries file)) (credit_count (credits_after b.entries file)) t file) own in
    of_rows (λ line. line.value ≤ t) (λ e. is_some (member_of b.entries e)) (serial_count b.entries) new (come t new none.1.1.0)
by-come b t command own = tt

-- a day that had come by the ledger day has come by a later one
pub still_by : (ledger : Option ℕ) (t v : ℕ) → day_back ledger t ≡ None → IsBy ledger v → v ≤ t
still_by None t v h by = absurd by
still_by (Some ledger) t v h by = later (when-none (nat_lt t ledger) (DayBack ledger) h)
  where
    later : nat_lt t ledger ≡ false → v ≤ t
    later k = let low : ledger ≤ t = grind (arith, nat_tests) in omega (arith, low, by)

seen-come : (rates : RateTable) (xs : List Entry) → AreJudged rates xs → AllByRecursion (λ row. IsBy (ledger_day xs) row.line.value) (lines_seen xs)
seen-come rates [] h = tt
seen-come rates (x ∷ xs) h =
    let b : Book = record { opening = rates; entries = xs } in
    let order = (unrefused b x.caller x.number x.day x.command x.reply h.2).in_order in
    both (λ row. row.line.value ≤ x.day) (lines_seen xs) (rows_by xs (lines_seen xs) x.command)
    (each (λ row. IsBy (ledger_day xs) row.line.value) (λ row. row.line.value ≤ x.day) (λ row by. still_by (ledger_day xs) x.day row.line.value order by) (lines_seen xs) (seen-come rates xs h.0))
    (by-come b x.day x.command (accepted rates x xs h).1)

-- ---- credits

-- what holds of each line under its firm holds of each credit
module _ (P : BankRow → Type 0) (Q : CreditRow → Type 0) (credited : (row : BankRow) (e : ℕ) → row.employer ≡ Some e → P row → (credit : CreditRow) → credit_of_line row (Some e) ≡ Some credit → Q credit) where
  pub of_credits : (rows : List BankRow) → AllByRecursion P rows → AllByRecursion Q (credits_of_lines rows)
  of_credits [] h = tt
  of_credits (row ∷ rows) h = told row.employer refl (of_credits rows h.1)
    where
      told : (o : Option ℕ) → row.employer ≡ o → AllByRecursion Q (credits_of_lines rows) → AllByRecursion Q (cons_option (credit_of_line row o) (credits_of_lines rows))
      told None is rest = rest
      told (Some e) is rest = (credited row e is h.0 _ refl, rest)

-- ---- set-offs

-- what holds of the set-offs of a claim that is released with a reply, whichever claim has the number
by_claim : (Q : CreditRow → Type 0) (b : Book) (t number : ℕ) (reply : Reply) → reply_to b t (Release number) ≡ reply
    → ((claim : ClaimRow) → claim_of b.entries number ≡ Some claim → release_reply (Some claim) (λ row. debts_of b t row.employer) ≡ reply → AllByRecursion Q (set_offs_of (released_by t reply claim) (serial_count b.entries + 1)))
    → AllByRecursion Q (set_offs_by b.entries t reply (Release number))
by_claim Q b t number reply replied each = told (claim_of b.entries number) refl replied
  where
    told : (o : Option ClaimRow) → claim_of b.entries number ≡ o → release_reply o (λ row. debts_of b t row.employer) ≡ reply → AllByRecursion Q (option_map_or (λ claim. set_offs_of (released_by t reply claim) (serial_count b.entries + 1)) o [])
    told None is said = tt
    told (Some claim) is said = each claim is said

-- a set-off is of the day on which its command was accepted
set_off-days : (b : Book) (t : ℕ) (reply : Reply) (command : Command) → reply_to b t command ≡ reply → AllByRecursion (λ credit. credit.day ≡ t) (set_offs_by b.entries t reply command)
set_off-days b t reply (Release number) replied =
    by_claim (λ credit. credit.day ≡ t) b t number reply replied
    (λ claim is said. subst (λ (r : Reply). AllByRecursion (λ credit. credit.day ≡ t) (set_offs_of (released_by t r claim) (serial_count b.entries + 1))) said
    (set_offs-all (λ credit. credit.day ≡ t) (released t (settles (debts_of b t claim.employer) claim) claim) (serial_count b.entries + 1) (λ release same. (λ some. day release same, λ some. day release same))))
  where
    day : {settlement : Settlement} (release : ReleasedClaim) → Released (record { day = t; settlement = settlement; list = None }) ≡ Released release → release.day ≡ t
    day release same = cc same
set_off-days b t reply command replied = tt

-- and in range
set_off-in-range : (b : Book) (t : ℕ) (reply : Reply) (command : Command) → IsLawful b → IsDay t → reply_to b t command ≡ reply → serial_count b.entries + own_count command ≤ 500000000000 → AllByRecursion IsCreditRow (set_offs_by b.entries t reply command)
set_off-in-range b t reply (Release number) lawful day replied room =
    by_claim IsCreditRow b t number reply replied
    (λ claim is said. claim_set_offs-in-range (released_by t reply claim) (serial_count b.entries + 1)
    (released_in_range t reply (λ row. debts_of b t row.employer) claim day said (found_holds claim_key IsClaimRow (claims_of b.entries) (number ∷ []) claim (claims-in-range b.opening b.entries lawful) is))
    (omega arith, omega (arith, room)))
set_off-in-range b t reply command lawful day replied room = tt

pub set_offs-in-range : (rates : RateTable) (xs : List Entry) → AreJudged rates xs → AllByRecursion IsCreditRow (set_offs xs)
set_offs-in-range rates [] h = tt
set_offs-in-range rates (x ∷ xs) h =
    let b : Book = record { opening = rates; entries = xs } in
    let said = unrefused b x.caller x.number x.day x.command x.reply h.2 in
    both IsCreditRow (set_offs xs) (set_offs_by xs x.day x.reply x.command) (set_offs-in-range rates xs h.0)
    (set_off-in-range b x.day x.reply x.command h.0 h.1.2 said.replied (omega (arith, lawful_serials rates (x ∷ xs) h, serial_count-next xs x)))

set_offs-come : (rates : RateTable) (xs : List Entry) → AreJudged rates xs → AllByRecursion (λ credit. IsBy (ledger_day xs) credit.day) (set_offs xs)
set_offs-come rates [] h = tt
set_offs-come rates (x ∷ xs) h =
    let b : Book = record { opening = rates; entries = xs } in
    let said = unrefused b x.caller x.number x.day x.command x.reply h.2 in
    let order = said.in_order in
    both (λ credit. credit.day ≤ x.day) (set_offs xs) (set_offs_by xs x.day x.reply x.command)
    (each (λ (credit : CreditRow). IsBy (ledger_day xs) credit.day) (λ credit. credit.day ≤ x.day) (λ credit by. still_by (ledger_day xs) x.day credit.day order by) (set_offs xs) (set_offs-come rates xs h.0))
    (each (λ (credit : CreditRow). credit.day ≡ x.day) (λ credit. credit.day ≤ x.day) (λ credit is. omega (arith, is)) (set_offs_by xs x.day x.reply x.command) (set_off-days b x.day x.reply x.command said.replied))

-- ---- all credits

-- each credit's day has come
pub credits-come : (rates : RateTable) (xs : List Entry) → AreJudged rates xs → AllByRecursion (λ row. IsBy (ledger_day xs) row.day) (credits_standing xs)
credits-come rates xs h =
    AllByRecursion-in_key_order credit_key (λ row. IsBy (ledger_day xs) row.day) (credits_made xs)
    (both (λ row. IsBy (ledger_day xs) row.day) (set_offs xs) (credits_of_lines (lines_standing xs)) (set_offs-come rates xs h)
    (of_credits (λ row. IsBy (ledger_day xs) row.line.value) (λ row. IsBy (ledger_day xs) row.day)
    (λ row e is by credit made. subst (λ (o : Option CreditRow). DayBy o) made by) (lines_standing xs)
    (of_standing (λ p. IsBy (ledger_day xs) p.0.value) xs (seen-come rates xs h))))
  where
    DayBy : Option CreditRow → Type 0
    DayBy None = ⊥
    DayBy (Some credit) = IsBy (ledger_day xs) credit.day
