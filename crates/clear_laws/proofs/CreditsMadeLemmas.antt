-- The credits of a book: of set-offs and lines, each with a serial that no other has for its purpose.
use Rattle.std.proofs.Common.{◌≡◌, ℕ, ◌+◌, ◌<◌, ◌≤◌, ◌⊎◌, inl, inr, List, [], ◌∷◌, ◌++◌, length, Option, Some, None, Bool, true, false, cond, ◌&&◌, ◌==◌, nat_lt, refl, sym, ap, ◌∙◌, subst, arith, append_assoc}
use Rattle.std.proofs.lemmas.List.{append-nil}
use Rattle.std.proofs.lemmas.List.Sums.{count_by-le-length, sum_by-append, sum_by-cons}
use Rattle.std.specs.List.{cons_option, AllByRecursion}
use Rattle.std.specs.Option.{option_map_or}
use Rattle.clear_values.specs.declared.lines.Purpose.{Purpose}
use Rattle.clear_values.specs.declared.lines.Purpose.TheVariants.{Contribution, Interest}
use Rattle.clear_values.specs.Credits.{set_off, set_offs_at, set_offs_if}
use Rattle.clear_values.specs.Lines.{same_purpose}
use Rattle.clear_book.specs.declared.calls.Command.{Command}
use Rattle.clear_book.specs.declared.calls.Command.TheVariants.{ImportBank, Release}
use Rattle.clear_values.specs.declared.replies.Reply.{Reply}
use Rattle.clear_values.specs.declared.replies.Settlement.{Settlement}
use Rattle.clear_values.specs.declared.rows.BankRow.{BankRow}
use Rattle.clear_values.specs.declared.rows.ClaimRow.{ClaimRow}
use Rattle.clear_values.specs.declared.rows.ClaimState.{ClaimState}
use Rattle.clear_values.specs.declared.rows.ClaimState.TheVariants.{Open, Withdrawn, Released}
use Rattle.clear_values.specs.declared.rows.CreditRow.{CreditRow}
use Rattle.clear_values.specs.declared.rows.ReleasedClaim.{ReleasedClaim}
use Rattle.clear_book.specs.Accounts.{credit_key, rank_of}
use Rattle.clear_book.specs.Book.{Entry}
use Rattle.clear_values.specs.Keyed.{is_key, find_row, newer, AreOnce}
use Rattle.clear_book.specs.Lines.{credit_count, credit_of_line, credits_after, credits_made, credits_of_lines, is_credit_of, is_release, line_credit, lines_after, lines_seen, lines_standing, moved_by, release_count, rows_brought, rows_by, serial_count, set_offs, set_offs_by, set_offs_of}
use Rattle.clear_book.specs.Workers.{claim_of, released_by}
use Rattle.clear_values.proofs.CreditRowsLemmas.{set_off_row, set_offs-serial}
use Rattle.clear_values.proofs.KeyedLemmas.{other_row}
use Rattle.clear_values.proofs.KeyedRowsLemmas.{AreNew, AreOnce-append, find_row-append}
use Rattle.clear_laws.proofs.LinesLemmas.{credits_of_lines-append, length-standing, lines_or_release, none_moved, of_standing, own_count, release_count-next, serial_count-next, serials_above, serials_brought, serials_small, standing_once}
use Rattle.clear_values.proofs.ListLemmas.{both, each}
use Rattle.clear_values.specs.Tables.{serial_key}
use Rattle.clear_laws.proofs.SerialLemmas.{above-new, new-finer, none-above, none-up_to, of_both, once-finer}

-- ---- what a command sets off

-- the serial of a credit
abbrev serial_of : CreditRow → ℕ
serial_of credit = credit.serial

abbrev pub credit_serial : CreditRow → List ℕ
credit_serial credit = credit.serial ∷ []

-- the purpose and the serial of a credit
abbrev pub paid_key : CreditRow → List ℕ
paid_key credit = rank_of credit.purpose ∷ credit.serial ∷ []

-- each has the serial that the command takes
set_offs-serials : (xs : List Entry) (t : ℕ) (reply : Reply) (command : Command) → AllByRecursion (λ credit. (serial_count xs < credit.serial) × (credit.serial ≤ serial_count xs + own_count command)) (set_offs_by xs t reply command)
set_offs-serials xs t reply (Release number) = told (claim_of xs number)
  where
    told : (o : Option ClaimRow) → AllByRecursion (λ credit. (serial_count xs < credit.serial) × (credit.serial ≤ serial_count xs + 1)) (option_map_or (λ claim. set_offs_of (released_by t reply claim) (serial_count xs + 1)) o [])
    told None = tt
    told (Some claim) =
        each (λ (credit : CreditRow). credit.serial ≡ serial_count xs + 1) (λ credit. (serial_count xs < credit.serial) × (credit.serial ≤ serial_count xs + 1))
        (λ credit is. (omega (arith, is), omega (arith, is))) (set_offs_of (released_by t reply claim) (serial_count xs + 1)) (set_offs-serial (released_by t reply claim) (serial_count xs + 1))
set_offs-serials xs t reply command = tt

-- those of a claim have purposes of their own
claim_offs-apart : (claim : ClaimRow) (serial : ℕ) → AreOnce paid_key (set_offs_of claim serial)
claim_offs-apart claim serial = told claim.state
  where
    two : (day : ℕ) (a b : ℕ) (c d : Bool) → AreOnce paid_key (cond c (set_off_row claim day serial Contribution a ∷ []) [] ++ cond d (set_off_row claim day serial Interest b ∷ []) [])
    two day a b true true = (refl, (refl, tt))
    two day a b true false = (refl, tt)
    two day a b false true = (refl, tt)
    two day a b false false = tt

    told : (state : ClaimState) → AreOnce paid_key (set_offs_if claim serial state)
    told Open = tt
    told Withdrawn = tt
    told (Released release) =
        two release.day release.settlement.to_contributions release.settlement.to_interest (nat_lt 0 release.settlement.to_contributions) (nat_lt 0 release.settlement.to_interest)

-- so do those of a command
set_offs-apart : (xs : List Entry) (t : ℕ) (reply : Reply) (command : Command) → AreOnce paid_key (set_offs_by xs t reply command)
set_offs-apart xs t reply (Release number) = told (claim_of xs number)
  where
    told : (o : Option ClaimRow) → AreOnce paid_key (option_map_or (λ claim. set_offs_of (released_by t reply claim) (serial_count xs + 1)) o [])
    told None = tt
    told (Some claim) = claim_offs-apart (released_by t reply claim) (serial_count xs + 1)
set_offs-apart xs t reply command = tt

pub credit_count-append : (xs ys : List CreditRow) (e : ℕ) (p : Purpose) → credit_count (xs ++ ys) e p ≡ credit_count xs e p + credit_count ys e p
credit_count-append xs ys e p = sum_by-append (λ (credit : CreditRow). cond {A = ℕ} (is_credit_of e p credit) 1 0) xs ys

-- one set-off counts for its firm and its purpose, if it is above 0
set_off-count : (claim : ClaimRow) (day serial : ℕ) (purpose : Purpose) (cents e : ℕ) (p : Purpose)
    → credit_count (set_off claim day serial purpose cents) e p ≡ cond {A = ℕ} (claim.employer == e) (cond (same_purpose purpose p) (cond (nat_lt 0 cents) 1 0) 0) 0
set_off-count claim day serial purpose cents e p = told (nat_lt 0 cents)
  where
    row : CreditRow
    row = set_off_row claim day serial purpose cents

    counts : (f s : Bool) → cond {A = ℕ} (f && s) 1 0 ≡ cond {A = ℕ} f (cond s 1 0) 0
    counts true s = refl
    counts false s = refl

    none : (f s : Bool) → 0 ≡ cond {A = ℕ} f (cond s 0 0) 0
    none true true = refl
    none true false = refl
    none false s = refl

    told : (b : Bool) → credit_count (cond b (row ∷ []) []) e p ≡ cond {A = ℕ} (claim.employer == e) (cond (same_purpose purpose p) (cond b 1 0) 0) 0
    told true =
        let one = sum_by-cons (λ (credit : CreditRow). cond {A = ℕ} (is_credit_of e p credit) 1 0) row [] in
        let here = counts (claim.employer == e) (same_purpose purpose p) in
        omega (arith, one, here)
    told false = none (claim.employer == e) (same_purpose purpose p)

-- what of a settlement is for a purpose
abbrev pub part_for : Settlement → Purpose → ℕ
part_for settlement Contribution = settlement.to_contributions
part_for settlement Interest = settlement.to_interest

-- so a release has one credit for a purpose, if that part is above 0, and it is its firm's
pub release-count : (claim : ClaimRow) (serial : ℕ) (release : ReleasedClaim) (e : ℕ) (p : Purpose)
    → credit_count (set_offs_at claim serial release) e p ≡ cond {A = ℕ} (claim.employer == e) (cond (nat_lt 0 (part_for release.settlement p)) 1 0) 0
release-count claim serial release e p = both_counts ∙ told (claim.employer == e) p
  where
    first : List CreditRow
    first = set_off claim release.day serial Contribution release.settlement.to_contributions

    second : List CreditRow
    second = set_off claim release.day serial Interest release.settlement.to_interest

    counted : Bool → Purpose → Purpose → ℕ
    counted f purpose q = cond {A = ℕ} f (cond (same_purpose purpose q) (cond (nat_lt 0 (part_for release.settlement purpose)) 1 0) 0) 0

    both_counts : credit_count (first ++ second) e p ≡ counted (claim.employer == e) Contribution p + counted (claim.employer == e) Interest p
    both_counts =
        credit_count-append first second e p
        ∙ (λ i. set_off-count claim release.day serial Contribution release.settlement.to_contributions e p i + set_off-count claim release.day serial Interest release.settlement.to_interest e p i)

    told : (f : Bool) (q : Purpose) → counted f Contribution q + counted f Interest q ≡ cond {A = ℕ} f (cond (nat_lt 0 (part_for release.settlement q)) 1 0) 0
    told true Contribution = omega arith
    told true Interest = omega arith
    told false q = refl

-- so of a purpose it has one at most
release-few : (claim : ClaimRow) (serial e : ℕ) (p : Purpose) → credit_count (set_offs_of claim serial) e p ≤ 1
release-few claim serial e p = told claim.state
  where
    at_most : (f s : Bool) → cond {A = ℕ} f (cond s 1 0) 0 ≤ 1
    at_most true true = omega arith
    at_most true false = omega arith
    at_most false s = omega arith

    told : (state : ClaimState) → credit_count (set_offs_if claim serial state) e p ≤ 1
    told Open = omega arith
    told Withdrawn = omega arith
    told (Released release) = omega (arith, release-count claim serial release e p, at_most (claim.employer == e) (nat_lt 0 (part_for release.settlement p)))

set_offs-few : (xs : List Entry) (t : ℕ) (reply : Reply) (command : Command) (e : ℕ) (p : Purpose) → credit_count (set_offs_by xs t reply command) e p ≤ own_count command
set_offs-few xs t reply (Release number) e p = told (claim_of xs number)
  where
    told : (o : Option ClaimRow) → credit_count (option_map_or (λ claim. set_offs_of (released_by t reply claim) (serial_count xs + 1)) o []) e p ≤ 1
    told None = omega arith
    told (Some claim) = release-few (released_by t reply claim) (serial_count xs + 1) e p
set_offs-few xs t reply command e p = omega arith

none_between : (n : ℕ) (credits : List CreditRow) → AllByRecursion (λ credit. (n < credit.serial) × (credit.serial ≤ n + 0)) credits → credits ≡ []
none_between n [] h = refl
none_between n (credit ∷ credits) h = let low = h.0.0 in let high = h.0.1 in absurd (omega (arith, low, high))

-- a command that is no release sets nothing off
pub no_set_offs : (xs : List Entry) (t : ℕ) (reply : Reply) (command : Command) → is_release command ≡ false → set_offs_by xs t reply command ≡ []
no_set_offs xs t reply command other =
    none_between (serial_count xs) (set_offs_by xs t reply command)
    (subst (λ b. AllByRecursion (λ credit. (serial_count xs < credit.serial) × (credit.serial ≤ serial_count xs + cond {A = ℕ} b 1 0)) (set_offs_by xs t reply command)) other (set_offs-serials xs t reply command))

-- ---- one entry more

-- the set-offs stay where there are none more, and the lines' credits come behind
pub made_with : (xs : List Entry) (x : Entry) (rows : List BankRow) → is_release x.command ≡ false → lines_standing (x ∷ xs) ≡ lines_standing xs ++ rows
    → credits_made (x ∷ xs) ≡ credits_made xs ++ credits_of_lines rows
made_with xs x rows other stand =
    let lines = credits_of_lines (lines_standing xs) in
    (λ i. (set_offs xs ++ no_set_offs xs x.day x.reply x.command other i) ++ credits_of_lines (stand i))
    ∙ (λ i. append-nil (set_offs xs) i ++ credits_of_lines-append (lines_standing xs) rows i)
    ∙ sym (append_assoc (set_offs xs) lines (credits_of_lines rows))

-- so it is with a file
pub lines_with : (xs : List Entry) (x : Entry) (file : List ℕ) → x.command ≡ ImportBank file → lines_standing (x ∷ xs) ≡ lines_after xs file
lines_with xs x file is =
    (λ i. moved_by (is i) (lines_standing xs) ++ rows_by xs (lines_seen xs) (is i))

after_made : (xs : List Entry) (rows : List BankRow) → set_offs xs ++ credits_of_lines (lines_standing xs ++ rows) ≡ credits_made xs ++ credits_of_lines rows
after_made xs rows =
    ap (λ (credits : List CreditRow). set_offs xs ++ credits) (credits_of_lines-append (lines_standing xs) rows) ∙ sym (append_assoc (set_offs xs) (credits_of_lines (lines_standing xs)) (credits_of_lines rows))

pub credits_with : (xs : List Entry) (x : Entry) (file : List ℕ) → x.command ≡ ImportBank file → credits_made (x ∷ xs) ≡ credits_after xs file
credits_with xs x file is =
    made_with xs x (rows_brought xs (lines_seen xs) file) (ap is_release is) (lines_with xs x file is) ∙ sym (after_made xs (rows_brought xs (lines_seen xs) file))

-- a command that brings no lines, moves none and is no release makes no credits
pub none_made : (xs : List Entry) (x : Entry) → ((rows : List BankRow) → moved_by x.command rows ≡ rows) → rows_by xs (lines_seen xs) x.command ≡ [] → is_release x.command ≡ false → credits_made (x ∷ xs) ≡ credits_made xs
none_made xs x still none other =
    (λ i. (set_offs xs ++ no_set_offs xs x.day x.reply x.command other i) ++ credits_of_lines (none_moved xs x still none i))
    ∙ ap (λ offs. offs ++ credits_of_lines (lines_standing xs)) (append-nil (set_offs xs))

-- ---- the credits of lines have the serials of these

none_paid : (s : ℕ) (rows : List BankRow) → find_row serial_key rows (s ∷ []) ≡ None → find_row credit_serial (credits_of_lines rows) (s ∷ []) ≡ None
none_paid s [] none = refl
none_paid s (row ∷ rows) none =
    let parts = other_row serial_key row rows (s ∷ []) none in
    told row.employer parts.0 (none_paid s rows parts.1)
  where
    told : (firm : Option ℕ) → is_key (row.serial ∷ []) (s ∷ []) ≡ false → find_row credit_serial (credits_of_lines rows) (s ∷ []) ≡ None
        → find_row credit_serial (cons_option (credit_of_line row firm) (credits_of_lines rows)) (s ∷ []) ≡ None
    told None other rest = rest
    told (Some e) other rest = ap (λ b. cond b (Some (line_credit row e)) (find_row credit_serial (credits_of_lines rows) (s ∷ []))) other ∙ rest

paid_once : (rows : List BankRow) → AreOnce serial_key rows → AreOnce credit_serial (credits_of_lines rows)
paid_once [] once = tt
paid_once (row ∷ rows) once = told row.employer (paid_once rows once.1)
  where
    told : (firm : Option ℕ) → AreOnce credit_serial (credits_of_lines rows) → AreOnce credit_serial (cons_option (credit_of_line row firm) (credits_of_lines rows))
    told None rest = rest
    told (Some e) rest = (none_paid row.serial rows once.0, rest)

paid_serials : (P : ℕ → Type 0) (rows : List BankRow) → AllByRecursion (λ row. P row.serial) rows → AllByRecursion (λ credit. P credit.serial) (credits_of_lines rows)
paid_serials P [] h = tt
paid_serials P (row ∷ rows) h = told row.employer (paid_serials P rows h.1)
  where
    told : (firm : Option ℕ) → AllByRecursion (λ credit. P credit.serial) (credits_of_lines rows) → AllByRecursion (λ credit. P credit.serial) (cons_option (credit_of_line row firm) (credits_of_lines rows))
    told None rest = rest
    told (Some e) rest = (h.0, rest)

-- those of the lines are at most the last that was given, and those of a command are above
seen-given : (xs : List Entry) → AllByRecursion (λ row. row.serial ≤ serial_count xs) (lines_seen xs)
seen-given xs =
    each (λ (row : BankRow). (1 ≤ row.serial) × (row.serial ≤ serial_count xs)) (λ row. row.serial ≤ serial_count xs) (λ row h. h.1) (lines_seen xs) (serials_small xs)

lines-given : (xs : List Entry) → AllByRecursion (λ credit. credit.serial ≤ serial_count xs) (credits_of_lines (lines_standing xs))
lines-given xs =
    paid_serials (λ s. s ≤ serial_count xs) (lines_standing xs) (of_standing (λ p. p.1 ≤ serial_count xs) xs (seen-given xs))

seen-above : (xs : List Entry) (command : Command) → AllByRecursion (λ row. serial_count xs < row.serial) (rows_by xs (lines_seen xs) command)
seen-above xs command =
    let rows = rows_by xs (lines_seen xs) command in
    each (λ (row : BankRow). (serial_count xs < row.serial) × (row.serial ≤ serial_count xs + length rows)) (λ row. serial_count xs < row.serial) (λ row h. h.0) rows (serials_above xs command)

lines-above : (xs : List Entry) (command : Command) → AllByRecursion (λ credit. serial_count xs < credit.serial) (credits_of_lines (rows_by xs (lines_seen xs) command))
lines-above xs command = paid_serials (λ s. serial_count xs < s) (rows_by xs (lines_seen xs) command) (seen-above xs command)

-- ---- set-offs and lines have serials apart

abbrev IsOwn : List Entry → Command → CreditRow → Type 0
IsOwn xs command credit = (serial_count xs < credit.serial) × (credit.serial ≤ serial_count xs + own_count command)

set_offs-above : (xs : List Entry) (x : Entry) → AllByRecursion (λ credit. serial_count xs < credit.serial) (set_offs_by xs x.day x.reply x.command)
set_offs-above xs x =
    each (IsOwn xs x.command) (λ credit. serial_count xs < credit.serial) (λ credit h. h.0) (set_offs_by xs x.day x.reply x.command) (set_offs-serials xs x.day x.reply x.command)

set_offs-given : (xs : List Entry) → AllByRecursion (λ credit. credit.serial ≤ serial_count xs) (set_offs xs)
set_offs-given [] = tt
set_offs-given (x ∷ xs) =
    let next = serial_count-next xs x in
    both (λ credit. credit.serial ≤ serial_count (x ∷ xs)) (set_offs xs) (set_offs_by xs x.day x.reply x.command)
    (each (λ (credit : CreditRow). credit.serial ≤ serial_count xs) (λ credit. credit.serial ≤ serial_count (x ∷ xs)) (λ credit h. omega (arith, h, next)) (set_offs xs) (set_offs-given xs))
    (each (IsOwn xs x.command) (λ credit. credit.serial ≤ serial_count (x ∷ xs)) (λ credit h. let high = h.1 in omega (arith, high, next)) (set_offs_by xs x.day x.reply x.command) (set_offs-serials xs x.day x.reply x.command))

-- no set-off has the serial
abbrev IsFree : List CreditRow → ℕ → Type 0
IsFree offs serial = find_row credit_serial offs (serial ∷ []) ≡ None

both_free : (offs more : List CreditRow) (s : ℕ) → IsFree offs s → IsFree more s → IsFree (offs ++ more) s
both_free offs more s one other =
    find_row-append credit_serial offs more (s ∷ []) ∙ (λ i. newer (one i) (other i))

-- a command has either set-offs or lines
either : (xs : List Entry) (x : Entry) → (rows_by xs (lines_seen xs) x.command ≡ []) ⊎ (is_release x.command ≡ false)
    → AllByRecursion (λ row. IsFree (set_offs_by xs x.day x.reply x.command) row.serial) (rows_by xs (lines_seen xs) x.command)
either xs x (inl none) = subst (λ (rows : List BankRow). AllByRecursion (λ row. IsFree (set_offs_by xs x.day x.reply x.command) row.serial) rows) (sym none) tt
either xs x (inr other) =
    subst (λ (offs : List CreditRow). AllByRecursion (λ row. IsFree offs row.serial) (rows_by xs (lines_seen xs) x.command)) (sym (no_set_offs xs x.day x.reply x.command other))
    (each (λ (row : BankRow). serial_count xs < row.serial) (λ row. IsFree [] row.serial) (λ row h. refl) (rows_by xs (lines_seen xs) x.command) (seen-above xs x.command))

-- no set-off has the serial of a line
seen-free : (xs : List Entry) → AllByRecursion (λ row. IsFree (set_offs xs) row.serial) (lines_seen xs)
seen-free [] = tt
seen-free (x ∷ xs) =
    let n = serial_count xs in
    let offs = set_offs xs in
    let more = set_offs_by xs x.day x.reply x.command in
    let rows = rows_by xs (lines_seen xs) x.command in
    both (λ row. IsFree (offs ++ more) row.serial) (lines_seen xs) rows
    (of_both (λ row. IsFree offs row.serial) (λ row. row.serial ≤ n) (λ row. IsFree (offs ++ more) row.serial)
    (λ row free low. both_free offs more row.serial free (none-above serial_of row.serial n more low (set_offs-above xs x))) (lines_seen xs) (seen-free xs) (seen-given xs))
    (of_both (λ row. n < row.serial) (λ row. IsFree more row.serial) (λ row. IsFree (offs ++ more) row.serial)
    (λ row above free. both_free offs more row.serial (none-up_to serial_of row.serial n offs above (set_offs-given xs)) free) rows (seen-above xs x.command)
    (either xs x (lines_or_release xs (lines_seen xs) x.command)))

free-new : (offs credits : List CreditRow) → AllByRecursion (λ credit. IsFree offs credit.serial) credits → AreNew credit_serial offs credits
free-new offs [] h = tt
free-new offs (credit ∷ credits) h = (h.0, free-new offs credits h.1)

lines-new : (xs : List Entry) → AreNew credit_serial (set_offs xs) (credits_of_lines (lines_standing xs))
lines-new xs =
    free-new (set_offs xs) (credits_of_lines (lines_standing xs))
    (paid_serials (IsFree (set_offs xs)) (lines_standing xs) (of_standing (λ p. IsFree (set_offs xs) p.1) xs (seen-free xs)))

-- ---- so each credit has a key of its own

purpose_too : (p s : Bool) → s && true ≡ false → p && (s && true) ≡ false
purpose_too true s h = h
purpose_too false s h = refl

all_too : (e p d s : Bool) → p && (s && true) ≡ false → e && (p && (d && (s && true))) ≡ false
all_too false p d s h = refl
all_too true false d s h = refl
all_too true true false s h = refl
all_too true true true s h = h

by_purpose : (x y : CreditRow) → is_key (credit_serial x) (credit_serial y) ≡ false → is_key (paid_key x) (paid_key y) ≡ false
by_purpose x y h = purpose_too (rank_of x.purpose == rank_of y.purpose) (x.serial == y.serial) h

by_key : (x y : CreditRow) → is_key (paid_key x) (paid_key y) ≡ false → is_key (credit_key x) (credit_key y) ≡ false
by_key x y h = all_too (x.employer == y.employer) (rank_of x.purpose == rank_of y.purpose) (x.day == y.day) (x.serial == y.serial) h

set_offs-once : (xs : List Entry) → AreOnce paid_key (set_offs xs)
set_offs-once [] = tt
set_offs-once (x ∷ xs) =
    let more = set_offs_by xs x.day x.reply x.command in
    AreOnce-append paid_key (set_offs xs) more (set_offs-once xs) (set_offs-apart xs x.day x.reply x.command)
    (new-finer credit_serial paid_key by_purpose (set_offs xs) more (above-new serial_of (serial_count xs) (set_offs xs) more (set_offs-given xs) (set_offs-above xs x)))

-- no serial stands twice for a purpose
pub made_once : (xs : List Entry) → AreOnce paid_key (credits_made xs)
made_once xs =
    let credits = credits_of_lines (lines_standing xs) in
    AreOnce-append paid_key (set_offs xs) credits (set_offs-once xs)
    (once-finer credit_serial paid_key by_purpose credits (paid_once (lines_standing xs) (standing_once xs)))
    (new-finer credit_serial paid_key by_purpose (set_offs xs) credits (lines-new xs))

pub credits_once : (xs : List Entry) → AreOnce credit_key (credits_made xs)
credits_once xs = once-finer paid_key credit_key by_key (credits_made xs) (made_once xs)

made-given : (xs : List Entry) → AllByRecursion (λ credit. credit.serial ≤ serial_count xs) (credits_made xs)
made-given xs =
    both (λ credit. credit.serial ≤ serial_count xs) (set_offs xs) (credits_of_lines (lines_standing xs)) (set_offs-given xs) (lines-given xs)

-- the set-offs of a command are new
pub set_offs_new : (xs : List Entry) (x : Entry) → AreOnce credit_key (set_offs_by xs x.day x.reply x.command) × AreNew credit_key (credits_made xs) (set_offs_by xs x.day x.reply x.command)
set_offs_new xs x =
    let more = set_offs_by xs x.day x.reply x.command in (
      once-finer paid_key credit_key by_key more (set_offs-apart xs x.day x.reply x.command),
      new-finer paid_key credit_key by_key (credits_made xs) more
          (new-finer credit_serial paid_key by_purpose (credits_made xs) more (above-new serial_of (serial_count xs) (credits_made xs) more (made-given xs) (set_offs-above xs x))),
    )

-- and so are the credits of the lines that a file brings
pub credits_new : (xs : List Entry) (file : List ℕ)
    → AreOnce credit_key (credits_of_lines (rows_brought xs (lines_seen xs) file)) × AreNew credit_key (credits_made xs) (credits_of_lines (rows_brought xs (lines_seen xs) file))
credits_new xs file =
    let rows = rows_brought xs (lines_seen xs) file in
    let new = credits_of_lines rows in (
      once-finer paid_key credit_key by_key new (once-finer credit_serial paid_key by_purpose new (paid_once rows (serials_brought xs file))),
      new-finer paid_key credit_key by_key (credits_made xs) new
          (new-finer credit_serial paid_key by_purpose (credits_made xs) new (above-new serial_of (serial_count xs) (credits_made xs) new (made-given xs) (lines-above xs (ImportBank file)))),
    )

-- ---- counts

-- a firm has after a file as many credits as before, and those that the file brings
pub credits_after-count : (xs : List Entry) (file : List ℕ) (e : ℕ) (p : Purpose) → credit_count (credits_after xs file) e p ≡ credit_count (credits_made xs) e p + credit_count (credits_of_lines (rows_brought xs (lines_seen xs) file)) e p
credits_after-count xs file e p =
    let rows = rows_brought xs (lines_seen xs) file in
    ap (λ (credits : List CreditRow). credit_count credits e p) (after_made xs rows) ∙ credit_count-append (credits_made xs) (credits_of_lines rows) e p

credits_few : (rows : List BankRow) → length (credits_of_lines rows) ≤ length rows
credits_few [] = omega arith
credits_few (row ∷ rows) = told row.employer (credits_few rows)
  where
    told : (firm : Option ℕ) → length (credits_of_lines rows) ≤ length rows → length (cons_option (credit_of_line row firm) (credits_of_lines rows)) ≤ length (row ∷ rows)
    told None rest = omega arith
    told (Some e) rest = omega arith

-- lines are at most as many credits
pub lines-few : (rows : List BankRow) (e : ℕ) (p : Purpose) → credit_count (credits_of_lines rows) e p ≤ length rows
lines-few rows e p = omega (arith, count_by-le-length (is_credit_of e p) (credits_of_lines rows), credits_few rows)

-- set-offs for a purpose are at most as many as releases
all_set_offs-few : (xs : List Entry) (e : ℕ) (p : Purpose) → credit_count (set_offs xs) e p ≤ release_count xs
all_set_offs-few [] e p = omega arith
all_set_offs-few (x ∷ xs) e p =
    let more = set_offs_by xs x.day x.reply x.command in
    omega (arith, all_set_offs-few xs e p, set_offs-few xs x.day x.reply x.command e p, credit_count-append (set_offs xs) more e p, release_count-next xs x)

-- a firm has for a purpose at most as many credits as serials were given
pub credits-few : (xs : List Entry) (e : ℕ) (p : Purpose) → credit_count (credits_made xs) e p ≤ serial_count xs
credits-few xs e p =
    let lines = length-standing xs in
    omega (arith, lines, all_set_offs-few xs e p, lines-few (lines_standing xs) e p, credit_count-append (set_offs xs) (credits_of_lines (lines_standing xs)) e p)
