-- Bank lines: those that a book has seen, the rows that they are, and their serials.
use Rattle.std.proofs.Common.{◌≡◌, ℕ, zero, suc, ◌+◌, ◌<◌, ◌≤◌, ◌⊎◌, inl, inr, List, [], ◌∷◌, ◌++◌, length, take, drop, map, filter, Option, Some, None, is_some, Bool, true, false, cond, refl, sym, ap, ◌∙◌, arith, append_assoc, add-one, length-append}
use Rattle.std.proofs.lemmas.List.{append-nil, map-append}
use Rattle.std.proofs.lemmas.List.Folds.{find-append}
use Rattle.std.proofs.lemmas.List.Sums.{sum_by-append, sum_by-cons}
use Rattle.std.specs.List.{enumerate_from, range_with_len, AllByRecursion}
use Rattle.std.specs.Option.{option_map, option_or}
use Rattle.std.specs.Prelude.{is_none}
use Rattle.std.specs.Str.{bytes_eq}
use Rattle.clear_bank.proofs.ConflictLemmas.{next_taken}
use Rattle.clear_bank.specs.Newness.{Placed, line_under, lines_before, earlier_line, is_new}
use Rattle.clear_values.specs.declared.lines.BankLine.{BankLine}
use Rattle.clear_book.specs.declared.calls.Assignment.{Assignment}
use Rattle.clear_book.specs.declared.calls.Command.{Command}
use Rattle.clear_book.specs.declared.calls.Command.TheVariants.{ImportBank, Assign, Release}
use Rattle.clear_values.specs.declared.rows.BankRow.{BankRow}
use Rattle.clear_book.specs.Book.{Entry, newer, member_of}
use Rattle.clear_values.specs.Keyed.{is_key, find_row, AreInOrder, AreOnce}
use Rattle.clear_book.specs.Lines.{lines_in, new_lines, employer_of_line, rows_from, lines_of_rows, is_release, release_count, rows_brought, rows_by, lines_seen, serial_count, serials_given, assigned, moved_by, lines_standing, is_in_suspense, suspense_count}
use Rattle.clear_book.specs.Tables.{bank_key, serial_key}
use Rattle.clear_values.proofs.KeyedLemmas.{is_key-sym}
use Rattle.clear_values.proofs.KeyedRowsLemmas.{AreNew, AreOnce-append}
use Rattle.clear_values.proofs.ListLemmas.{both, each}
use Rattle.clear_laws.proofs.AlikeLemmas.{alike-all, alike-in_order, alike-length, alike-map, alike-new, alike-once}
use Rattle.clear_laws.proofs.SerialLemmas.{follow-between, follow-in_order, in_order-append, in_order-once}
pub use Rattle.clear_values.proofs.CreditRowsLemmas.{credits_of_lines-append, is_key-bytes_eq}

-- ---- the lines that stand are those that were seen, but for their firms

-- a line and its serial
abbrev pub Placement : Type 0
Placement = BankLine × ℕ

abbrev pub placement : BankRow → Placement
placement row = (row.line, row.serial)

assigned-placement : (a : Assignment) (row : BankRow) → placement (assigned a row) ≡ placement row
assigned-placement a row = told (is_key (bank_key row) a.reference)
  where
    told : (b : Bool) → placement (cond b (record row { employer = Some a.employer }) row) ≡ placement row
    told true = refl
    told false = refl

all_assigned : (a : Assignment) (rows : List BankRow) → map placement (map (assigned a) rows) ≡ map placement rows
all_assigned a [] = refl
all_assigned a (row ∷ rows) = (λ i. assigned-placement a row i ∷ all_assigned a rows i)

-- a command leaves each line and its serial
moved-alike : (command : Command) (rows : List BankRow) → map placement (moved_by command rows) ≡ map placement rows
moved-alike (Assign a) rows = all_assigned a rows
moved-alike command rows = refl

pub standing-alike : (xs : List Entry) → map placement (lines_standing xs) ≡ map placement (lines_seen xs)
standing-alike [] = refl
standing-alike (x ∷ xs) =
    let rows = rows_by xs (lines_seen xs) x.command in
    map-append placement (moved_by x.command (lines_standing xs)) rows
    ∙ ap (λ (l : List Placement). l ++ map placement rows) (moved-alike x.command (lines_standing xs) ∙ standing-alike xs)
    ∙ sym (map-append placement (lines_seen xs) rows)

seen-alike : (xs : List Entry) → map placement (lines_seen xs) ≡ map placement (lines_standing xs)
seen-alike xs = sym (standing-alike xs)

pub length-standing : (xs : List Entry) → length (lines_standing xs) ≡ length (lines_seen xs)
length-standing xs = alike-length placement (lines_standing xs) (lines_seen xs) (standing-alike xs)

-- what holds of each line and its serial holds of each that stands
pub of_standing : (P : Placement → Type 0) (xs : List Entry) → AllByRecursion (λ row. P (placement row)) (lines_seen xs) → AllByRecursion (λ row. P (placement row)) (lines_standing xs)
of_standing P xs h = alike-all placement P (lines_seen xs) (lines_standing xs) (seen-alike xs) h

-- the lines that stand are the lines that were seen
pub lines-standing : (xs : List Entry) → lines_of_rows (lines_standing xs) ≡ lines_of_rows (lines_seen xs)
lines-standing xs = alike-map placement (λ p. p.0) (lines_standing xs) (lines_seen xs) (standing-alike xs)

-- a command that brings no lines and moves none leaves them
pub none_moved : (xs : List Entry) (x : Entry) → ((rows : List BankRow) → moved_by x.command rows ≡ rows) → rows_by xs (lines_seen xs) x.command ≡ [] → lines_standing (x ∷ xs) ≡ lines_standing xs
none_moved xs x still none = (λ i. still (lines_standing xs) i ++ none i) ∙ append-nil (lines_standing xs)

-- ---- lines under their references

-- the row of a reference has the line under it
pub found_line : (rows : List BankRow) (reference : List ℕ) → option_map (λ (row : BankRow). row.line) (find_row bank_key rows reference) ≡ line_under reference (lines_of_rows rows)
found_line [] reference = refl
found_line (row ∷ rows) reference =
    ap (λ b. option_map (λ (r : BankRow). r.line) (cond b (Some row) (find_row bank_key rows reference))) (is_key-bytes_eq row.line.reference reference)
    ∙ told (bytes_eq reference row.line.reference) (found_line rows reference)
  where
    told : (b : Bool) → option_map (λ (r : BankRow). r.line) (find_row bank_key rows reference) ≡ line_under reference (lines_of_rows rows)
        → option_map (λ (r : BankRow). r.line) (cond b (Some row) (find_row bank_key rows reference)) ≡ cond b (Some row.line) (line_under reference (lines_of_rows rows))
    told true rest = refl
    told false rest = rest

option_or-newer : (a b : Option BankLine) → option_or a b ≡ newer a b
option_or-newer None b = refl
option_or-newer (Some x) b = refl

pub line_under-append : (reference : List ℕ) (xs ys : List BankLine) → line_under reference (xs ++ ys) ≡ newer (line_under reference xs) (line_under reference ys)
line_under-append reference xs ys = find-append (λ (l : BankLine). bytes_eq reference l.reference) xs ys ∙ option_or-newer (line_under reference xs) (line_under reference ys)

-- ---- the rows of new lines

module _ (is_registered : ℕ → Bool) where
  pub lines_of-rows_from : (last : ℕ) (new : List Placed) → lines_of_rows (rows_from is_registered last new) ≡ map (λ p. p.1) new
  lines_of-rows_from last [] = refl
  lines_of-rows_from last (p ∷ new) = ap (λ ls. p.1 ∷ ls) (lines_of-rows_from (last + 1) new)

  pub length-rows_from : (last : ℕ) (new : List Placed) → length (rows_from is_registered last new) ≡ length new
  length-rows_from last [] = refl
  length-rows_from last (p ∷ new) = ap suc (length-rows_from (last + 1) new)

  pub serials_from : (last : ℕ) (new : List Placed) → map (λ (row : BankRow). row.serial) (rows_from is_registered last new) ≡ range_with_len (last + 1) (length new)
  serials_from last [] = refl
  serials_from last (p ∷ new) = ap (λ ns. (last + 1) ∷ ns) (serials_from (last + 1) new)

-- ---- a new line has another reference than each line before it

-- a line that is new from a place on has not the reference k
abbrev IsTaken : List BankLine → List BankLine → ℕ → List ℕ → Type 0
IsTaken known lines place k = (r : List ℕ) → line_under r (lines_before known lines place) ≡ None → is_key r k ≡ false

neither : (a b : Option BankLine) → newer a b ≡ None → (a ≡ None) × (b ≡ None)
neither None b h = (refl, h)
neither (Some x) b h = absurd (cc)

not_there : (r k : List ℕ) (line : BankLine) (b : Bool) → bytes_eq r k ≡ b → cond b (Some line) None ≡ None → is_key r k ≡ false
not_there r k line true e h = absurd (cc)
not_there r k line false e h = is_key-sym k r (is_key-bytes_eq k r ∙ e)

none_of : (o : Option BankLine) → is_none o ≡ true → o ≡ None
none_of None h = refl
none_of (Some x) h = absurd (cc)

passed_over : (row : BankRow) (rows : List BankRow) (k : List ℕ) → is_key row.line.reference k ≡ false → find_row bank_key rows k ≡ None → find_row bank_key (row ∷ rows) k ≡ None
passed_over row rows k other none = ap (λ b. cond b (Some row) (find_row bank_key rows k)) other ∙ none

none_in : (o : Option BankRow) → option_map (λ (row : BankRow). row.line) o ≡ None → o ≡ None
none_in None h = refl
none_in (Some x) h = absurd (cc)

module _ (known lines : List BankLine) where
  module _ (rest : List BankLine) (place : ℕ) (line : BankLine) (e : drop place lines ≡ line ∷ rest) where
    next_rest : drop (place + 1) lines ≡ rest
    next_rest = ap (λ n. drop n lines) (add-one place) ∙ (next_taken lines rest place line e).1

    next_before : lines_before known lines (place + 1) ≡ lines_before known lines place ++ line ∷ []
    next_before =
        ap (λ ls. known ++ ls) (ap (λ n. take n lines) (add-one place) ∙ (next_taken lines rest place line e).0) ∙ sym (append_assoc known (take place lines) (line ∷ []))

    none_before : (r : List ℕ) → line_under r (lines_before known lines (place + 1)) ≡ None → (line_under r (lines_before known lines place) ≡ None) × (line_under r (line ∷ []) ≡ None)
    none_before r h =
        neither (line_under r (lines_before known lines place)) (line_under r (line ∷ []))
        (sym (ap (λ ls. line_under r ls) next_before ∙ line_under-append r (lines_before known lines place) (line ∷ [])) ∙ h)

    still_taken : (k : List ℕ) → IsTaken known lines place k → IsTaken known lines (place + 1) k
    still_taken k h r none = h r (none_before r none).0

    now_taken : IsTaken known lines (place + 1) line.reference
    now_taken r none = not_there r line.reference line (bytes_eq r line.reference) refl (none_before r none).1

  module _ (is_registered : ℕ → Bool) where
    none_found : (rest : List BankLine) (place last : ℕ) (k : List ℕ) → drop place lines ≡ rest → IsTaken known lines place k
        → find_row bank_key (rows_from is_registered last (filter (is_new known lines) (enumerate_from place rest))) k ≡ None
    none_found [] place last k e h = refl
    none_found (line ∷ rest) place last k e h =
        told (is_new known lines (place, line)) refl (λ later. none_found rest (place + 1) later k (next_rest rest place line e) (still_taken rest place line e k h))
      where
        others : List Placed
        others = filter (is_new known lines) (enumerate_from (place + 1) rest)

        told : (b : Bool) → is_new known lines (place, line) ≡ b → ((later : ℕ) → find_row bank_key (rows_from is_registered later others) k ≡ None)
            → find_row bank_key (rows_from is_registered last (cond b ((place, line) ∷ others) others)) k ≡ None
        told true new others_none =
            passed_over (record { line = line; serial = last + 1; employer = employer_of_line is_registered line }) (rows_from is_registered (last + 1) others) k
            (h line.reference (none_of (earlier_line known lines (place, line)) new)) (others_none (last + 1))
        told false new others_none = others_none last

    once_from : (rest : List BankLine) (place last : ℕ) → drop place lines ≡ rest → AreOnce bank_key (rows_from is_registered last (filter (is_new known lines) (enumerate_from place rest)))
    once_from [] place last e = tt
    once_from (line ∷ rest) place last e = told (is_new known lines (place, line)) (λ later. once_from rest (place + 1) later (next_rest rest place line e))
      where
        others : List Placed
        others = filter (is_new known lines) (enumerate_from (place + 1) rest)

        told : (b : Bool) → ((later : ℕ) → AreOnce bank_key (rows_from is_registered later others)) → AreOnce bank_key (rows_from is_registered last (cond b ((place, line) ∷ others) others))
        told true more = (none_found rest (place + 1) (last + 1) line.reference (next_rest rest place line e) (now_taken rest place line e), more (last + 1))
        told false more = more last

    apart_from : (seen : List BankRow) (rest : List BankLine) (place last : ℕ) → lines_of_rows seen ≡ known
        → AreNew bank_key seen (rows_from is_registered last (filter (is_new known lines) (enumerate_from place rest)))
    apart_from seen [] place last same = tt
    apart_from seen (line ∷ rest) place last same = told (is_new known lines (place, line)) refl (λ later. apart_from seen rest (place + 1) later same)
      where
        others : List Placed
        others = filter (is_new known lines) (enumerate_from (place + 1) rest)

        none_seen : line_under line.reference (lines_before known lines place) ≡ None → find_row bank_key seen line.reference ≡ None
        none_seen none =
            let known_none = (neither (line_under line.reference known) (line_under line.reference (take place lines)) (sym (line_under-append line.reference known (take place lines)) ∙ none)).0 in
            none_in (find_row bank_key seen line.reference) (found_line seen line.reference ∙ ap (λ ls. line_under line.reference ls) same ∙ known_none)

        told : (b : Bool) → is_new known lines (place, line) ≡ b → ((later : ℕ) → AreNew bank_key seen (rows_from is_registered later others))
            → AreNew bank_key seen (rows_from is_registered last (cond b ((place, line) ∷ others) others))
        told true new more = (none_seen (none_of (earlier_line known lines (place, line)) new), more (last + 1))
        told false new more = more last

module _ (is_registered : ℕ → Bool) (last : ℕ) where
  pub new_once : (known lines : List BankLine) → AreOnce bank_key (rows_from is_registered last (new_lines known lines))
  new_once known lines = once_from known lines is_registered lines 0 last refl

  pub new_apart : (seen : List BankRow) (known lines : List BankLine) → lines_of_rows seen ≡ known → AreNew bank_key seen (rows_from is_registered last (new_lines known lines))
  new_apart seen known lines same = apart_from known lines is_registered seen lines 0 last same

-- ---- the rows of a book

abbrev member_in : List Entry → ℕ → Bool
member_in xs e = is_some (member_of xs e)

-- no reference is seen twice
pub references_once : (xs : List Entry) → AreOnce bank_key (lines_seen xs)
references_once [] = tt
references_once (x ∷ xs) = AreOnce-append bank_key (lines_seen xs) (rows_by xs (lines_seen xs) x.command) (references_once xs) (once x.command) (apart x.command)
  where
    once : (command : Command) → AreOnce bank_key (rows_by xs (lines_seen xs) command)
    once (ImportBank file) = new_once (member_in xs) (serial_count xs) (lines_of_rows (lines_seen xs)) (lines_in file)
    once command = tt

    apart : (command : Command) → AreNew bank_key (lines_seen xs) (rows_by xs (lines_seen xs) command)
    apart (ImportBank file) = new_apart (member_in xs) (serial_count xs) (lines_seen xs) (lines_of_rows (lines_seen xs)) (lines_in file) refl
    apart command = tt

pub references_standing : (xs : List Entry) → AreOnce bank_key (lines_standing xs)
references_standing xs = alike-once placement (λ p. p.0.reference) (lines_seen xs) (lines_standing xs) (seen-alike xs) (references_once xs)

-- and those that a file brings are new
pub references_new : (xs : List Entry) (file : List ℕ) → AreOnce bank_key (rows_brought xs (lines_seen xs) file) × AreNew bank_key (lines_seen xs) (rows_brought xs (lines_seen xs) file)
references_new xs file = (
  new_once (member_in xs) (serial_count xs) (lines_of_rows (lines_seen xs)) (lines_in file),
  new_apart (member_in xs) (serial_count xs) (lines_seen xs) (lines_of_rows (lines_seen xs)) (lines_in file) refl,
)

-- also to the lines that stand
pub references_new_there : (xs : List Entry) (file : List ℕ) → AreNew bank_key (lines_standing xs) (rows_brought xs (lines_seen xs) file)
references_new_there xs file =
    alike-new placement (λ p. p.0.reference) (lines_seen xs) (lines_standing xs) (rows_brought xs (lines_seen xs) file) (seen-alike xs) (references_new xs file).1

-- ---- the serials of a book are the numbers from 1 on

pub range_with_len-append : (a m n k : ℕ) → k ≡ m + n → range_with_len a k ≡ range_with_len a m ++ range_with_len (a + m) n
range_with_len-append a zero n k e = let same : k ≡ n = omega (arith, e) in let start : a ≡ a + 0 = omega arith in λ i. range_with_len (start i) (same i)
range_with_len-append a (suc m) n zero e = absurd (omega (arith, e))
range_with_len-append a (suc m) n (suc k) e =
    let start : a + 1 + m ≡ a + suc m = omega arith in
    ap (λ ns. a ∷ ns) (range_with_len-append (a + 1) m n k (omega (arith, e)) ∙ ap (λ b. range_with_len (a + 1) m ++ range_with_len b n) start)

-- rows with the next numbers behind rows with the first ones
pub follow-append : {Row : Type 0} (number : Row → ℕ) (old new : List Row) (n : ℕ) → length old ≡ n → map number old ≡ range_with_len 1 n → map number new ≡ range_with_len (n + 1) (length new)
    → map number (old ++ new) ≡ range_with_len 1 (length (old ++ new))
follow-append number old new n count first next =
    let start : n + 1 ≡ 1 + n = omega arith in
    map-append number old new
    ∙ (λ i. first i ++ next i)
    ∙ ap (λ a. range_with_len 1 n ++ range_with_len a (length new)) start
    ∙ sym (range_with_len-append 1 n (length new) (length (old ++ new)) (length-append old new ∙ ap (λ m. m + length new) count))

-- those of the lines that a command brings follow on the last one
row_serials : (xs : List Entry) (command : Command) → map (λ (row : BankRow). row.serial) (rows_by xs (lines_seen xs) command) ≡ range_with_len (serial_count xs + 1) (length (rows_by xs (lines_seen xs) command))
row_serials xs (ImportBank file) =
    let new = new_lines (lines_of_rows (lines_seen xs)) (lines_in file) in
    serials_from (member_in xs) (serial_count xs) new ∙ ap (λ n. range_with_len (serial_count xs + 1) n) (sym (length-rows_from (member_in xs) (serial_count xs) new))
row_serials xs command = refl

-- no command both brings lines and releases
pub lines_or_release : (xs : List Entry) (seen : List BankRow) (command : Command) → (rows_by xs seen command ≡ []) ⊎ (is_release command ≡ false)
lines_or_release xs seen (Release number) = inl refl
lines_or_release xs seen command = inr refl

-- the serials that a command takes itself
abbrev pub own_count : Command → ℕ
own_count command = cond (is_release command) 1 0

pub release_count-next : (xs : List Entry) (x : Entry) → release_count (x ∷ xs) ≡ own_count x.command + release_count xs
release_count-next xs x = sum_by-cons (λ (y : Entry). own_count y.command) x xs

pub serial_count-next : (xs : List Entry) (x : Entry) → serial_count (x ∷ xs) ≡ serial_count xs + (length (rows_by xs (lines_seen xs) x.command) + own_count x.command)
serial_count-next xs x =
    omega (arith, length-append (lines_seen xs) (rows_by xs (lines_seen xs) x.command), release_count-next xs x)

-- a command that brings no lines and is no release takes no serial
pub none_taken : (xs : List Entry) (x : Entry) → rows_by xs (lines_seen xs) x.command ≡ [] → is_release x.command ≡ false → serial_count (x ∷ xs) ≡ serial_count xs
none_taken xs x none other =
    let rows : length (rows_by xs (lines_seen xs) x.command) ≡ 0 = ap (λ (found : List BankRow). length found) none in
    let own : own_count x.command ≡ 0 = ap (λ b. cond {A = ℕ} b 1 0) other in
    omega (arith, serial_count-next xs x, rows, own)

-- the serials of lines, or one more
taken_by : (n : ℕ) (rows : List BankRow) (release : Bool) → map (λ (row : BankRow). row.serial) rows ≡ range_with_len (n + 1) (length rows) → (rows ≡ []) ⊎ (release ≡ false)
    → map (λ (row : BankRow). row.serial) rows ++ cond release ((n + 1) ∷ []) [] ≡ range_with_len (n + 1) (length rows + cond {A = ℕ} release 1 0)
taken_by n rows false e apart =
    append-nil (map (λ (row : BankRow). row.serial) rows) ∙ e ∙ (let same : length rows ≡ length rows + 0 = omega arith in ap (range_with_len (n + 1)) same)
taken_by n [] true e apart = refl
taken_by n (row ∷ rows) true e (inl none) = absurd (cc none)
taken_by n (row ∷ rows) true e (inr other) = absurd (cc other)

pub serials_are : (xs : List Entry) → serials_given xs ≡ range_with_len 1 (serial_count xs)
serials_are [] = refl
serials_are (x ∷ xs) =
    let n = serial_count xs in
    let rows = rows_by xs (lines_seen xs) x.command in
    let more = length rows + own_count x.command in
    let start : n + 1 ≡ 1 + n = omega arith in
    (λ i. serials_are xs i ++ taken_by n rows (is_release x.command) (row_serials xs x.command) (lines_or_release xs (lines_seen xs) x.command) i)
    ∙ ap (λ a. range_with_len 1 n ++ range_with_len a more) start
    ∙ sym (range_with_len-append 1 n more (serial_count (x ∷ xs)) (serial_count-next xs x))

-- the lines that a command brings have serials above those before
pub serials_above : (xs : List Entry) (command : Command) → AllByRecursion (λ row. (serial_count xs < row.serial) × (row.serial ≤ serial_count xs + length (rows_by xs (lines_seen xs) command))) (rows_by xs (lines_seen xs) command)
serials_above xs command =
    let rows = rows_by xs (lines_seen xs) command in
    follow-between (λ (row : BankRow). row.serial) (serial_count xs) (serial_count xs + length rows) (serial_count xs + 1) (length rows) rows (omega arith) (omega arith) (row_serials xs command)

pub serials_small : (xs : List Entry) → AllByRecursion (λ row. (1 ≤ row.serial) × (row.serial ≤ serial_count xs)) (lines_seen xs)
serials_small [] = tt
serials_small (x ∷ xs) =
    let rows = rows_by xs (lines_seen xs) x.command in
    let more = serial_count-next xs x in
    both (λ row. (1 ≤ row.serial) × (row.serial ≤ serial_count (x ∷ xs))) (lines_seen xs) rows
    (each (λ (row : BankRow). (1 ≤ row.serial) × (row.serial ≤ serial_count xs)) (λ row. (1 ≤ row.serial) × (row.serial ≤ serial_count (x ∷ xs)))
    (λ row h. let high = h.1 in (h.0, omega (arith, high, more))) (lines_seen xs) (serials_small xs))
    (each (λ (row : BankRow). (serial_count xs < row.serial) × (row.serial ≤ serial_count xs + length rows)) (λ row. (1 ≤ row.serial) × (row.serial ≤ serial_count (x ∷ xs)))
    (λ row h. let low = h.0 in let high = h.1 in (omega (arith, low), omega (arith, high, more))) rows (serials_above xs x.command))

pub serials_rise : (xs : List Entry) → AreInOrder serial_key (lines_seen xs)
serials_rise [] = tt
serials_rise (x ∷ xs) =
    let n = serial_count xs in
    let rows = rows_by xs (lines_seen xs) x.command in
    in_order-append (λ (row : BankRow). row.serial) n (lines_seen xs) rows (serials_rise xs)
    (follow-in_order (λ (row : BankRow). row.serial) (n + 1) (length rows) rows (row_serials xs x.command))
    (each (λ (row : BankRow). (1 ≤ row.serial) × (row.serial ≤ n)) (λ row. row.serial ≤ n) (λ row h. h.1) (lines_seen xs) (serials_small xs))
    (each (λ (row : BankRow). (n < row.serial) × (row.serial ≤ n + length rows)) (λ row. n < row.serial) (λ row h. h.0) rows (serials_above xs x.command))

pub serials_once : (xs : List Entry) → AreOnce serial_key (lines_seen xs)
serials_once xs = in_order-once serial_key (lines_seen xs) (serials_rise xs)

-- so it is with the lines that stand
pub standing_rise : (xs : List Entry) → AreInOrder serial_key (lines_standing xs)
standing_rise xs = alike-in_order placement (λ p. p.1 ∷ []) (lines_seen xs) (lines_standing xs) (seen-alike xs) (serials_rise xs)

pub standing_once : (xs : List Entry) → AreOnce serial_key (lines_standing xs)
standing_once xs = in_order-once serial_key (lines_standing xs) (standing_rise xs)

-- those of the lines that a file brings stand once
pub serials_brought : (xs : List Entry) (file : List ℕ) → AreOnce serial_key (rows_brought xs (lines_seen xs) file)
serials_brought xs file =
    let rows = rows_brought xs (lines_seen xs) file in
    in_order-once serial_key rows (follow-in_order (λ (row : BankRow). row.serial) (serial_count xs + 1) (length rows) rows (row_serials xs (ImportBank file)))

-- ---- counts, one list after another

pub suspense_count-append : (xs ys : List BankRow) → suspense_count (xs ++ ys) ≡ suspense_count xs + suspense_count ys
suspense_count-append xs ys = sum_by-append (λ (row : BankRow). cond {A = ℕ} (is_in_suspense row) 1 0) xs ys
