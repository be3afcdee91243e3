-- What an import is judged by, and the rows that a file brings.
use Rattle.std.proofs.Common.{◌≡◌, ℕ, ◌+◌, ◌-◌, ◌<◌, ◌≤◌, ◌⊎◌, Bool, true, false, cond, ◌||◌, nat_lt, List, [], ◌∷◌, ◌++◌, length, take, drop, get_or, map, filter, count_by, Option, Some, None, Result, Ok, inl, inr, refl, sym, ap, ◌∙◌, subst, arith}
use Rattle.std.proofs.lemmas.Bool.{false≢true, le-ltb}
use Rattle.std.proofs.lemmas.List.{take_more, drop_more, take-append-drop, get_or_default, get_or-map, length-map, length-take-le}
use Rattle.std.proofs.lemmas.List.Elements.{All-filter, All-get_or, All-map, All-same, All-weaker, filter_map-append}
use Rattle.std.proofs.lemmas.List.Folds.{find-append, list_any-append}
use Rattle.std.proofs.lemmas.List.FromFn.{get_or-enumerate_from, length-enumerate_from}
use Rattle.std.proofs.lemmas.List.Sums.{count_by-le-length, length-filter, sum_by-append, sum_by-cons}
use Rattle.std.proofs.lemmas.Option.{IfSome_then}
use Rattle.std.specs.List.{All, AllByRecursion, find, list_any, enumerate_from, cons_option}
use Rattle.std.specs.Option.{option_map_or, option_or}
use Rattle.std.specs.Prelude.{IfSome, is_none, is_some, option_and_then}
use Rattle.std.specs.Str.{bytes_eq}
use Rattle.clear_bank.specs.Answers.{Fails}
use Rattle.clear_bank.specs.declared.fault.BankFault.{BankFault}
use Rattle.clear_bank.specs.declared.fault.BankFault.TheVariants as fault
use Rattle.clear_bank.specs.declared.lines.BankLine.{BankLine}
use Rattle.clear_bank.specs.declared.lines.Purpose.{Purpose}
use Rattle.clear_bank.specs.Files.{file_lines}
use Rattle.clear_bank.specs.Newness.{Placed, line_under, earlier_line, has_other_content, is_new, is_conflict, first_conflict, new_places, judgement, unless_conflict}
use Rattle.clear_book.specs.declared.calls.Command.TheVariants.{ImportBank}
use Rattle.clear_rules.specs.declared.decide.import.ImportView.{ImportView}
use Rattle.clear_book.specs.declared.rules.Limit.TheVariants.{Suspense, Credits}
use Rattle.clear_book.specs.declared.outcomes.Reply.TheVariants.{Imported}
use Rattle.clear_book.specs.declared.rules.Rule.{Rule}
use Rattle.clear_book.specs.declared.rules.Rule.TheVariants.{OverLimit, ValueAhead, Memory}
use Rattle.clear_book.specs.declared.rows.BankRow.{BankRow}
use Rattle.clear_book.specs.declared.rows.CreditRow.{CreditRow}
use Rattle.clear_book.specs.Book.{Book, member_of}
use Rattle.clear_rules.specs.Counts.{Index, IsIndexOf, is_indexed, count_then}
use Rattle.clear_rules.specs.Views.Serves.{ServesAfter}
use Rattle.clear_rules.specs.Views.ImportBank.{IsEmployerViewed, IsImportView, count_for, credits_then, suspense_then, is_registered_by, rows_viewed, rows_of_file, import_rule, ReadsAs}
use Rattle.clear_book.specs.Judge.{own_rule, reply_to}
use Rattle.clear_book.specs.Own.ImportBank.{is_ahead, is_over, fault_rule, ahead_rule, limit_rules, rule_of}
use Rattle.clear_book.specs.Limits.{most_credits, most_suspense, most_records}
use Rattle.clear_book.specs.Checks.{first_of, when}
use Rattle.clear_book.specs.Lines.{lines_in, lines_or_none, new_lines, employer_of_line, rows_from, lines_of_rows, lines_seen, lines_after, credit_of_line, credits_after, credits_of_lines, credit_count, serial_count, suspense_count}
use Rattle.clear_laws.proofs.LinesLemmas.{length-rows_from}

-- ---- what holds of each line of a file

-- what holds of each element holds of each that a test keeps
all-kept : {A : Type 0} (P : A → Type 0) (f : A → Bool) (xs : List A) → AllByRecursion P xs → AllByRecursion P (filter f xs)
all-kept P f [] h = h
all-kept P f (x ∷ xs) h = told (f x) (all-kept P f xs h.1)
  where
    told : (t : Bool) → AllByRecursion P (filter f xs) → AllByRecursion P (cond t (x ∷ filter f xs) (filter f xs))
    told true rest = (h.0, rest)
    told false rest = rest

-- and of each with its place
all-placed : {A : Type 0} (P : A → Type 0) (n : ℕ) (xs : List A) → AllByRecursion P xs → AllByRecursion (λ (p : ℕ × A). P p.1) (enumerate_from n xs)
all-placed P n [] h = h
all-placed P n (x ∷ xs) h = (h.0, all-placed P (n + 1) xs h.1)

-- and what follows from it holds of each
all-weaker : {A : Type 0} (P Q : A → Type 0) → ((x : A) → P x → Q x) → (xs : List A) → AllByRecursion P xs → AllByRecursion Q xs
all-weaker P Q f [] h = h
all-weaker P Q f (x ∷ xs) h = (f x h.0, all-weaker P Q f xs h.1)

-- what holds of each line of a file holds of each new one
all-new : (P : BankLine → Type 0) (known lines : List BankLine) → AllByRecursion P lines → AllByRecursion (λ (p : Placed). P p.1) (new_lines known lines)
all-new P known lines h = all-kept (λ (p : Placed). P p.1) (is_new known lines) (enumerate_from 0 lines) (all-placed P 0 lines h)

-- two tests that agree on each element keep the same elements, and find the same one
module _ {A : Type 0} (f g : A → Bool) where
  filter-agree : (xs : List A) → AllByRecursion (λ x. f x ≡ g x) xs → filter f xs ≡ filter g xs
  filter-agree [] h = refl
  filter-agree (x ∷ xs) h = λ i. cond (h.0 i) (x ∷ filter-agree xs h.1 i) (filter-agree xs h.1 i)

  find-agree : (xs : List A) → AllByRecursion (λ x. f x ≡ g x) xs → find f xs ≡ find g xs
  find-agree [] h = refl
  find-agree (x ∷ xs) h = λ i. cond (h.0 i) (Some x) (find-agree xs h.1 i)

-- ---- what is known counts only by the lines under the file's references

-- both lists have the same line under the reference of this one
abbrev pub IsUnderAlike : List BankLine → List BankLine → BankLine → Type 0
IsUnderAlike xs ys line = line_under line.reference xs ≡ line_under line.reference ys

module _ (xs ys lines : List BankLine) (same : AllByRecursion (IsUnderAlike xs ys) lines) where
  earlier-at : (p : Placed) → IsUnderAlike xs ys p.1 → earlier_line xs lines p ≡ earlier_line ys lines p
  earlier-at p here =
      find-append (λ line. bytes_eq p.1.reference line.reference) xs (take p.0 lines)
      ∙ ap (λ o. option_or o (line_under p.1.reference (take p.0 lines))) here
      ∙ sym (find-append (λ line. bytes_eq p.1.reference line.reference) ys (take p.0 lines))

  -- a test of the line that stands before agrees at each place
  tests-same : (test : Placed → Option BankLine → Bool) → AllByRecursion (λ p. test p (earlier_line xs lines p) ≡ test p (earlier_line ys lines p)) (enumerate_from 0 lines)
  tests-same test =
      all-weaker (λ (p : Placed). IsUnderAlike xs ys p.1) (λ p. test p (earlier_line xs lines p) ≡ test p (earlier_line ys lines p)) (λ p here. ap (test p) (earlier-at p here))
      (enumerate_from 0 lines) (all-placed (IsUnderAlike xs ys) 0 lines same)

  pub new-same : new_lines xs lines ≡ new_lines ys lines
  new-same = filter-agree (is_new xs lines) (is_new ys lines) (enumerate_from 0 lines) (tests-same (λ p o. is_none o))

  conflict-same : first_conflict xs lines ≡ first_conflict ys lines
  conflict-same = find-agree (is_conflict xs lines) (is_conflict ys lines) (enumerate_from 0 lines) (tests-same (λ p o. has_other_content p.1 o))

  pub judgement-same : judgement xs lines ≡ judgement ys lines
  judgement-same = λ i.
      unless_conflict (conflict-same i) (map (λ p. p.0) (new-same i)) (length lines - length (map (λ (p : Placed). p.0) (new-same i)))

-- ---- the rows that a file brings, by a view

-- two registers that agree on the firms that new lines name make the same rows of these
module _ (r s : ℕ → Bool) where
  firm-agree : (o : Option ℕ) → IfSome o (λ e. r e ≡ s e) → option_and_then (λ e. cond (r e) (Some e) None) o ≡ option_and_then (λ e. cond (s e) (Some e) None) o
  firm-agree None h = refl
  firm-agree (Some e) h = ap (λ t. cond t (Some e) None) h

  rows-agree : (last : ℕ) (new : List Placed) → AllByRecursion (λ p. IfSome p.1.employer (λ e. r e ≡ s e)) new → rows_from r last new ≡ rows_from s last new
  rows-agree last [] h = refl
  rows-agree last (p ∷ new) h = λ i.
      record { line = p.1; serial = last + 1; employer = firm-agree p.1.employer h.0 i } ∷ rows-agree (last + 1) new h.1 i

-- ---- the payments of registered firms, by a view

-- the limit says the same of a number that serves as of the count
limit-same : (viewed count limit : ℕ) → ServesAfter viewed count limit → nat_lt limit viewed ≡ nat_lt limit count
limit-same viewed count limit (inl same) = ap (nat_lt limit) same
limit-same viewed count limit (inr within) = le-ltb limit viewed within.1 ∙ sym (le-ltb limit count (omega arith))

-- two counts by which the limit says the same of the firms that new lines name give one answer for the rows that a file brings
module _ (is_registered : ℕ → Bool) (c d : ℕ → Purpose → ℕ) where
  abbrev IsLimitedAlike : ℕ → Type 0
  IsLimitedAlike e = (purpose : Purpose) → is_registered e ≡ true → nat_lt most_credits (c e purpose) ≡ nat_lt most_credits (d e purpose)

  over-test : (row : BankRow) (e : ℕ) (t : Bool) → is_registered e ≡ t → IsLimitedAlike e → (xs : List CreditRow) → list_any (is_over c) xs ≡ list_any (is_over d) xs
      → list_any (is_over c) (cons_option (credit_of_line row (cond t (Some e) None)) xs) ≡ list_any (is_over d) (cons_option (credit_of_line row (cond t (Some e) None)) xs)
  over-test row e false is alike xs h = h
  over-test row e true is alike xs h = λ i. alike row.line.purpose is i || h i

  over-firm : (row : BankRow) (o : Option ℕ) → IfSome o IsLimitedAlike → (xs : List CreditRow) → list_any (is_over c) xs ≡ list_any (is_over d) xs
      → list_any (is_over c) (cons_option (credit_of_line row (option_and_then (λ e. cond (is_registered e) (Some e) None) o)) xs)
      ≡ list_any (is_over d) (cons_option (credit_of_line row (option_and_then (λ e. cond (is_registered e) (Some e) None) o)) xs)
  over-firm row None alike xs h = h
  over-firm row (Some e) alike xs h = over-test row e (is_registered e) refl alike xs h

  over-rows : (last : ℕ) (new : List Placed) → AllByRecursion (λ p. IfSome p.1.employer IsLimitedAlike) new
      → list_any (is_over c) (credits_of_lines (rows_from is_registered last new)) ≡ list_any (is_over d) (credits_of_lines (rows_from is_registered last new))
  over-rows last [] h = refl
  over-rows last (p ∷ new) h =
      over-firm (record { line = p.1; serial = last + 1; employer = employer_of_line is_registered p.1 }) p.1.employer h.0
      (credits_of_lines (rows_from is_registered (last + 1) new)) (over-rows (last + 1) new h.1)

-- ---- the rule, by a view

-- the first rule, from what each part of the file is judged
abbrev import_ruled : Option Rule → Result (List ℕ × ℕ) BankFault → List Placed → ℕ → Bool → Bool → Option Rule
import_ruled faulty judged new day many over = first_of (
    faulty
    ∷ fault_rule judged
    ∷ ahead_rule (find (is_ahead day) new)
    ∷ when many (OverLimit Suspense)
    ∷ when over (OverLimit Credits)
    ∷ [])

module _ (b : Book) (file : List ℕ) (view : ImportView) (is : IsImportView b file view) where
  abbrev lines_known : List BankLine
  lines_known = lines_of_rows (lines_seen b.entries)

  abbrev is_member : ℕ → Bool
  is_member e = is_some (member_of b.entries e)

  -- what follows for each firm that a new line names
  each-firm : (P : ℕ → Type 0) → ((e : ℕ) → IsEmployerViewed b file view e → P e) → AllByRecursion (λ (p : Placed). IfSome p.1.employer P) (new_lines lines_known (lines_in file))
  each-firm P f =
      all-new (λ (line : BankLine). IfSome line.employer P) lines_known (lines_in file)
      (all-weaker (λ (line : BankLine). IfSome line.employer (IsEmployerViewed b file view)) (λ (line : BankLine). IfSome line.employer P) (λ line h. IfSome_then line.employer h f) (lines_in file) is.employers_are)

  viewed-new : new_lines view.known.items (lines_in file) ≡ new_lines lines_known (lines_in file)
  viewed-new = new-same view.known.items lines_known (lines_in file) is.known_is

  -- the rows are those that the file brings to the book
  pub viewed_rows : rows_viewed view file ≡ rows_of_file b file
  viewed_rows =
      (λ i. rows_from (is_registered_by view) (is.serials_is i) (viewed-new i))
      ∙ rows-agree (is_registered_by view) is_member (serial_count b.entries) (new_lines lines_known (lines_in file)) (each-firm (λ e. is_registered_by view e ≡ is_member e) (λ e h. h.registered_is))

  -- whether a firm has too many payments after the file
  viewed-over : list_any (is_over (credits_then view (rows_viewed view file))) (credits_of_lines (rows_viewed view file))
      ≡ list_any (is_over (credit_count (credits_after b.entries file))) (credits_of_lines (rows_of_file b file))
  viewed-over =
      let viewed = credits_then view (rows_of_file b file) in
      let after = credit_count (credits_after b.entries file) in
      let alike = each-firm (IsLimitedAlike is_member viewed after) (λ e h purpose registered. limit-same (viewed e purpose) (after e purpose) most_credits (h.credits_serve purpose registered)) in
      ap (λ rows. list_any (is_over (credits_then view rows)) (credits_of_lines rows)) viewed_rows
      ∙ over-rows is_member viewed after (serial_count b.entries) (new_lines lines_known (lines_in file)) alike

  -- whether too many lines are in suspense after the file
  viewed-many : nat_lt most_suspense (suspense_then view (rows_viewed view file)) ≡ nat_lt most_suspense (suspense_count (lines_after b.entries file))
  viewed-many =
      ap (λ rows. nat_lt most_suspense (suspense_then view rows)) viewed_rows
      ∙ limit-same (suspense_then view (rows_of_file b file)) (suspense_count (lines_after b.entries file)) most_suspense is.suspense_serves

  -- the rule is the book's
  pub viewed_rule : (day : ℕ) → import_rule view day file ≡ own_rule b day (ImportBank file)
  viewed_rule day = λ i.
      import_ruled (fault_rule (file_lines most_records file))
      (judgement-same view.known.items lines_known (lines_in file) is.known_is i)
      (viewed-new i) day (viewed-many i) (viewed-over i)

-- ---- one element after another

module _ {A : Type 0} (xs : List A) (i : ℕ) (x : A) (within : i < length xs) (is : x ≡ get_or xs i x) where
  pub take_next : take (i + 1) xs ≡ take i xs ++ x ∷ []
  take_next = take_more xs i x within ∙ ap (λ y. take i xs ++ y ∷ []) (sym is)

  pub split_at : xs ≡ take i xs ++ x ∷ drop (i + 1) xs
  split_at = sym (take-append-drop i xs) ∙ ap (λ ys. take i xs ++ ys) (drop_more xs i x within ∙ ap (λ y. y ∷ drop (i + 1) xs) (sym is))

  -- the first that passes a test
  module _ (p : A → Bool) (none : find p (take i xs) ≡ None) where
    pub found_here : p x ≡ true → find p xs ≡ Some x
    found_here hit =
        ap (find p) split_at ∙ find-append p (take i xs) (x ∷ drop (i + 1) xs)
        ∙ ap (λ o. option_or o (find p (x ∷ drop (i + 1) xs))) none ∙ ap (λ t. cond t (Some x) (find p (drop (i + 1) xs))) hit

    pub found_later : p x ≡ false → find p (take (i + 1) xs) ≡ None
    found_later miss =
        ap (find p) take_next ∙ find-append p (take i xs) (x ∷ [])
        ∙ ap (λ o. option_or o (find p (x ∷ []))) none ∙ ap (λ t. cond t (Some x) None) miss

-- ---- the payments among rows, one row after another

-- a test of the payment that a row is, if it is one
abbrev pub passes : (CreditRow → Bool) → BankRow → Bool
passes p row = option_map_or p (credit_of_line row row.employer) false

or-false : (t : Bool) → (t || false) ≡ t
or-false true = refl
or-false false = refl

any-push : (p : CreditRow → Bool) (o : Option CreditRow) → list_any p (cons_option o []) ≡ option_map_or p o false
any-push p None = refl
any-push p (Some x) = or-false (p x)

any-cons : (p : CreditRow → Bool) (o : Option CreditRow) (xs : List CreditRow) → option_map_or p o false ≡ true → list_any p (cons_option o xs) ≡ true
any-cons p None xs hit = absurd (false≢true hit)
any-cons p (Some x) xs hit = ap (λ t. t || list_any p xs) hit

add-none : (t : Bool) → cond t 1 0 + 0 ≡ cond t 1 0
add-none true = refl
add-none false = refl

count-push : (p : CreditRow → Bool) (o : Option CreditRow) → count_by p (cons_option o []) ≡ cond (option_map_or p o false) 1 0
count-push p None = refl
count-push p (Some x) = sum_by-cons (λ y. cond (p y) 1 0) x [] ∙ add-none (p x)

module _ (rows : List BankRow) (i : ℕ) (row : BankRow) (within : i < length rows) (is : row ≡ get_or rows i row) (p : CreditRow → Bool) where
  credits-next : credits_of_lines (take (i + 1) rows) ≡ credits_of_lines (take i rows) ++ cons_option (credit_of_line row row.employer) []
  credits-next = ap credits_of_lines (take_next rows i row within is) ∙ filter_map-append (λ r. credit_of_line r r.employer) (take i rows) (row ∷ [])

  credits-split : credits_of_lines rows ≡ credits_of_lines (take i rows) ++ cons_option (credit_of_line row row.employer) (credits_of_lines (drop (i + 1) rows))
  credits-split = ap credits_of_lines (split_at rows i row within is) ∙ filter_map-append (λ r. credit_of_line r r.employer) (take i rows) (row ∷ drop (i + 1) rows)

  pub any_here : list_any p (credits_of_lines (take i rows)) ≡ false → passes p row ≡ true → list_any p (credits_of_lines rows) ≡ true
  any_here none hit =
      ap (list_any p) credits-split ∙ list_any-append p (credits_of_lines (take i rows)) (cons_option (credit_of_line row row.employer) (credits_of_lines (drop (i + 1) rows)))
      ∙ ap (λ t. t || list_any p (cons_option (credit_of_line row row.employer) (credits_of_lines (drop (i + 1) rows)))) none
      ∙ any-cons p (credit_of_line row row.employer) (credits_of_lines (drop (i + 1) rows)) hit

  pub any_later : list_any p (credits_of_lines (take i rows)) ≡ false → passes p row ≡ false → list_any p (credits_of_lines (take (i + 1) rows)) ≡ false
  any_later none miss =
      ap (list_any p) credits-next ∙ list_any-append p (credits_of_lines (take i rows)) (cons_option (credit_of_line row row.employer) [])
      ∙ ap (λ t. t || list_any p (cons_option (credit_of_line row row.employer) [])) none ∙ any-push p (credit_of_line row row.employer) ∙ miss

  pub count_next : count_by p (credits_of_lines (take (i + 1) rows)) ≡ count_by p (credits_of_lines (take i rows)) + cond (passes p row) 1 0
  count_next =
      ap (count_by p) credits-next ∙ sum_by-append (λ y. cond (p y) 1 0) (credits_of_lines (take i rows)) (cons_option (credit_of_line row row.employer) [])
      ∙ ap (λ n. count_by p (credits_of_lines (take i rows)) + n) (count-push p (credit_of_line row row.employer))

-- ---- the new lines, by their places

-- a line with its place
abbrev pub placed : ℕ → BankLine → Placed
placed place line = (place, line)

-- a line stands at its place
abbrev pub IsPlaced : List BankLine → Placed → Type 0
IsPlaced lines p = (p.0 < length lines) × (p.1 ≡ get_or lines p.0 p.1)

enum-placed : (lines : List BankLine) → All (IsPlaced lines) (enumerate_from 0 lines)
enum-placed lines = λ k d within.
    let few : k < length lines = omega (arith, within, length-enumerate_from 0 lines) in
    let from : 0 + k ≡ k = omega arith in
    subst (IsPlaced lines) (sym (get_or-enumerate_from 0 lines k d few ∙ ap (λ (n : ℕ). placed n (get_or lines k d.1)) from))
    (few, get_or_default lines k d.1 (get_or lines k d.1) few)

new-placed : (known lines : List BankLine) → All (IsPlaced lines) (new_lines known lines)
new-placed known lines = All-filter (is_new known lines) (IsPlaced lines) (enumerate_from 0 lines) (enum-placed lines)

-- each place of a new line is one of the file
pub new_within : (known lines : List BankLine) (places : List ℕ) → places ≡ new_places known lines → All (λ place. place < length lines) places
new_within known lines places are =
    All-same (λ place. place < length lines) places (new_places known lines) are
    (All-map (λ place. place < length lines) (λ (p : Placed). p.0) (new_lines known lines)
    (All-weaker (IsPlaced lines) (λ p. p.0 < length lines) (λ p h. h.0) (new_lines known lines) (new-placed known lines)))

module _ (known lines : List BankLine) (places : List ℕ) (are : places ≡ new_places known lines) (i place : ℕ) (line : BankLine) (within : i < length places) (at : place ≡ get_or places i place) (is : line ≡ get_or lines place line) where
  places-within : i < length (new_lines known lines)
  places-within = omega (arith, within, ap (λ (ps : List ℕ). length ps) are, length-map (new_lines known lines) (λ (p : Placed). p.0))

  -- the next new line
  new-at : placed place line ≡ get_or (new_lines known lines) i (placed place line)
  new-at =
      let here : place ≡ (get_or (new_lines known lines) i (placed place line)).0 =
      at ∙ ap (λ (ps : List ℕ). get_or ps i place) are ∙ get_or-map (λ (p : Placed). p.0) (new_lines known lines) i (placed place line) place places-within in
      let stands : IsPlaced lines (get_or (new_lines known lines) i (placed place line)) =
      All-get_or (IsPlaced lines) (new_lines known lines) i (placed place line) places-within (new-placed known lines) in
      let this : line ≡ (get_or (new_lines known lines) i (placed place line)).1 =
      is ∙ ap (λ (n : ℕ). get_or lines n line) here ∙ get_or_default lines (get_or (new_lines known lines) i (placed place line)).0 line (get_or (new_lines known lines) i (placed place line)).1 stands.0 ∙ sym stands.1 in
      λ j. (here j, this j)

  -- its value is after the day, or not
  module _ (day : ℕ) (none : find (is_ahead day) (take i (new_lines known lines)) ≡ None) where
    pub ahead_here : nat_lt day line.value ≡ true → ahead_rule (find (is_ahead day) (new_lines known lines)) ≡ Some (ValueAhead (place + 2))
    ahead_here hit = ap ahead_rule (found_here (new_lines known lines) i (placed place line) places-within new-at (is_ahead day) none hit)

    pub ahead_later : nat_lt day line.value ≡ false → find (is_ahead day) (take (i + 1) (new_lines known lines)) ≡ None
    ahead_later miss = found_later (new_lines known lines) i (placed place line) places-within new-at (is_ahead day) none miss

-- the row of a new line that takes a serial
abbrev pub row_of : (ℕ → Bool) → BankLine → ℕ → BankRow
row_of is_registered line serial = record { line = line; serial = serial; employer = employer_of_line is_registered line }

rows-push : (is_registered : ℕ → Bool) (last : ℕ) (new : List Placed) (p : Placed) (serial : ℕ) → serial ≡ last + length new + 1
    → rows_from is_registered last (new ++ p ∷ []) ≡ rows_from is_registered last new ++ row_of is_registered p.1 serial ∷ []
rows-push is_registered last [] p serial is =
    let next : last + 1 ≡ serial = omega arith in
    ap (λ (n : ℕ). row_of is_registered p.1 n ∷ []) next
rows-push is_registered last (q ∷ new) p serial is =
    ap (λ (rows : List BankRow). row_of is_registered q.1 (last + 1) ∷ rows) (rows-push is_registered (last + 1) new p serial (omega arith))

-- the row of the next new line
pub row_next : (known lines : List BankLine) (places : List ℕ) → places ≡ new_places known lines → (i place : ℕ) (line : BankLine) → i < length places → place ≡ get_or places i place → line ≡ get_or lines place line
    → (is_registered : ℕ → Bool) (last serial : ℕ) (rows : List BankRow) → serial ≡ last + i + 1 → rows ≡ rows_from is_registered last (take i (new_lines known lines))
    → rows ++ row_of is_registered line serial ∷ [] ≡ rows_from is_registered last (take (i + 1) (new_lines known lines))
row_next known lines places are i place line within at is is_registered last serial rows next so_far =
    let far : i < length (new_lines known lines) = places-within known lines places are i place line within at is in
    let full : length (take i (new_lines known lines)) ≡ i = length-take-le i (new_lines known lines) (omega arith) in
    ap (λ (rs : List BankRow). rs ++ row_of is_registered line serial ∷ []) so_far
    ∙ sym (ap (rows_from is_registered last) (take_next (new_lines known lines) i (placed place line) far (new-at known lines places are i place line within at is))
    ∙ rows-push is_registered last (take i (new_lines known lines)) (placed place line) serial (omega arith))

-- ---- how many lines there are

-- a file brings at most as many rows as it has lines
pub new_count : (known lines : List BankLine) → length (new_lines known lines) ≤ length lines
new_count known lines =
    omega (arith, length-filter (is_new known lines) (enumerate_from 0 lines), count_by-le-length (is_new known lines) (enumerate_from 0 lines), length-enumerate_from 0 lines)

pub places_count : (known lines : List BankLine) → length (new_places known lines) ≡ length (new_lines known lines)
places_count known lines = length-map (new_lines known lines) (λ (p : Placed). p.0)

-- the lines of a file
pub lines_read : (file : List ℕ) (lines : List BankLine) → file_lines most_records file ≡ Ok lines → lines ≡ lines_in file
unfolding lines_in
lines_read file lines e = sym (ap lines_or_none e)

-- ---- the rules, one after another

-- the rule refuses, or there is no memory
abbrev pub RefusedBy : Rule → Option Rule → Type 0
RefusedBy r rule = (r ≡ Memory) ⊎ (rule ≡ Some r)

skip-none : (rule : Option Rule) (rules : List (Option Rule)) → rule ≡ None → first_of (rule ∷ rules) ≡ first_of rules
skip-none rule rules e = ap (λ (o : Option Rule). first_of (o ∷ rules)) e

-- the rules on what stands after some rows
abbrev pub limits_viewed : ImportView → List BankRow → List (Option Rule)
limits_viewed view rows = limit_rules (suspense_then view rows) (credits_then view rows) rows

-- the rule on the new lines' values
abbrev pub values_rule : ImportView → ℕ → List BankLine → Option Rule
values_rule view day lines = ahead_rule (find (is_ahead day) (new_lines view.known.items lines))

-- the rows of the new lines
abbrev pub rows_of_new : ImportView → List BankLine → List BankRow
rows_of_new view lines = rows_from (is_registered_by view) view.serials (new_lines view.known.items lines)

-- a rule refuses where it is the first of some
refused_first : (r : Rule) (rule : Option Rule) (rules : List (Option Rule)) → RefusedBy r rule → RefusedBy r (first_of (rule ∷ rules))
refused_first r rule rules (inl memory) = inl memory
refused_first r rule rules (inr is) = inr (ap (λ (o : Option Rule). first_of (o ∷ rules)) is)

module _ (view : ImportView) (day : ℕ) (file : List ℕ) (lines : List BankLine) (reads : ReadsAs file lines) where
  lines_are : lines ≡ lines_in file
  lines_are = lines_read file lines reads

  file_read : fault_rule (file_lines most_records file) ≡ None
  file_read = ap (λ (found : Result (List BankLine) BankFault). fault_rule found) reads

  after-file : import_rule view day file ≡ first_of (fault_rule (judgement view.known.items lines) ∷ values_rule view day lines ∷ limits_viewed view (rows_of_new view lines))
  after-file =
      skip-none (fault_rule (file_lines most_records file))
      (fault_rule (judgement view.known.items (lines_in file)) ∷ values_rule view day (lines_in file) ∷ limits_viewed view (rows_viewed view file)) file_read
      ∙ ap (λ (ls : List BankLine). first_of (fault_rule (judgement view.known.items ls) ∷ values_rule view day ls ∷ limits_viewed view (rows_of_new view ls))) (sym lines_are)

  -- a conflict among the lines
  pub refused_new : (r : Rule) → RefusedBy r (fault_rule (judgement view.known.items lines)) → RefusedBy r (import_rule view day file)
  refused_new r h =
      subst (RefusedBy r) (sym after-file)
      (refused_first r (fault_rule (judgement view.known.items lines)) (values_rule view day lines ∷ limits_viewed view (rows_of_new view lines)) h)

  -- the rules on the new lines
  pub ruled_new : fault_rule (judgement view.known.items lines) ≡ None → import_rule view day file ≡ first_of (values_rule view day lines ∷ limits_viewed view (rows_of_new view lines))
  ruled_new none = after-file ∙ skip-none (fault_rule (judgement view.known.items lines)) (values_rule view day lines ∷ limits_viewed view (rows_of_new view lines)) none

-- two rules that are equal refuse alike
pub refused_as : (r : Rule) (a b : Option Rule) → a ≡ b → RefusedBy r b → RefusedBy r a
refused_as r a b e h = subst (RefusedBy r) (sym e) h

-- ---- by the index of a view's employers

module _ (view : ImportView) (index : Index) (is : IsIndexOf view.employers.items index) where
  pub indexed_rows : (last : ℕ) (new : List Placed) → rows_from (is_indexed index) last new ≡ rows_from (is_registered_by view) last new
  indexed_rows last new = λ i. rows_from (λ e. is_some (is e i)) last new

  -- the rules on what stands after rows, by the index
  abbrev limits_indexed : List BankRow → List (Option Rule)
  limits_indexed rows = limit_rules (view.suspense + suspense_count rows) (count_then index rows) rows

  indexed_limits : (rows : List BankRow) → limits_indexed rows ≡ limits_viewed view rows
  indexed_limits rows = λ i. limit_rules (suspense_then view rows) (λ e purpose. option_map_or (count_for purpose) (is e i) 0 + credit_count (credits_of_lines rows) e purpose) rows

  -- a limit that refuses by the index does so by the view
  pub limits_refuse : (r : Rule) (ahead : Option Rule) (last : ℕ) (new : List Placed) (rows found : List BankRow) → ahead ≡ None
      → rows ≡ rows_from (is_registered_by view) last new → found ≡ rows_from (is_indexed index) last new
      → RefusedBy r (first_of (limits_indexed found)) → RefusedBy r (first_of (ahead ∷ limits_viewed view rows))
  limits_refuse r ahead last new rows found none are is_found h =
      let same : rows ≡ found = are ∙ sym (indexed_rows last new) ∙ sym is_found in
      let rules : first_of (ahead ∷ limits_viewed view rows) ≡ first_of (limits_indexed found) =
      skip-none ahead (limits_viewed view rows) none ∙ ap (λ (rs : List BankRow). first_of (limits_viewed view rs)) same ∙ sym (ap first_of (indexed_limits found)) in
      refused_as r (first_of (ahead ∷ limits_viewed view rows)) (first_of (limits_indexed found)) rules h

-- ---- what is answered

new-length : (view : ImportView) (lines : List BankLine) (rows : List BankRow) → rows ≡ rows_of_new view lines → length rows ≡ length (new_lines view.known.items lines)
new-length view lines rows made = ap (λ (rs : List BankRow). length rs) made ∙ length-rows_from (is_registered_by view) view.serials (new_lines view.known.items lines)

-- how many lines are repeats
pub new_repeats : (view : ImportView) (file : List ℕ) (lines : List BankLine) (rows : List BankRow) (repeats : ℕ) → lines ≡ lines_in file → rows ≡ rows_of_new view lines
    → repeats ≡ length lines - length (new_places view.known.items lines) → repeats ≡ length (lines_in file) - length rows
new_repeats view file lines rows repeats are made is =
    is ∙ (λ i. length (are i) - (places_count view.known.items lines ∙ sym (new-length view lines rows made)) i)

-- there are at most as many rows as lines
pub new_few : (n : ℕ) (view : ImportView) (lines : List BankLine) (rows : List BankRow) → rows ≡ rows_of_new view lines → length lines ≤ n → length rows ≤ n
new_few n view lines rows made few = omega (arith, few, new-length view lines rows made, new_count view.known.items lines)

-- a file that can't be read
refused_unread : (read : Result (List BankLine) BankFault) (why : BankFault) → Fails why read → RefusedBy (rule_of why) (fault_rule read)
refused_unread read fault.OverLimit fails = inr (ap (λ (found : Result (List BankLine) BankFault). fault_rule found) fails)
refused_unread read (fault.BadCsv line wrong) fails = inr (ap (λ (found : Result (List BankLine) BankFault). fault_rule found) fails)
refused_unread read (fault.RefConflict line) fails = inr (ap (λ (found : Result (List BankLine) BankFault). fault_rule found) fails)
refused_unread read fault.Memory fails = inl refl

pub judged_unread : (b : Book) (day : ℕ) (file given : List ℕ) (why : BankFault) (r : Rule) → given ≡ file → r ≡ rule_of why → Fails why (file_lines most_records given)
    → RefusedBy r (own_rule b day (ImportBank file))
judged_unread b day file given why r is_file is fails =
    let known = lines_of_rows (lines_seen b.entries) in
    let rows = rows_of_file b file in
    let refused : RefusedBy r (fault_rule (file_lines most_records file)) =
    subst (λ (rule : Rule). RefusedBy rule (fault_rule (file_lines most_records file))) (sym is)
    (refused_unread (file_lines most_records file) why (subst (λ (bytes : List ℕ). Fails why (file_lines most_records bytes)) is_file fails)) in
    refused_first r (fault_rule (file_lines most_records file))
    (fault_rule (judgement known (lines_in file)) ∷ ahead_rule (find (is_ahead day) (new_lines known (lines_in file)))
    ∷ limit_rules (suspense_count (lines_after b.entries file)) (credit_count (credits_after b.entries file)) rows) refused

-- a refusal, and a reply
module _ (b : Book) (file : List ℕ) (view : ImportView) (is : IsImportView b file view) (day : ℕ) (given : List ℕ) (is_file : given ≡ file) where
  pub judged_refused : (r : Rule) → RefusedBy r (import_rule view day given) → RefusedBy r (own_rule b day (ImportBank file))
  judged_refused r h = subst (RefusedBy r) (ap (import_rule view day) is_file ∙ viewed_rule b file view is day) h

  pub judged_replied : (rows : List BankRow) (repeats : ℕ) → import_rule view day given ≡ None → rows ≡ rows_viewed view given → repeats ≡ length (lines_in given) - length rows
      → (own_rule b day (ImportBank file) ≡ None) × (Imported (length rows) repeats ≡ reply_to b day (ImportBank file))
  judged_replied rows repeats none made rest = (
    sym (ap (import_rule view day) is_file ∙ viewed_rule b file view is day) ∙ none,
    ap (λ (n : ℕ). Imported (length rows) n) rest
        ∙ (λ i. Imported (length rows) (length (lines_in (is_file i)) - length rows))
        ∙ ap (λ (rs : List BankRow). Imported (length rs) (length (lines_in file) - length rs)) (made ∙ ap (rows_viewed view) is_file ∙ viewed_rows b file view is),
  )
