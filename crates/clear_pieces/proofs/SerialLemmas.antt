-- Payments that are added one after another, no two with one serial.
use Rattle.std.proofs.Common.{◌≡◌, ◌≢◌, ℕ, suc, ◌+◌, ◌<◌, ◌≤◌, List, [], ◌∷◌, ◌++◌, length, get_or, take, drop, map, filter, None, Some, is_some, Bool, true, false, not, cond, ◌&&◌, ◌||◌, ◌==◌, nat_lt, refl, sym, ap, ◌∙◌, subst, drop-cons, arith}
use Rattle.std.specs.Prelude.{All}
use Rattle.std.specs.Ordering.{nat_cmp, is_eq}
use Rattle.std.proofs.lemmas.Bool.Decides.{nat_tests}
use Rattle.std.proofs.lemmas.List.{length-append, take_more, take-append-drop}
use Rattle.std.proofs.lemmas.List.Elements.{All-nil, All-cons, All-append, All-filter}
use Rattle.clear_account.specs.declared.entries.Credit.{Credit}
use Rattle.clear_account.specs.Account.{comes_before, with_credit}
use Rattle.clear_book.specs.declared.rows.CreditRow.{CreditRow}
use Rattle.clear_book.specs.Accounts.{row_credit}
use Rattle.clear_book.specs.Keyed.{is_key, find_row, AreOnce}
use Rattle.clear_laws.proofs.KeyedLemmas.{is_key-sym, other_row}
use Rattle.clear_laws.proofs.VersionLemmas.{no_some}
use Rattle.clear_pieces.specs.Filled.{credit_serial, with_credits}

-- ---- rows without a key that stands twice

module _ {Row : Type 0} (key : Row → List ℕ) where
  -- a row is found at the end, or before it
  found_last : (rows : List Row) (row : Row) (k : List ℕ) → is_some (find_row key (rows ++ row ∷ []) k) ≡ is_some (find_row key rows k) || is_key (key row) k
  found_last [] row k = told (is_key (key row) k)
    where
      told : (b : Bool) → is_some (cond b (Some row) None) ≡ false || b
      told true = refl
      told false = refl
  found_last (first ∷ rows) row k = told (is_key (key first) k) (found_last rows row k)
    where
      told : (b : Bool) → is_some (find_row key (rows ++ row ∷ []) k) ≡ is_some (find_row key rows k) || is_key (key row) k
          → is_some (cond b (Some first) (find_row key (rows ++ row ∷ []) k)) ≡ is_some (cond b (Some first) (find_row key rows k)) || is_key (key row) k
      told true rest = refl
      told false rest = rest

  none_last : (rows : List Row) (row : Row) (k : List ℕ) → find_row key rows k ≡ None → is_key (key row) k ≡ false → find_row key (rows ++ row ∷ []) k ≡ None
  none_last [] row k none other = ap (λ b. cond b (Some row) None) other
  none_last (first ∷ rows) row k none other =
      let parts = other_row key first rows k none in
      ap (λ b. cond b (Some first) (find_row key (rows ++ row ∷ []) k)) parts.0 ∙ none_last rows row k parts.1 other

  -- one more at the end, whose key is new
  once_last : (rows : List Row) (row : Row) → AreOnce key rows → find_row key rows (key row) ≡ None → AreOnce key (rows ++ row ∷ [])
  once_last [] row once new = (refl, tt)
  once_last (first ∷ rows) row once new =
      let parts = other_row key first rows (key row) new in
      (none_last rows row (key first) once.0 (is_key-sym (key first) (key row) parts.0), once_last rows row once.1 parts.1)

  -- a row's key is none of those before
  new_there : (rows rest : List Row) (row : Row) → AreOnce key (rows ++ row ∷ rest) → find_row key rows (key row) ≡ None
  new_there [] rest row once = refl
  new_there (first ∷ rows) rest row once =
      ap (λ b. cond b (Some first) (find_row key rows (key row))) (is_key-sym (key row) (key first) (apart rows rest row (key first) once.0)) ∙ new_there rows rest row once.1
    where
      apart : (rows rest : List Row) (row : Row) (k : List ℕ) → find_row key (rows ++ row ∷ rest) k ≡ None → is_key (key row) k ≡ false
      apart [] rest row k none = (other_row key row rest k none).0
      apart (first ∷ rows) rest row k none = apart rows rest row k (other_row key first (rows ++ row ∷ rest) k none).1

-- ---- the search for a serial that stands twice

pub drop_more : {X : Type 0} (xs : List X) (i : ℕ) (x : X) → i < length xs → x ≡ get_or xs i x → drop i xs ≡ x ∷ drop (i + 1) xs
drop_more xs i x within is =
    let one : suc i ≡ i + 1 = omega arith in
    drop-cons xs i x within ∙ (λ j. sym is j ∷ drop (one j) xs)

not_false : (b : Bool) → not b ≡ false → b ≡ true
not_false true h = refl
not_false false h = absurd (cc)

not_true : (b : Bool) → not b ≡ true → b ≡ false
not_true false h = refl
not_true true h = absurd (cc)

module _ (rows : List CreditRow) (i : ℕ) (row : CreditRow) (within : i < length rows) (is : row ≡ get_or rows i row) where
  one_more : take (i + 1) rows ≡ take i rows ++ row ∷ []
  one_more = take_more rows i row within ∙ ap (λ r. take i rows ++ r ∷ []) (sym is)

  -- what a set of the serials so far says
  module _ (seen : ℕ → Bool) (all : (w : ℕ) → seen w ≡ is_some (find_row credit_serial (take i rows) (w ∷ []))) (new : Bool) (added : new ≡ not (seen row.serial)) where
    pub serial_twice : new ≡ false → AreOnce credit_serial rows → ⊥
    serial_twice h once =
        let there : is_some (find_row credit_serial (take i rows) (row.serial ∷ [])) ≡ true = sym (all row.serial) ∙ not_false (seen row.serial) (sym added ∙ h) in
        let parts : rows ≡ take i rows ++ row ∷ drop (i + 1) rows = sym (take-append-drop i rows) ∙ ap (λ rest. take i rows ++ rest) (drop_more rows i row within is) in
        let none = new_there credit_serial (take i rows) (drop (i + 1) rows) row (subst (AreOnce credit_serial) parts once) in
        let not_there : is_some (find_row credit_serial (take i rows) (row.serial ∷ [])) ≡ false = ap is_some none in
        absurd (cc)

    pub serial_new : new ≡ true → AreOnce credit_serial (take i rows) → AreOnce credit_serial (take (i + 1) rows)
    serial_new h once =
        subst (AreOnce credit_serial) (sym one_more)
        (once_last credit_serial (take i rows) row once (no_some _ (sym (all row.serial) ∙ not_true (seen row.serial) (sym added ∙ h))))

    pub serials_seen : (after : ℕ → Bool) → ((w : ℕ) → after w ≡ cond (is_eq (nat_cmp row.serial w)) true (seen w)) → (w : ℕ) → after w ≡ is_some (find_row credit_serial (take (i + 1) rows) (w ∷ []))
    serials_seen after grown w =
        grown w ∙ (λ j. cond (at_number row.serial w j) true (all w j)) ∙ either (row.serial == w) (is_some (find_row credit_serial (take i rows) (w ∷ [])))
        ∙ sym (ap (λ rs. is_some (find_row credit_serial rs (w ∷ []))) one_more ∙ found_last credit_serial (take i rows) row (w ∷ []))
      where
        at_number : (k q : ℕ) → is_eq (nat_cmp k q) ≡ (k == q)
        at_number k q = grind (arith, nat_tests)

        either : (t o : Bool) → cond t true o ≡ (o || (t && true))
        either true true = refl
        either true false = refl
        either false true = refl
        either false false = refl

-- ---- an account that is filled with such rows

-- no credit has the serial
abbrev HasNone : List Credit → ℕ → Type 0
HasNone held serial = All (λ k. k.serial ≢ serial) held

-- a credit with another serial leaves it so
has_none_with : (k : Credit) (held : List Credit) (serial : ℕ) → k.serial ≢ serial → HasNone held serial → HasNone (with_credit k held) serial
has_none_with k held serial other none =
    let P : Credit → Type 0 = λ l. l.serial ≢ serial in
    All-append P (filter (λ l. comes_before l k) held) (k ∷ filter (λ l. comes_before k l) held)
    (All-filter (λ l. comes_before l k) P held none)
    (All-cons P k (filter (λ l. comes_before k l) held) other (All-filter (λ l. comes_before k l) P held none))

-- the held credits have none of the rows' serials
abbrev AreFree : List CreditRow → List Credit → Type 0
AreFree [] held = Unit {0}
AreFree (row ∷ rows) held = HasNone held row.serial × AreFree rows held

free_none : (rows : List CreditRow) → AreFree rows []
free_none [] = tt
free_none (row ∷ rows) = (All-nil (λ (k : Credit). k.serial ≢ row.serial), free_none rows)

free_with : (rows : List CreditRow) (k : Credit) (held : List Credit) → find_row credit_serial rows (k.serial ∷ []) ≡ None → AreFree rows held → AreFree rows (with_credit k held)
free_with [] k held once free = tt
free_with (row ∷ rows) k held once free =
    let other = other_row credit_serial row rows (k.serial ∷ []) once in
    (has_none_with k held row.serial (apart row.serial k.serial other.0) free.0, free_with rows k held other.1 free.1)
  where
    apart : (a b : ℕ) → (a == b) && true ≡ false → b ≢ a
    apart a b h = λ is. absurd (grind (arith, nat_tests))

at_most_one_more : (k : Credit) (held : List Credit) → length (with_credit k held) ≤ length held + 1
at_most_one_more k held =
    omega (arith, length-append (filter (λ l. comes_before l k) held) (k ∷ filter (λ l. comes_before k l) held), exclusive held)
  where
    not_both : (x y m n : ℕ) → nat_lt x y || ((x == y) && nat_lt m n) ≡ true → nat_lt y x || ((y == x) && nat_lt n m) ≡ false
    not_both x y m n h = grind (arith, nat_tests)

    exclusive : (ls : List Credit) → length (filter (λ l. comes_before l k) ls) + length (filter (λ l. comes_before k l) ls) ≤ length ls
    exclusive [] = omega arith
    exclusive (l ∷ ls) = told (comes_before l k) (comes_before k l) (not_both l.day k.day l.serial k.serial) (exclusive ls)
      where
        told : (a b : Bool) → (a ≡ true → b ≡ false) → length (filter (λ l. comes_before l k) ls) + length (filter (λ l. comes_before k l) ls) ≤ length ls → length (cond a (l ∷ filter (λ l. comes_before l k) ls) (filter (λ l. comes_before l k) ls)) + length (cond b (l ∷ filter (λ l. comes_before k l) ls) (filter (λ l. comes_before k l) ls)) ≤ length (l ∷ ls)
        told true true apart rest = absurd (cc (apart refl))
        told true false apart rest = omega arith
        told false true apart rest = omega arith
        told false false apart rest = omega arith

-- the account holds the payments of the rows before these, so that with these it will hold all
pub record IsGoing (rows : List CreditRow) (held : List Credit) (all : List CreditRow) : Type 0 where
  pub rest : with_credits (map row_credit rows) held ≡ with_credits (map row_credit all) []
  pub few : length held + length rows ≤ length all
  pub free : AreFree rows held
  pub once : AreOnce credit_serial rows

pub going_first : (rows : List CreditRow) → AreOnce credit_serial rows → IsGoing rows [] rows
going_first rows once = record { rest = refl; few = omega arith; free = free_none rows; once = once }

module _ (i : ℕ) (row : CreditRow) (held : List Credit) (all : List CreditRow) (within : i < length all) (is : row ≡ get_or all i row) (h : IsGoing (drop i all) held all) where
  going_here : IsGoing (row ∷ drop (i + 1) all) held all
  going_here = subst (λ rows. IsGoing rows held all) (drop_more all i row within is) h

  pub going_on : IsGoing (drop (i + 1) all) (with_credit (row_credit row) held) all
  going_on = record {
    rest = going_here.rest;
    few = omega (arith, going_here.few, at_most_one_more (row_credit row) held);
    free = free_with (drop (i + 1) all) (row_credit row) held going_here.once.0 going_here.free.1;
    once = going_here.once.1;
  }
