-- Rows in the order of their keys, and one more.
use Rattle.std.proofs.Common.{◌≡◌, ℕ, ◌+◌, ◌<◌, ◌⊎◌, ⊎_elim, inl, inr, List, [], ◌∷◌, length, Some, None, Bool, true, false, cond, ◌&&◌, ◌||◌, ◌==◌, nat_lt, refl, sym, ap, ◌∙◌, subst, arith}
use Rattle.std.proofs.lemmas.Bool.{and_parts, cases_order}
use Rattle.std.proofs.lemmas.Bool.Decides.{nat_tests}
use Rattle.clear_values.specs.Keyed.{is_key, is_before, find_row, AllBehind, AreInOrder, with_row}

-- ---- keys

pub is_key-refl : (k : List ℕ) → is_key k k ≡ true
is_key-refl [] = refl
is_key-refl (a ∷ k) = let rest = is_key-refl k in grind (arith, nat_tests)

equal_numbers : (a b : ℕ) → a == b ≡ true → a ≡ b
equal_numbers a b h = grind (arith, nat_tests)

-- a key is itself alone
pub is_key-true : (k l : List ℕ) → is_key k l ≡ true → k ≡ l
is_key-true [] [] h = refl
is_key-true [] (b ∷ l) h = absurd (cc)
is_key-true (a ∷ k) [] h = absurd (cc)
is_key-true (a ∷ k) (b ∷ l) h =
    let both = and_parts (a == b) (is_key k l) h in
    (λ i. equal_numbers a b both.0 i ∷ is_key-true k l both.1 i)

pub is_key-sym : (k l : List ℕ) → is_key k l ≡ false → is_key l k ≡ false
is_key-sym k l h = told (is_key l k) refl
  where
    told : (b : Bool) → is_key l k ≡ b → is_key l k ≡ false
    told false e = e
    told true e =
        let same = is_key-true l k e in
        absurd (cc (subst (λ (m : List ℕ). is_key k m ≡ true) (sym same) (is_key-refl k)))

either : (a b : Bool) → a || b ≡ true → (a ≡ true) ⊎ (b ≡ true)
either true b h = inl refl
either false b h = inr h

less : (a b : ℕ) → nat_lt a b ≡ true → a < b
less a b h = grind (arith, nat_tests)

pub first_less : (a b : ℕ) (k l : List ℕ) → a < b → is_before (a ∷ k) (b ∷ l) ≡ true
first_less a b k l h = grind (arith, nat_tests)

first_same : (a : ℕ) (k l : List ℕ) → is_before k l ≡ true → is_before (a ∷ k) (a ∷ l) ≡ true
first_same a k l h = grind (arith, nat_tests)

-- of two keys that differ one comes before the other
pub is_before-total : (k l : List ℕ) → is_key k l ≡ false → is_before k l ≡ false → is_before l k ≡ true
is_before-total [] [] differ not = absurd (cc)
is_before-total [] (b ∷ l) differ not = absurd (cc)
is_before-total (a ∷ k) [] differ not = refl
is_before-total (a ∷ k) (b ∷ l) differ not =
    ⊎_elim
    (λ (e : a ≡ b).
    let parts = subst (λ (n : ℕ). (is_key (n ∷ k) (b ∷ l) ≡ false) × (is_before (n ∷ k) (b ∷ l) ≡ false)) e (differ, not) in
    let rest = is_before-total k l (tail_differs b k l parts.0) (tail_not b k l parts.1) in
    subst (λ (n : ℕ). is_before (b ∷ l) (n ∷ k) ≡ true) (sym e) (first_same b l k rest))
    (λ (o : (a < b) ⊎ (b < a)).
    ⊎_elim (λ (lt : a < b). absurd (cc (first_less a b k l lt))) (first_less b a l k) o)
    (cases_order a b)
  where
    tail_differs : (b : ℕ) (k l : List ℕ) → is_key (b ∷ k) (b ∷ l) ≡ false → is_key k l ≡ false
    tail_differs b k l h = grind (arith, nat_tests)

    tail_not : (b : ℕ) (k l : List ℕ) → is_before (b ∷ k) (b ∷ l) ≡ false → is_before k l ≡ false
    tail_not b k l h = grind (arith, nat_tests)

before_parts : (a b : ℕ) (k l : List ℕ) → is_before (a ∷ k) (b ∷ l) ≡ true → (a < b) ⊎ ((a ≡ b) × (is_before k l ≡ true))
before_parts a b k l h =
    ⊎_elim
    (λ (lt : nat_lt a b ≡ true). inl (less a b lt))
    (λ (s : (a == b) && is_before k l ≡ true). let both = and_parts (a == b) (is_before k l) s in inr (equal_numbers a b both.0, both.1))
    (either (nat_lt a b) ((a == b) && is_before k l) h)

pub is_before-trans : (k l m : List ℕ) → is_before k l ≡ true → is_before l m ≡ true → is_before k m ≡ true
is_before-trans [] [] m h g = absurd (cc)
is_before-trans [] (b ∷ l) [] h g = absurd (cc)
is_before-trans [] (b ∷ l) (c ∷ m) h g = refl
is_before-trans (a ∷ k) [] m h g = absurd (cc)
is_before-trans (a ∷ k) (b ∷ l) [] h g = absurd (cc)
is_before-trans (a ∷ k) (b ∷ l) (c ∷ m) h g =
    ⊎_elim
    (λ (lt : a < b). ⊎_elim (λ (lt2 : b < c). first_less a c k m (omega arith)) (λ (s2 : (b ≡ c) × (is_before l m ≡ true)). first_less a c k m (omega (arith, s2.0))) (before_parts b c l m g))
    (λ (s : (a ≡ b) × (is_before k l ≡ true)).
    ⊎_elim
    (λ (lt2 : b < c). first_less a c k m (omega (arith, s.0)))
    (λ (s2 : (b ≡ c) × (is_before l m ≡ true)).
    subst (λ (n : ℕ). is_before (a ∷ k) (n ∷ m) ≡ true) (s.0 ∙ s2.0) (first_same a k m (is_before-trans k l m s.1 s2.1)))
    (before_parts b c l m g))
    (before_parts a b k l h)

-- a key that another comes before is not that other
pub before_is_other : (k l : List ℕ) → is_before k l ≡ true → is_key l k ≡ false
before_is_other k l h = told (is_key l k) refl
  where
    never : (m : List ℕ) → is_before m m ≡ true → ⊥
    never [] g = cc
    never (a ∷ m) g = step (nat_lt a a) (a == a) (is_before m m) (strict a) (never m) g
      where
        strict : (n : ℕ) → nat_lt n n ≡ false
        strict n = grind (arith, nat_tests)

        step : (p q r : Bool) → p ≡ false → (r ≡ true → ⊥) → p || (q && r) ≡ true → ⊥
        step true q r e rest g = cc
        step false true true e rest g = rest refl
        step false true false e rest g = cc
        step false false r e rest g = cc

    told : (b : Bool) → is_key l k ≡ b → is_key l k ≡ false
    told false e = e
    told true e = absurd (never k (subst (λ (m : List ℕ). is_before k m ≡ true) (is_key-true l k e) h))

-- ---- tables

module _ {Row : Type 0} (key : Row → List ℕ) where
  -- a key that rows lack is not that of the first, and the others lack it
  pub other_row : (row : Row) (rows : List Row) (k : List ℕ) → find_row key (row ∷ rows) k ≡ None → (is_key (key row) k ≡ false) × (find_row key rows k ≡ None)
  other_row row rows k h = told (is_key (key row) k) h
    where
      told : (b : Bool) → cond b (Some row) (find_row key rows k) ≡ None → (b ≡ false) × (find_row key rows k ≡ None)
      told true h = absurd (cc)
      told false h = (refl, h)

  -- a found row has the key
  pub found_key : (rows : List Row) (k : List ℕ) (row : Row) → find_row key rows k ≡ Some row → key row ≡ k
  found_key [] k row h = absurd (cc)
  found_key (first ∷ rows) k row h = told (is_key (key first) k) refl h (found_key rows k row)
    where
      told : (b : Bool) → is_key (key first) k ≡ b → cond b (Some first) (find_row key rows k) ≡ Some row → (find_row key rows k ≡ Some row → key row ≡ k) → key row ≡ k
      told true is g rest = let same : first ≡ row = cc in subst (λ (r : Row). key r ≡ k) same (is_key-true (key first) k is)
      told false is g rest = rest g

  -- a key that comes before those of the rows is none of theirs
  pub none_behind : (k : List ℕ) (rows : List Row) → AllBehind key k rows → find_row key rows k ≡ None
  none_behind k [] all = refl
  none_behind k (row ∷ rows) all =
      ap (λ b. cond b (Some row) (find_row key rows k)) (before_is_other k (key row) all.0) ∙ none_behind k rows all.1

  -- a row with a new key is found by it, and the others as before
  pub find_row-with_row : (rows : List Row) (new : Row) (k : List ℕ) → find_row key rows (key new) ≡ None → find_row key (with_row key rows new) k ≡ cond (is_key (key new) k) (Some new) (find_row key rows k)
  find_row-with_row [] new k none = refl
  find_row-with_row (row ∷ rows) new k none =
      let other = other_row row rows (key new) none in
      placed (is_before (key new) (key row)) (is_key (key new) k) refl other.0 (find_row-with_row rows new k other.1)
    where
      behind : (here there : Bool) → is_key (key row) k ≡ here → is_key (key new) k ≡ there → is_key (key row) (key new) ≡ false → cond here (Some row) (cond there (Some new) (find_row key rows k)) ≡ cond there (Some new) (cond here (Some row) (find_row key rows k))
      behind true true h t apart = absurd (cc (subst (λ (m : List ℕ). is_key (key row) m ≡ true) (sym (is_key-true (key new) k t)) h))
      behind true false h t apart = refl
      behind false there h t apart = refl

      placed : (before there : Bool) → is_key (key new) k ≡ there → is_key (key row) (key new) ≡ false → find_row key (with_row key rows new) k ≡ cond (is_key (key new) k) (Some new) (find_row key rows k) → find_row key (cond before (new ∷ row ∷ rows) (row ∷ with_row key rows new)) k ≡ cond (is_key (key new) k) (Some new) (find_row key (row ∷ rows) k)
      placed true there t apart rest = refl
      placed false there t apart rest = ap (λ o. cond (is_key (key row) k) (Some row) o) rest ∙ behind (is_key (key row) k) (is_key (key new) k) refl refl apart

  pub length-with_row : (rows : List Row) (new : Row) → length (with_row key rows new) ≡ length rows + 1
  length-with_row [] new = refl
  length-with_row (row ∷ rows) new = placed (is_before (key new) (key row)) (length-with_row rows new)
    where
      placed : (before : Bool) → length (with_row key rows new) ≡ length rows + 1 → length (cond before (new ∷ row ∷ rows) (row ∷ with_row key rows new)) ≡ length (row ∷ rows) + 1
      placed true rest = omega arith
      placed false rest = omega arith

  pub behind_all : (k l : List ℕ) (rows : List Row) → is_before k l ≡ true → AllBehind key l rows → AllBehind key k rows
  behind_all k l [] h all = tt
  behind_all k l (row ∷ rows) h all = (is_before-trans k l (key row) h all.0, behind_all k l rows h all.1)

  behind_with : (k : List ℕ) (rows : List Row) (new : Row) → AllBehind key k rows → is_before k (key new) ≡ true → AllBehind key k (with_row key rows new)
  behind_with k [] new all h = (h, tt)
  behind_with k (row ∷ rows) new all h = placed (is_before (key new) (key row)) (behind_with k rows new all.1 h)
    where
      placed : (before : Bool) → AllBehind key k (with_row key rows new) → AllBehind key k (cond before (new ∷ row ∷ rows) (row ∷ with_row key rows new))
      placed true rest = (h, all)
      placed false rest = (all.0, rest)

  -- the rows stay in order
  pub AreInOrder-with_row : (rows : List Row) (new : Row) → AreInOrder key rows → find_row key rows (key new) ≡ None → AreInOrder key (with_row key rows new)
  AreInOrder-with_row [] new order none = (tt, tt)
  AreInOrder-with_row (row ∷ rows) new order none =
      let other = other_row row rows (key new) none in
      placed (is_before (key new) (key row)) refl other.0 (AreInOrder-with_row rows new order.1 other.1)
    where
      placed : (before : Bool) → is_before (key new) (key row) ≡ before → is_key (key row) (key new) ≡ false → AreInOrder key (with_row key rows new) → AreInOrder key (cond before (new ∷ row ∷ rows) (row ∷ with_row key rows new))
      placed true is apart rest = ((is, behind_all (key new) (key row) rows is order.0), order)
      placed false is apart rest =
          let ahead = is_before-total (key new) (key row) (is_key-sym (key row) (key new) apart) is in
          (behind_with (key row) rows new order.0 ahead, rest)
