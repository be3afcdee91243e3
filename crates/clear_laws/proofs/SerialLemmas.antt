-- Rows with numbers: numbers that follow on each other, and numbers that lie apart.
use Rattle.std.proofs.Common.{◌≡◌, ℕ, zero, suc, ◌+◌, ◌<◌, ◌≤◌, List, [], ◌∷◌, ◌++◌, map, Some, None, true, false, cond, refl, sym, ap, ◌∙◌, subst, arith, append_assoc}
use Rattle.std.proofs.lemmas.Bool.Decides.{nat_tests}
use Rattle.std.proofs.lemmas.List.{append-nil}
use Rattle.std.specs.List.{range_with_len, AllByRecursion}
use Rattle.clear_book.specs.Book.{newer}
use Rattle.clear_values.specs.Keyed.{is_before, is_key, find_row, AllBehind, AreInOrder, AreOnce, with_row, with_rows}
use Rattle.clear_values.proofs.KeyedLemmas.{first_less, none_behind, other_row}
use Rattle.clear_values.proofs.KeyedMapLemmas.{with_row-last}
use Rattle.clear_values.proofs.KeyedRowsLemmas.{AreNew, find_row-append}
use Rattle.clear_values.proofs.ListLemmas.{each}

-- the parts of numbers that follow on each other
pub same_parts : (a b : ℕ) (xs ys : List ℕ) → a ∷ xs ≡ b ∷ ys → (a ≡ b) × (xs ≡ ys)
same_parts a b xs ys e = (cc e, cc e)

other_number : (a b : ℕ) → a < b → is_key (a ∷ []) (b ∷ []) ≡ false
other_number a b h = grind (arith, nat_tests)

other_than : (a b : ℕ) → b < a → is_key (a ∷ []) (b ∷ []) ≡ false
other_than a b h = grind (arith, nat_tests)

-- ---- whatever the key

module _ {Row : Type 0} (key : Row → List ℕ) where
  -- keys that rise stand once
  pub in_order-once : (rows : List Row) → AreInOrder key rows → AreOnce key rows
  in_order-once [] order = tt
  in_order-once (row ∷ rows) order = (none_behind key (key row) rows order.0, in_order-once rows order.1)

  -- rows that are new to two lists are so to both
  pub new_to_both : (xs ys news : List Row) → AreNew key xs news → AreNew key ys news → AreNew key (xs ++ ys) news
  new_to_both xs ys [] left right = tt
  new_to_both xs ys (new ∷ news) left right =
      (find_row-append key xs ys (key new) ∙ (λ i. newer (left.0 i) (right.0 i)), new_to_both xs ys news left.1 right.1)

  -- and two lists that are new to rows are so together
  pub both_new : (rows xs ys : List Row) → AreNew key rows xs → AreNew key rows ys → AreNew key rows (xs ++ ys)
  both_new rows [] ys left right = right
  both_new rows (x ∷ xs) ys left right = (left.0, both_new rows xs ys left.1 right)

  -- a key that comes before two lists comes before both
  pub behind-both : (k : List ℕ) (xs ys : List Row) → AllBehind key k xs → AllBehind key k ys → AllBehind key k (xs ++ ys)
  behind-both k [] ys h g = g
  behind-both k (x ∷ xs) ys h g = (h.0, behind-both k xs ys h.1 g)

  -- rows in order behind rows in order
  pub in_order-both : (xs ys : List Row) → AreInOrder key xs → AreInOrder key ys → AllByRecursion (λ x. AllBehind key (key x) ys) xs → AreInOrder key (xs ++ ys)
  in_order-both [] ys left right before = right
  in_order-both (x ∷ xs) ys left right before =
      (behind-both (key x) xs ys left.0 before.0, in_order-both xs ys left.1 right before.1)

  -- the first of two lists in order comes before each row of the second
  all_before : (rows news : List Row) (new : Row) → AreInOrder key (rows ++ new ∷ news) → AllByRecursion (λ row. is_before (key row) (key new) ≡ true) rows
  all_before [] news new order = tt
  all_before (row ∷ rows) news new order = (head rows order.0, all_before rows news new order.1)
    where
      head : (others : List Row) → AllBehind key (key row) (others ++ new ∷ news) → is_before (key row) (key new) ≡ true
      head [] behind = behind.0
      head (other ∷ others) behind = head others behind.1

  -- new rows that come last go behind all rows
  pub with_rows-last : (rows news : List Row) → AreInOrder key (rows ++ news) → with_rows key rows news ≡ rows ++ news
  with_rows-last rows [] order = sym (append-nil rows)
  with_rows-last rows (new ∷ news) order =
      let joined : (rows ++ new ∷ []) ++ news ≡ rows ++ new ∷ news = append_assoc rows (new ∷ []) news in
      ap (λ all. with_rows key all news) (with_row-last key rows new (all_before rows news new order))
      ∙ with_rows-last (rows ++ new ∷ []) news (subst (AreInOrder key) (sym joined) order)
      ∙ joined

-- ---- rows with numbers

module _ {Row : Type 0} (number : Row → ℕ) where
  -- a row by its number
  abbrev pub by_number : Row → List ℕ
  by_number row = number row ∷ []

  -- ---- numbers that follow on each other

  follow-behind : (s a n : ℕ) (rows : List Row) → s < a → map number rows ≡ range_with_len a n → AllBehind by_number (s ∷ []) rows
  follow-behind s a n [] h e = tt
  follow-behind s a zero (row ∷ rows) h e = absurd (cc e)
  follow-behind s a (suc n) (row ∷ rows) h e =
      let parts = same_parts (number row) a (map number rows) (range_with_len (a + 1) n) e in
      (first_less s (number row) [] [] (omega (arith, parts.0)), follow-behind s (a + 1) n rows (omega arith) parts.1)

  pub follow-in_order : (a n : ℕ) (rows : List Row) → map number rows ≡ range_with_len a n → AreInOrder by_number rows
  follow-in_order a n [] e = tt
  follow-in_order a zero (row ∷ rows) e = absurd (cc e)
  follow-in_order a (suc n) (row ∷ rows) e =
      let parts = same_parts (number row) a (map number rows) (range_with_len (a + 1) n) e in
      (follow-behind (number row) (a + 1) n rows (omega (arith, parts.0)) parts.1, follow-in_order (a + 1) n rows parts.1)

  pub follow-between : (low high a n : ℕ) (rows : List Row) → low < a → a + n ≤ high + 1 → map number rows ≡ range_with_len a n
      → AllByRecursion (λ row. (low < number row) × (number row ≤ high)) rows
  follow-between low high a n [] h k e = tt
  follow-between low high a zero (row ∷ rows) h k e = absurd (cc e)
  follow-between low high a (suc n) (row ∷ rows) h k e =
      let parts = same_parts (number row) a (map number rows) (range_with_len (a + 1) n) e in
      ((omega (arith, parts.0), omega (arith, parts.0)), follow-between low high (a + 1) n rows (omega arith) (omega arith) parts.1)

  -- a row with the next number goes behind all
  pub follow-last : (n : ℕ) (rows : List Row) (new : Row) → map number rows ≡ range_with_len 1 n → number new ≡ n + 1 → with_row by_number rows new ≡ rows ++ new ∷ []
  follow-last n rows new numbers next =
      with_row-last by_number rows new
      (each (λ row. (0 < number row) × (number row ≤ n)) (λ row. is_before (by_number row) (by_number new) ≡ true)
      (λ row h. let high = h.1 in first_less (number row) (number new) [] [] (omega (arith, high, next))) rows
      (follow-between 0 n 1 n rows (omega arith) (omega arith) numbers))

  -- ---- numbers up to one, and numbers above it

  pub none-up_to : (s n : ℕ) (rows : List Row) → n < s → AllByRecursion (λ row. number row ≤ n) rows → find_row by_number rows (s ∷ []) ≡ None
  none-up_to s n [] h all = refl
  none-up_to s n (row ∷ rows) h all =
      let low = all.0 in
      ap (λ b. cond b (Some row) (find_row by_number rows (s ∷ []))) (other_number (number row) s (omega (arith, low))) ∙ none-up_to s n rows h all.1

  pub none-above : (s n : ℕ) (rows : List Row) → s ≤ n → AllByRecursion (λ row. n < number row) rows → find_row by_number rows (s ∷ []) ≡ None
  none-above s n [] h all = refl
  none-above s n (row ∷ rows) h all =
      let high = all.0 in
      ap (λ b. cond b (Some row) (find_row by_number rows (s ∷ []))) (other_than (number row) s (omega (arith, high))) ∙ none-above s n rows h all.1

  pub above-new : (n : ℕ) (rows news : List Row) → AllByRecursion (λ row. number row ≤ n) rows → AllByRecursion (λ row. n < number row) news → AreNew by_number rows news
  above-new n rows [] low high = tt
  above-new n rows (new ∷ news) low high = (none-up_to (number new) n rows high.0 low, above-new n rows news low high.1)

  pub up_to-new : (n : ℕ) (rows news : List Row) → AllByRecursion (λ row. n < number row) rows → AllByRecursion (λ row. number row ≤ n) news → AreNew by_number rows news
  up_to-new n rows [] high low = tt
  up_to-new n rows (new ∷ news) high low = (none-above (number new) n rows low.0 high, up_to-new n rows news high low.1)

  -- ---- one list in order behind another

  behind-above : (s n : ℕ) (rows : List Row) → s ≤ n → AllByRecursion (λ row. n < number row) rows → AllBehind by_number (s ∷ []) rows
  behind-above s n [] h all = tt
  behind-above s n (row ∷ rows) h all =
      let high = all.0 in
      (first_less s (number row) [] [] (omega (arith, high)), behind-above s n rows h all.1)

  pub in_order-append : (n : ℕ) (xs ys : List Row) → AreInOrder by_number xs → AreInOrder by_number ys → AllByRecursion (λ row. number row ≤ n) xs → AllByRecursion (λ row. n < number row) ys → AreInOrder by_number (xs ++ ys)
  in_order-append n xs ys left right low high =
      in_order-both by_number xs ys left right
      (each (λ row. number row ≤ n) (λ row. AllBehind by_number (by_number row) ys) (λ row h. behind-above (number row) n ys h high) xs low)

-- a key that tells rows apart that another one does
module _ {Row : Type 0} (key finer : Row → List ℕ) (apart : (x y : Row) → is_key (key x) (key y) ≡ false → is_key (finer x) (finer y) ≡ false) where
  none-finer : (rows : List Row) (row : Row) → find_row key rows (key row) ≡ None → find_row finer rows (finer row) ≡ None
  none-finer [] row none = refl
  none-finer (first ∷ rows) row none =
      let parts = other_row key first rows (key row) none in
      ap (λ b. cond b (Some first) (find_row finer rows (finer row))) (apart first row parts.0) ∙ none-finer rows row parts.1

  pub once-finer : (rows : List Row) → AreOnce key rows → AreOnce finer rows
  once-finer [] once = tt
  once-finer (row ∷ rows) once = (none-finer rows row once.0, once-finer rows once.1)

  pub new-finer : (rows news : List Row) → AreNew key rows news → AreNew finer rows news
  new-finer rows [] new = tt
  new-finer rows (first ∷ news) new = (none-finer rows first new.0, new-finer rows news new.1)

-- ---- whatever the element

-- what follows from two things holds of each where both do
pub of_both : {A : Type 0} (P Q R : A → Type 0) → ((x : A) → P x → Q x → R x) → (xs : List A) → AllByRecursion P xs → AllByRecursion Q xs → AllByRecursion R xs
of_both P Q R f [] h k = tt
of_both P Q R f (x ∷ xs) h k = (f x h.0 k.0, of_both P Q R f xs h.1 k.1)
