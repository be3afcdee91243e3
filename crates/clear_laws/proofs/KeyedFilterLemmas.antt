-- Some of the rows of a table in order: how they are found, and what becomes of them where rows are put in or taken out.
use Rattle.std.proofs.Common.{◌≡◌, ℕ, List, [], ◌∷◌, ◌++◌, map, filter, not, Some, None, Bool, true, false, cond, refl, sym, ap, ◌∙◌}
use Rattle.std.specs.List.{AllByRecursion}
use Rattle.clear_values.specs.Keyed.{is_key, is_before, find_row, AllBehind, AreInOrder, with_row, with_rows, without_rows}
use Rattle.clear_values.proofs.KeyedLemmas.{is_key-sym, is_key-true, before_is_other, behind_all, none_behind, other_row}
use Rattle.clear_values.proofs.KeyedMapLemmas.{with_row-first}
use Rattle.clear_values.proofs.KeyedRowsLemmas.{AreNew}
use Rattle.clear_laws.proofs.OtherKeyLemmas.{behind-filter}

-- ---- filters of lists

-- those of rows that are shown otherwise
pub filter-shown : {X Y : Type 0} (f : X → Y) (p : X → Bool) (q : Y → Bool) → ((x : X) → q (f x) ≡ p x) → (xs : List X) → filter q (map f xs) ≡ map f (filter p xs)
filter-shown f p q same [] = refl
filter-shown f p q same (x ∷ xs) =
    ap (λ b. cond b (f x ∷ filter q (map f xs)) (filter q (map f xs))) (same x) ∙ told (p x) (filter-shown f p q same xs)
  where
    told : (b : Bool) → filter q (map f xs) ≡ map f (filter p xs) → cond b (f x ∷ filter q (map f xs)) (filter q (map f xs)) ≡ map f (cond b (x ∷ filter p xs) (filter p xs))
    told true rest = ap (λ ys. f x ∷ ys) rest
    told false rest = rest

-- two tests, one after the other, in any order
pub filter_swap : {X : Type 0} (p q : X → Bool) (xs : List X) → filter p (filter q xs) ≡ filter q (filter p xs)
filter_swap p q [] = refl
filter_swap p q (x ∷ xs) = told (p x) (q x) refl refl (filter_swap p q xs)
  where
    told : (a b : Bool) → p x ≡ a → q x ≡ b → filter p (filter q xs) ≡ filter q (filter p xs)
        → filter p (cond b (x ∷ filter q xs) (filter q xs)) ≡ filter q (cond a (x ∷ filter p xs) (filter p xs))
    told true true h k rest =
        ap (λ c. cond c (x ∷ filter p (filter q xs)) (filter p (filter q xs))) h
        ∙ ap (λ ys. x ∷ ys) rest
        ∙ sym (ap (λ c. cond c (x ∷ filter q (filter p xs)) (filter q (filter p xs))) k)
    told true false h k rest = rest ∙ sym (ap (λ c. cond c (x ∷ filter q (filter p xs)) (filter q (filter p xs))) k)
    told false true h k rest = ap (λ c. cond c (x ∷ filter p (filter q xs)) (filter p (filter q xs))) h ∙ rest
    told false false h k rest = rest

-- ---- before rows were put in

module _ {Row : Type 0} (key : Row → List ℕ) where
  -- what holds of all rows with a new one holds of the others and of the new one
  pub all_before : (P : Row → Type 0) (rows : List Row) (new : Row) → AllByRecursion P (with_row key rows new) → AllByRecursion P rows × P new
  all_before P [] new all = (tt, all.0)
  all_before P (row ∷ rows) new all = placed (is_before (key new) (key row)) (all_before P rows new) all
    where
      placed : (before : Bool) → (AllByRecursion P (with_row key rows new) → AllByRecursion P rows × P new)
          → AllByRecursion P (cond before (new ∷ row ∷ rows) (row ∷ with_row key rows new)) → AllByRecursion P (row ∷ rows) × P new
      placed true rest all = (all.1, all.0)
      placed false rest all = let more = rest all.1 in ((all.0, more.0), more.1)

  pub all_before_rows : (P : Row → Type 0) (rows news : List Row) → AllByRecursion P (with_rows key rows news) → AllByRecursion P rows × AllByRecursion P news
  all_before_rows P rows [] all = (all, tt)
  all_before_rows P rows (new ∷ news) all =
      let rest = all_before_rows P (with_row key rows new) news all in
      let parts = all_before P rows new rest.0 in
      (parts.0, (parts.1, rest.1))

  behind_before : (k : List ℕ) (rows : List Row) (new : Row) → AllBehind key k (with_row key rows new) → AllBehind key k rows × (is_before k (key new) ≡ true)
  behind_before k [] new all = (tt, all.0)
  behind_before k (row ∷ rows) new all = placed (is_before (key new) (key row)) (behind_before k rows new) all
    where
      placed : (before : Bool) → (AllBehind key k (with_row key rows new) → AllBehind key k rows × (is_before k (key new) ≡ true))
          → AllBehind key k (cond before (new ∷ row ∷ rows) (row ∷ with_row key rows new)) → AllBehind key k (row ∷ rows) × (is_before k (key new) ≡ true)
      placed true rest all = (all.1, all.0)
      placed false rest all = let more = rest all.1 in ((all.0, more.0), more.1)

  -- rows that are in order with a new one were so without it, and its key was free
  pub in_order-before : (rows : List Row) (new : Row) → AreInOrder key (with_row key rows new) → AreInOrder key rows × (find_row key rows (key new) ≡ None)
  in_order-before [] new order = (tt, refl)
  in_order-before (row ∷ rows) new order = placed (is_before (key new) (key row)) (in_order-before rows new) order
    where
      placed : (before : Bool) → (AreInOrder key (with_row key rows new) → AreInOrder key rows × (find_row key rows (key new) ≡ None))
          → AreInOrder key (cond before (new ∷ row ∷ rows) (row ∷ with_row key rows new)) → AreInOrder key (row ∷ rows) × (find_row key (row ∷ rows) (key new) ≡ None)
      placed true rest order = (order.1, none_behind key (key new) (row ∷ rows) order.0)
      placed false rest order =
          let behind = behind_before (key row) rows new order.0 in
          let more = rest order.1 in
          let other = is_key-sym (key new) (key row) (before_is_other (key row) (key new) behind.1) in
          ((behind.0, more.0), ap (λ b. cond b (Some row) (find_row key rows (key new))) other ∙ more.1)

  pub in_order-before_rows : (rows news : List Row) → AreInOrder key (with_rows key rows news) → AreInOrder key rows
  in_order-before_rows rows [] order = order
  in_order-before_rows rows (new ∷ news) order = (in_order-before rows new (in_order-before_rows (with_row key rows new) news order)).0

  none_before : (rows : List Row) (new : Row) (k : List ℕ) → find_row key (with_row key rows new) k ≡ None → find_row key rows k ≡ None
  none_before [] new k none = refl
  none_before (row ∷ rows) new k none = placed (is_before (key new) (key row)) (none_before rows new k) none
    where
      placed : (before : Bool) → (find_row key (with_row key rows new) k ≡ None → find_row key rows k ≡ None)
          → find_row key (cond before (new ∷ row ∷ rows) (row ∷ with_row key rows new)) k ≡ None → find_row key (row ∷ rows) k ≡ None
      placed true rest none = (other_row key new (row ∷ rows) k none).1
      placed false rest none =
          let parts = other_row key row (with_row key rows new) k none in
          ap (λ b. cond b (Some row) (find_row key rows k)) parts.0 ∙ rest parts.1

  new_before : (rows : List Row) (new : Row) (news : List Row) → AreNew key (with_row key rows new) news → AreNew key rows news
  new_before rows new [] all = tt
  new_before rows new (next ∷ news) all = (none_before rows new (key next) all.0, new_before rows new news all.1)

  -- each key of several was free
  pub in_order-new : (rows news : List Row) → AreInOrder key (with_rows key rows news) → AreNew key rows news
  in_order-new rows [] order = tt
  in_order-new rows (new ∷ news) order = (
    (in_order-before rows new (in_order-before_rows (with_row key rows new) news order)).1,
    new_before rows new news (in_order-new (with_row key rows new) news order),
  )

  -- ---- rows in order behind rows in order

  behind-after : (k : List ℕ) (xs ys : List Row) → AllBehind key k (xs ++ ys) → AllBehind key k ys
  behind-after k [] ys all = all
  behind-after k (x ∷ xs) ys all = behind-after k xs ys all.1

  new_beside : (x : Row) (xs ys : List Row) → AllBehind key (key x) ys → AreNew key xs ys → AreNew key (x ∷ xs) ys
  new_beside x xs [] behind new = tt
  new_beside x xs (y ∷ ys) behind new = (
    ap (λ b. cond b (Some x) (find_row key xs (key y))) (is_key-sym (key y) (key x) (before_is_other (key x) (key y) behind.0)) ∙ new.0,
    new_beside x xs ys behind.1 new.1,
  )

  -- of two lists that are in order as one, the second has new keys, each once
  pub in_order-apart : (xs ys : List Row) → AreInOrder key (xs ++ ys) → AreNew key xs ys
  in_order-apart [] [] order = tt
  in_order-apart [] (y ∷ ys) order = (refl, in_order-apart [] ys order.1)
  in_order-apart (x ∷ xs) ys order = new_beside x xs ys (behind-after (key x) xs ys order.0) (in_order-apart xs ys order.1)

  pub in_order-after : (xs ys : List Row) → AreInOrder key (xs ++ ys) → AreInOrder key ys
  in_order-after [] ys order = order
  in_order-after (x ∷ xs) ys order = in_order-after xs ys order.1

-- ---- the rows that pass a test

module _ {Row : Type 0} (key : Row → List ℕ) (p : Row → Bool) where
  -- a key that only such rows have is found among them
  pub find_row-filter : (k : List ℕ) → ((row : Row) → key row ≡ k → p row ≡ true) → (rows : List Row) → find_row key (filter p rows) k ≡ find_row key rows k
  find_row-filter k passes [] = refl
  find_row-filter k passes (row ∷ rows) = told (p row) (is_key (key row) k) refl refl (find_row-filter k passes rows)
    where
      left : List Row
      left = filter p rows

      told : (a b : Bool) → p row ≡ a → is_key (key row) k ≡ b → find_row key left k ≡ find_row key rows k → find_row key (cond a (row ∷ left) left) k ≡ cond b (Some row) (find_row key rows k)
      told true b is here rest = (λ i. cond (here i) (Some row) (rest i))
      told false true is here rest = absurd (cc (sym is ∙ passes row (is_key-true (key row) k here)))
      told false false is here rest = rest

  -- a row that doesn't pass is put in beside them
  pub filter-with_row_other : (rows : List Row) (new : Row) → p new ≡ false → filter p (with_row key rows new) ≡ filter p rows
  filter-with_row_other [] new is = ap (λ b. cond b (new ∷ []) []) is
  filter-with_row_other (row ∷ rows) new is = placed (is_before (key new) (key row)) (filter-with_row_other rows new is)
    where
      placed : (before : Bool) → filter p (with_row key rows new) ≡ filter p rows → filter p (cond before (new ∷ row ∷ rows) (row ∷ with_row key rows new)) ≡ filter p (row ∷ rows)
      placed true rest = ap (λ b. cond b (new ∷ filter p (row ∷ rows)) (filter p (row ∷ rows))) is
      placed false rest = ap (λ ys. cond (p row) (row ∷ ys) ys) rest

  pub filter-with_rows_other : (rows news : List Row) → AllByRecursion (λ row. p row ≡ false) news → filter p (with_rows key rows news) ≡ filter p rows
  filter-with_rows_other rows [] all = refl
  filter-with_rows_other rows (new ∷ news) all =
      filter-with_rows_other (with_row key rows new) news all.1 ∙ filter-with_row_other rows new all.0

  -- and one that does among them
  pub filter-with_row : (rows : List Row) (new : Row) → AreInOrder key rows → p new ≡ true → filter p (with_row key rows new) ≡ with_row key (filter p rows) new
  filter-with_row [] new order is = ap (λ b. cond b (new ∷ []) []) is
  filter-with_row (row ∷ rows) new order is = placed (is_before (key new) (key row)) (p row) refl refl (filter-with_row rows new order.1 is)
    where
      left : List Row
      left = filter p rows

      more : List Row
      more = filter p (with_row key rows new)

      placed : (before here : Bool) → is_before (key new) (key row) ≡ before → p row ≡ here → more ≡ with_row key left new → filter p (cond before (new ∷ row ∷ rows) (row ∷ with_row key rows new)) ≡ with_row key (filter p (row ∷ rows)) new
      placed true here ahead passes rest =
          ap (λ b. cond b (new ∷ filter p (row ∷ rows)) (filter p (row ∷ rows))) is
          ∙ sym (with_row-first key (filter p (row ∷ rows)) new (behind-filter key p (key new) (row ∷ rows) (ahead, behind_all key (key new) (key row) rows ahead order.0)))
      placed false true ahead passes rest =
          ap (λ b. cond b (row ∷ more) more) passes
          ∙ ap (λ ys. row ∷ ys) rest
          ∙ sym (ap (λ b. with_row key (cond b (row ∷ left) left) new) passes ∙ ap (λ b. cond b (new ∷ row ∷ left) (row ∷ with_row key left new)) ahead)
      placed false false ahead passes rest =
          ap (λ b. cond b (row ∷ more) more) passes
          ∙ rest
          ∙ sym (ap (λ b. with_row key (cond b (row ∷ left) left) new) passes)

  pub filter-with_rows : (rows news : List Row) → AreInOrder key (with_rows key rows news) → filter p (with_rows key rows news) ≡ with_rows key (filter p rows) (filter p news)
  filter-with_rows rows [] order = refl
  filter-with_rows rows (new ∷ news) order = filter-with_rows (with_row key rows new) news order ∙ told (p new) refl
    where
      before : AreInOrder key rows
      before = in_order-before_rows key rows (new ∷ news) order

      told : (b : Bool) → p new ≡ b → with_rows key (filter p (with_row key rows new)) (filter p news) ≡ with_rows key (filter p rows) (cond b (new ∷ filter p news) (filter p news))
      told true is = ap (λ ys. with_rows key ys (filter p news)) (filter-with_row rows new before is)
      told false is = ap (λ ys. with_rows key ys (filter p news)) (filter-with_row_other rows new is)

  -- rows whose key meets a test are taken out among them
  pub filter-without_rows : (test : List ℕ → Bool) (rows : List Row) → filter p (without_rows key test rows) ≡ without_rows key test (filter p rows)
  filter-without_rows test rows = filter_swap p (λ row. not (test (key row))) rows

  -- and beside them
  pub filter-without_rows_other : (test : List ℕ → Bool) → ((row : Row) → test (key row) ≡ true → p row ≡ false) → (rows : List Row) → filter p (without_rows key test rows) ≡ filter p rows
  filter-without_rows_other test apart [] = refl
  filter-without_rows_other test apart (row ∷ rows) = told (test (key row)) refl (filter-without_rows_other test apart rows)
    where
      left : List Row
      left = without_rows key test rows

      told : (b : Bool) → test (key row) ≡ b → filter p left ≡ filter p rows → filter p (cond (not b) (row ∷ left) left) ≡ filter p (row ∷ rows)
      told true is rest = rest ∙ sym (ap (λ b. cond b (row ∷ filter p rows) (filter p rows)) (apart row is))
      told false is rest = ap (λ ys. cond (p row) (row ∷ ys) ys) rest
