-- Rows with keys that stand once: before they were added, each key was free.
use Rattle.std.proofs.Common.{◌≡◌, ℕ, ◌+◌, ◌≤◌, List, [], ◌∷◌, Some, None, Bool, true, false, cond, refl, ap, subst, arith}
use Rattle.std.specs.List.{AllByRecursion, sum_by}
use Rattle.std.proofs.lemmas.List.Sums.{sum_by-cons}
use Rattle.clear_values.specs.Keyed.{is_key, is_before, find_row, AreInOrder, AreOnce, with_row, with_rows}
use Rattle.clear_values.proofs.KeyedLemmas.{is_key-refl, is_key-true, none_behind}
use Rattle.clear_values.proofs.KeyedRowsLemmas.{sum_by-with_row, sum_by-with_rows}
use Rattle.clear_store.specs.Changes.{AreFree}

module _ {Row : Type 0} (key : Row → List ℕ) where
  -- one where the row has the key
  abbrev held : List ℕ → Row → ℕ
  held k row = cond (is_key (key row) k) 1 0

  -- how many rows have a key
  abbrev pub key_count : List ℕ → List Row → ℕ
  key_count k rows = sum_by (held k) rows

  count-cons : (k : List ℕ) (row : Row) (rows : List Row) → key_count k (row ∷ rows) ≡ held k row + key_count k rows
  count-cons k row rows = sum_by-cons (held k) row rows

  -- a key is found where it is counted, and only there
  none_counted : (k : List ℕ) (rows : List Row) → find_row key rows k ≡ None → key_count k rows ≡ 0
  none_counted k [] none = refl
  none_counted k (row ∷ rows) none =
      told (is_key (key row) k) (count-cons k row rows) (none_counted k rows) none
    where
      told : (b : Bool) → key_count k (row ∷ rows) ≡ cond b 1 0 + key_count k rows → (find_row key rows k ≡ None → key_count k rows ≡ 0) → cond b (Some row) (find_row key rows k) ≡ None → key_count k (row ∷ rows) ≡ 0
      told true sum rest none = absurd (cc)
      told false sum rest none = omega (arith, sum, rest none)

  counted_none : (k : List ℕ) (rows : List Row) → key_count k rows ≤ 0 → find_row key rows k ≡ None
  counted_none k [] few = refl
  counted_none k (row ∷ rows) few =
      told (is_key (key row) k) (count-cons k row rows) (counted_none k rows)
    where
      told : (b : Bool) → key_count k (row ∷ rows) ≡ cond b 1 0 + key_count k rows → (key_count k rows ≤ 0 → find_row key rows k ≡ None) → cond b (Some row) (find_row key rows k) ≡ None
      told true sum rest = absurd (omega (arith, sum, few))
      told false sum rest = rest (omega (arith, sum, few))

  -- keys that stand once are counted once
  pub once_counted : (k : List ℕ) (rows : List Row) → AreOnce key rows → key_count k rows ≤ 1
  once_counted k [] once = omega arith
  once_counted k (row ∷ rows) once =
      told (is_key (key row) k) refl (count-cons k row rows) (once_counted k rows once.1)
    where
      told : (b : Bool) → is_key (key row) k ≡ b → key_count k (row ∷ rows) ≡ cond b 1 0 + key_count k rows → key_count k rows ≤ 1 → key_count k (row ∷ rows) ≤ 1
      told true is sum rest =
          let none : key_count k rows ≡ 0 = none_counted k rows (subst (λ (l : List ℕ). find_row key rows l ≡ None) (is_key-true (key row) k is) once.0) in
          omega (arith, sum, none)
      told false is sum rest = omega (arith, sum, rest)

  -- new keys are free, where with them each is counted once
  counted_free : (rows news : List Row) → ((k : List ℕ) → key_count k rows + key_count k news ≤ 1) → AreFree key rows news
  counted_free rows [] few = tt
  counted_free rows (new ∷ news) few =
      (counted_none (key new) rows none_before, counted_free (with_row key rows new) news moved)
    where
      none_before : key_count (key new) rows ≤ 0
      none_before =
          let here : held (key new) new ≡ 1 = ap (λ b. cond b 1 0) (is_key-refl (key new)) in
          omega (arith, few (key new), count-cons (key new) new news, here)

      moved : (k : List ℕ) → key_count k (with_row key rows new) + key_count k news ≤ 1
      moved k = omega (arith, few k, count-cons k new news, sum_by-with_row key (held k) rows new)

  -- whatever the order in which they are added
  pub once_free : (order : Row → List ℕ) (rows news : List Row) → ((k : List ℕ) → key_count k (with_rows order rows news) ≤ 1) → AreFree key rows news
  once_free order rows news few =
      counted_free rows news (λ k. omega (arith, few k, sum_by-with_rows order (held k) rows news))

  -- keys that rise strictly stand once
  in_order_once : (rows : List Row) → AreInOrder key rows → AreOnce key rows
  in_order_once [] order = tt
  in_order_once (row ∷ rows) order = (none_behind key (key row) rows order.0, in_order_once rows order.1)

  -- rows that are in order with new ones had their keys free
  pub in_order_free : (rows news : List Row) → AreInOrder key (with_rows key rows news) → AreFree key rows news
  in_order_free rows news order =
      once_free key rows news (λ k. once_counted k (with_rows key rows news) (in_order_once (with_rows key rows news) order))

-- what holds of all rows with new ones holds of the new ones
module _ {Row : Type 0} (key : Row → List ℕ) (P : Row → Type 0) where
  pub all_with : (rows : List Row) (new : Row) → AllByRecursion P (with_row key rows new) → AllByRecursion P rows × P new
  all_with [] new all = (tt, all.0)
  all_with (row ∷ rows) new all = told (is_before (key new) (key row)) (all_with rows new) all
    where
      told : (before : Bool) → (AllByRecursion P (with_row key rows new) → AllByRecursion P rows × P new)
          → AllByRecursion P (cond before (new ∷ row ∷ rows) (row ∷ with_row key rows new)) → AllByRecursion P (row ∷ rows) × P new
      told true rest all = (all.1, all.0)
      told false rest all = let more = rest all.1 in ((all.0, more.0), more.1)

  pub all_new : (rows news : List Row) → AllByRecursion P (with_rows key rows news) → AllByRecursion P rows × AllByRecursion P news
  all_new rows [] all = (all, tt)
  all_new rows (new ∷ news) all =
      let rest = all_new (with_row key rows new) news all in
      let parts = all_with rows new rest.0 in
      (parts.0, (parts.1, rest.1))
