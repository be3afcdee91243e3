-- Rows taken out and put in place, and what holds of each row.
use Rattle.std.proofs.Common.{◌≡◌, ℕ, ◌+◌, List, [], ◌∷◌, length, Option, Some, None, Bool, true, false, cond, not, refl, sym, ap, ◌∙◌, subst, arith}
use Rattle.std.specs.List.{AllByRecursion}
use Rattle.clear_values.specs.Keyed.{is_key, is_before, find_row, AllBehind, AreInOrder, with_row, with_rows, in_key_order, without_rows, put_row}
use Rattle.clear_values.proofs.KeyedLemmas.{is_key-refl, is_key-true, is_key-sym, before_is_other, other_row, found_key, none_behind, find_row-with_row, length-with_row, AreInOrder-with_row}
use Rattle.clear_values.proofs.KeyedRowsLemmas.{found_first, same_rows}

module _ {Row : Type 0} (key : Row → List ℕ) where
  -- ---- rows taken out

  -- a key that meets the test is found no more, and the others as before
  pub find_row-without_rows : (test : List ℕ → Bool) (rows : List Row) (k : List ℕ) → find_row key (without_rows key test rows) k ≡ cond (test k) None (find_row key rows k)
  find_row-without_rows test [] k = told (test k)
    where
      told : (b : Bool) → None ≡ cond {A = Option Row} b None None
      told true = refl
      told false = refl
  find_row-without_rows test (row ∷ rows) k =
      told (test (key row)) (is_key (key row) k) refl refl (find_row-without_rows test rows k)
    where
      rest_of : List Row
      rest_of = without_rows key test rows

      told : (out here : Bool) → test (key row) ≡ out → is_key (key row) k ≡ here → find_row key rest_of k ≡ cond (test k) None (find_row key rows k) → find_row key (cond (not out) (row ∷ rest_of) rest_of) k ≡ cond (test k) None (cond here (Some row) (find_row key rows k))
      told true true o h rest =
          let meets : test k ≡ true = subst (λ (l : List ℕ). test l ≡ true) (is_key-true (key row) k h) o in
          rest ∙ ap (λ b. cond b None (find_row key rows k)) meets ∙ sym (ap (λ b. cond b None (Some row)) meets)
      told true false o h rest = rest
      told false true o h rest =
          let meets : test k ≡ false = subst (λ (l : List ℕ). test l ≡ false) (is_key-true (key row) k h) o in
          ap (λ b. cond b (Some row) (find_row key rest_of k)) h ∙ sym (ap (λ b. cond b None (Some row)) meets)
      told false false o h rest = ap (λ b. cond b (Some row) (find_row key rest_of k)) h ∙ rest

  -- a key that comes before those of the rows comes before those that stay
  behind_without : (test : List ℕ → Bool) (k : List ℕ) (rows : List Row) → AllBehind key k rows → AllBehind key k (without_rows key test rows)
  behind_without test k [] all = tt
  behind_without test k (row ∷ rows) all = told (test (key row)) (behind_without test k rows all.1)
    where
      told : (out : Bool) → AllBehind key k (without_rows key test rows) → AllBehind key k (cond (not out) (row ∷ without_rows key test rows) (without_rows key test rows))
      told true rest = rest
      told false rest = (all.0, rest)

  -- the rows stay in order
  pub AreInOrder-without_rows : (test : List ℕ → Bool) (rows : List Row) → AreInOrder key rows → AreInOrder key (without_rows key test rows)
  AreInOrder-without_rows test [] order = tt
  AreInOrder-without_rows test (row ∷ rows) order =
      told (test (key row)) (behind_without test (key row) rows order.0) (AreInOrder-without_rows test rows order.1)
    where
      told : (out : Bool) → AllBehind key (key row) (without_rows key test rows) → AreInOrder key (without_rows key test rows) → AreInOrder key (cond (not out) (row ∷ without_rows key test rows) (without_rows key test rows))
      told true all rest = rest
      told false all rest = (all, rest)

  -- nothing is taken out where no key meets the test
  pub without_rows-none : (test : List ℕ → Bool) (rows : List Row) → AllByRecursion (λ row. test (key row) ≡ false) rows → without_rows key test rows ≡ rows
  without_rows-none test [] all = refl
  without_rows-none test (row ∷ rows) all =
      ap (λ b. cond (not b) (row ∷ without_rows key test rows) (without_rows key test rows)) all.0
      ∙ ap (λ rest. row ∷ rest) (without_rows-none test rows all.1)

  -- no row has a key that is not found
  pub keys_differ : (rows : List Row) (k : List ℕ) → find_row key rows k ≡ None → AllByRecursion (λ row. is_key (key row) k ≡ false) rows
  keys_differ [] k none = tt
  keys_differ (row ∷ rows) k none =
      let other = other_row key row rows k none in
      (other.0, keys_differ rows k other.1)

  -- nothing is taken out of rows that lack the key
  pub without_rows-lacking : (rows : List Row) (k : List ℕ) → find_row key rows k ≡ None → without_rows key (λ l. is_key l k) rows ≡ rows
  without_rows-lacking rows k none = without_rows-none (λ l. is_key l k) rows (keys_differ rows k none)

  -- one row fewer, where the key is there
  pub length-without_rows : (rows : List Row) (k : List ℕ) (old : Row) → AreInOrder key rows → find_row key rows k ≡ Some old → length (without_rows key (λ l. is_key l k) rows) + 1 ≡ length rows
  length-without_rows [] k old order found = absurd (cc)
  length-without_rows (row ∷ rows) k old order found =
      told (is_key (key row) k) refl found (length-without_rows rows k old order.1)
    where
      rest_of : List Row
      rest_of = without_rows key (λ l. is_key l k) rows

      told : (here : Bool) → is_key (key row) k ≡ here → cond here (Some row) (find_row key rows k) ≡ Some old → (find_row key rows k ≡ Some old → length rest_of + 1 ≡ length rows) → length (cond (not here) (row ∷ rest_of) rest_of) + 1 ≡ length (row ∷ rows)
      told true is f rest =
          let none : find_row key rows k ≡ None = subst (λ (l : List ℕ). find_row key rows l ≡ None) (is_key-true (key row) k is) (none_behind key (key row) rows order.0) in
          let kept : length rest_of ≡ length rows = ap length (without_rows-lacking rows k none) in
          omega (arith, kept)
      told false is f rest =
          let fewer : length rest_of + 1 ≡ length rows = rest f in
          omega (arith, fewer)

  -- ---- a row put in place

  -- the new row's key is free when it comes in
  free : (rows : List Row) (new : Row) → find_row key (without_rows key (λ l. is_key l (key new)) rows) (key new) ≡ None
  free rows new =
      find_row-without_rows (λ l. is_key l (key new)) rows (key new)
      ∙ ap (λ b. cond b None (find_row key rows (key new))) (is_key-refl (key new))

  -- the row is found by its key, and the others as before
  pub find_row-put_row : (rows : List Row) (new : Row) (k : List ℕ) → find_row key (put_row key rows new) k ≡ cond (is_key (key new) k) (Some new) (find_row key rows k)
  find_row-put_row rows new k =
      find_row-with_row key (without_rows key (λ l. is_key l (key new)) rows) new k (free rows new)
      ∙ ap (λ o. cond (is_key (key new) k) (Some new) o) (find_row-without_rows (λ l. is_key l (key new)) rows k)
      ∙ told (is_key (key new) k) refl
    where
      told : (here : Bool) → is_key (key new) k ≡ here → cond here (Some new) (cond (is_key k (key new)) None (find_row key rows k)) ≡ cond here (Some new) (find_row key rows k)
      told true is = refl
      told false is = ap (λ b. cond b None (find_row key rows k)) (is_key-sym (key new) k is)

  -- the rows stay in order
  pub AreInOrder-put_row : (rows : List Row) (new : Row) → AreInOrder key rows → AreInOrder key (put_row key rows new)
  AreInOrder-put_row rows new order =
      AreInOrder-with_row key (without_rows key (λ l. is_key l (key new)) rows) new (AreInOrder-without_rows (λ l. is_key l (key new)) rows order) (free rows new)

  -- as many rows as before, where the key is there
  pub length-put_row-there : (rows : List Row) (new old : Row) → AreInOrder key rows → find_row key rows (key new) ≡ Some old → length (put_row key rows new) ≡ length rows
  length-put_row-there rows new old order found =
      length-with_row key (without_rows key (λ l. is_key l (key new)) rows) new
      ∙ length-without_rows rows (key new) old order found

  -- one more row, where the key is new
  pub put_row-new : (rows : List Row) (new : Row) → find_row key rows (key new) ≡ None → put_row key rows new ≡ with_row key rows new
  put_row-new rows new none =
      ap (λ rest. with_row key rest new) (without_rows-lacking rows (key new) none)

  -- ---- what holds of each row

  -- rows in order are found under their own keys
  pub all_found : (rows : List Row) → AreInOrder key rows → AllByRecursion (λ row. find_row key rows (key row) ≡ Some row) rows
  all_found [] order = tt
  all_found (row ∷ rows) order =
      (found_first key row rows, later row rows rows order.0 (all_found rows order.1))
    where
      later : (first : Row) (all some : List Row) → AllBehind key (key first) some → AllByRecursion (λ r. find_row key all (key r) ≡ Some r) some → AllByRecursion (λ r. find_row key (first ∷ all) (key r) ≡ Some r) some
      later first all [] behind found = tt
      later first all (r ∷ some) behind found =
          let other = is_key-sym (key r) (key first) (before_is_other (key first) (key r) behind.0) in
          (ap (λ b. cond b (Some first) (find_row key all (key r))) other ∙ found.0, later first all some behind.1 found.1)

  -- two lists in order are one where the look-ups under the keys of rows agree
  pub same_rows_by_key : (xs ys : List Row) → AreInOrder key xs → AreInOrder key ys → ((x : Row) → find_row key xs (key x) ≡ find_row key ys (key x)) → xs ≡ ys
  same_rows_by_key xs ys left right same =
      same_rows key xs ys left right (λ k. told k (find_row key xs k) (find_row key ys k) refl refl)
    where
      at : (k : List ℕ) (row : Row) → key row ≡ k → find_row key xs k ≡ find_row key ys k
      at k row is = subst (λ (l : List ℕ). find_row key xs l ≡ find_row key ys l) is (same row)

      told : (k : List ℕ) (o p : Option Row) → find_row key xs k ≡ o → find_row key ys k ≡ p → find_row key xs k ≡ find_row key ys k
      told k (Some row) p e f = at k row (found_key key xs k row e)
      told k None (Some row) e f = at k row (found_key key ys k row f)
      told k None None e f = e ∙ sym f

  module _ (P : Row → Type 0) where
    -- what holds of all rows and of the new one holds of all with it
    pub AllByRecursion-with_row : (rows : List Row) (new : Row) → AllByRecursion P rows → P new → AllByRecursion P (with_row key rows new)
    AllByRecursion-with_row [] new all here = (here, tt)
    AllByRecursion-with_row (row ∷ rows) new all here =
        placed (is_before (key new) (key row)) (AllByRecursion-with_row rows new all.1 here)
      where
        placed : (before : Bool) → AllByRecursion P (with_row key rows new) → AllByRecursion P (cond before (new ∷ row ∷ rows) (row ∷ with_row key rows new))
        placed true rest = (here, all)
        placed false rest = (all.0, rest)

    -- the same of several new rows
    pub AllByRecursion-with_rows : (rows news : List Row) → AllByRecursion P rows → AllByRecursion P news → AllByRecursion P (with_rows key rows news)
    AllByRecursion-with_rows rows [] all more = all
    AllByRecursion-with_rows rows (new ∷ news) all more =
        AllByRecursion-with_rows (with_row key rows new) news (AllByRecursion-with_row rows new all more.0) more.1

    -- the same of the rows, each at its place
    pub AllByRecursion-in_key_order : (rows : List Row) → AllByRecursion P rows → AllByRecursion P (in_key_order key rows)
    AllByRecursion-in_key_order rows all = AllByRecursion-with_rows [] rows tt all

    -- what holds of all rows holds of those that stay
    pub AllByRecursion-without_rows : (test : List ℕ → Bool) (rows : List Row) → AllByRecursion P rows → AllByRecursion P (without_rows key test rows)
    AllByRecursion-without_rows test [] all = tt
    AllByRecursion-without_rows test (row ∷ rows) all =
        told (test (key row)) (AllByRecursion-without_rows test rows all.1)
      where
        told : (out : Bool) → AllByRecursion P (without_rows key test rows) → AllByRecursion P (cond (not out) (row ∷ without_rows key test rows) (without_rows key test rows))
        told true rest = rest
        told false rest = (all.0, rest)

    -- what holds of all rows and of the new one holds of all with it in place
    pub AllByRecursion-put_row : (rows : List Row) (new : Row) → AllByRecursion P rows → P new → AllByRecursion P (put_row key rows new)
    AllByRecursion-put_row rows new all here =
        AllByRecursion-with_row (without_rows key (λ l. is_key l (key new)) rows) new (AllByRecursion-without_rows (λ l. is_key l (key new)) rows all) here

    -- what holds of each row holds of a found one
    pub found_holds : (rows : List Row) (k : List ℕ) (row : Row) → AllByRecursion P rows → find_row key rows k ≡ Some row → P row
    found_holds [] k row all found = absurd (cc)
    found_holds (first ∷ rows) k row all found =
        told (is_key (key first) k) found (found_holds rows k row all.1)
      where
        told : (here : Bool) → cond here (Some first) (find_row key rows k) ≡ Some row → (find_row key rows k ≡ Some row → P row) → P row
        told true g rest = let same : first ≡ row = cc in subst P same all.0
        told false g rest = rest g

    -- what holds of each found row holds of each row
    pub all_from_found : (rows : List Row) → AreInOrder key rows → ((row : Row) → find_row key rows (key row) ≡ Some row → P row) → AllByRecursion P rows
    all_from_found rows order each = turned rows (all_found rows order)
      where
        turned : (some : List Row) → AllByRecursion (λ row. find_row key rows (key row) ≡ Some row) some → AllByRecursion P some
        turned [] all = tt
        turned (row ∷ some) all = (each row all.0, turned some all.1)
