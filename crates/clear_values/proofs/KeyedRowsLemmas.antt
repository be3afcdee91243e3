-- Rows found by their keys, and several more of them.
use Rattle.std.proofs.Common.{◌≡◌, ℕ, ◌+◌, List, [], ◌∷◌, ◌++◌, Option, Some, None, Bool, true, false, cond, sum_by, count_by, refl, sym, ap, ◌∙◌, subst, arith}
use Rattle.std.proofs.lemmas.List.Sums.{sum_by-cons}
use Rattle.clear_values.specs.Keyed.{newer, is_key, is_before, find_row, AllBehind, AreInOrder, with_row, with_rows, in_key_order, AreOnce}
use Rattle.clear_values.proofs.KeyedLemmas.{is_key-refl, is_key-true, is_key-sym, is_before-total, other_row, find_row-with_row, behind_all, none_behind, AreInOrder-with_row}

module _ {Row : Type 0} (key : Row → List ℕ) where
  -- ---- rows with new keys

  -- no row has the key of one of the new rows
  abbrev pub AreNew : List Row → List Row → Type 0
  AreNew rows [] = Unit {0}
  AreNew rows (new ∷ news) = (find_row key rows (key new) ≡ None) × AreNew rows news

  pub all_new : (news : List Row) → AreNew [] news
  all_new [] = tt
  all_new (new ∷ news) = (refl, all_new news)

  new_behind : (row : Row) (rows news : List Row) → AreNew (row ∷ rows) news → AreNew rows news
  new_behind row rows [] new = tt
  new_behind row rows (first ∷ news) new =
      let other = other_row key row rows (key first) new.0 in
      (other.1, new_behind row rows news new.1)

  -- so none of the new rows has the key of a row
  none_new : (row : Row) (rows news : List Row) → AreNew (row ∷ rows) news → find_row key news (key row) ≡ None
  none_new row rows [] new = refl
  none_new row rows (first ∷ news) new =
      let other = other_row key row rows (key first) new.0 in
      ap (λ b. cond b (Some first) (find_row key news (key row))) (is_key-sym (key row) (key first) other.0)
      ∙ none_new row rows news new.1

  -- they stay new behind one more row with a key of its own
  new_with : (rows : List Row) (new : Row) (news : List Row) → find_row key rows (key new) ≡ None → find_row key news (key new) ≡ None → AreNew rows news → AreNew (with_row key rows new) news
  new_with rows new [] none apart all = tt
  new_with rows new (first ∷ news) none apart all =
      let other = other_row key first news (key new) apart in
      let here = find_row-with_row key rows new (key first) none ∙ ap (λ b. cond b (Some new) (find_row key rows (key first))) (is_key-sym (key first) (key new) other.0) in
      (here ∙ all.0, new_with rows new news none other.1 all.1)

  -- ---- one list behind another: the earlier row of a key is found

  pub find_row-append : (xs ys : List Row) (k : List ℕ) → find_row key (xs ++ ys) k ≡ newer (find_row key xs k) (find_row key ys k)
  find_row-append [] ys k = refl
  find_row-append (x ∷ xs) ys k = told (is_key (key x) k) (find_row-append xs ys k)
    where
      told : (b : Bool) → find_row key (xs ++ ys) k ≡ newer (find_row key xs k) (find_row key ys k) → cond b (Some x) (find_row key (xs ++ ys) k) ≡ newer (cond b (Some x) (find_row key xs k)) (find_row key ys k)
      told true rest = refl
      told false rest = rest

  -- keys stand once in both where those of the later list are new
  pub AreOnce-append : (xs ys : List Row) → AreOnce key xs → AreOnce key ys → AreNew xs ys → AreOnce key (xs ++ ys)
  AreOnce-append [] ys once more new = more
  AreOnce-append (x ∷ xs) ys once more new =
      (find_row-append xs ys (key x) ∙ (λ i. newer (once.0 i) (none_new x xs ys new i)), AreOnce-append xs ys once.1 more (new_behind x xs ys new))

  -- ---- several rows, each at its place

  -- they are found by their keys, and the others as before
  pub find_row-with_rows : (rows news : List Row) (k : List ℕ) → AreNew rows news → AreOnce key news → find_row key (with_rows key rows news) k ≡ newer (find_row key rows k) (find_row key news k)
  find_row-with_rows rows [] k all once = kept (find_row key rows k)
    where
      kept : (o : Option Row) → o ≡ newer o None
      kept None = refl
      kept (Some row) = refl
  find_row-with_rows rows (new ∷ news) k all once =
      find_row-with_rows (with_row key rows new) news k (new_with rows new news all.0 once.0 all.1) once.1
      ∙ ap (λ o. newer o (find_row key news k)) (find_row-with_row key rows new k all.0)
      ∙ told (is_key (key new) k) refl
    where
      told : (b : Bool) → is_key (key new) k ≡ b → newer (cond b (Some new) (find_row key rows k)) (find_row key news k) ≡ newer (find_row key rows k) (cond b (Some new) (find_row key news k))
      told true is =
          let none : find_row key rows k ≡ None = subst (λ (l : List ℕ). find_row key rows l ≡ None) (is_key-true (key new) k is) all.0 in
          ap (λ o. newer o (Some new)) (sym none)
      told false is = refl

  -- the rows stay in order
  pub AreInOrder-with_rows : (rows news : List Row) → AreInOrder key rows → AreNew rows news → AreOnce key news → AreInOrder key (with_rows key rows news)
  AreInOrder-with_rows rows [] order all once = order
  AreInOrder-with_rows rows (new ∷ news) order all once =
      AreInOrder-with_rows (with_row key rows new) news (AreInOrder-with_row key rows new order all.0) (new_with rows new news all.0 once.0 all.1) once.1

  -- ---- rows in order are told by what is found

  -- the first row is found under its key
  pub found_first : (row : Row) (rows : List Row) → find_row key (row ∷ rows) (key row) ≡ Some row
  found_first row rows = ap (λ b. cond b (Some row) (find_row key rows (key row))) (is_key-refl (key row))

  -- a row that comes before all rows of a list is not found there
  first_differs : (x y : Row) (xs ys : List Row) → is_before (key x) (key y) ≡ true → AllBehind key (key y) ys → find_row key (x ∷ xs) (key x) ≡ find_row key (y ∷ ys) (key x) → ⊥
  first_differs x y xs ys before all same =
      let found = found_first x xs in
      let none = none_behind key (key x) (y ∷ ys) (before, behind_all key (key x) (key y) ys before all) in
      cc (sym found ∙ same ∙ none)

  -- two lists in order with the same look-ups are one
  pub same_rows : (xs ys : List Row) → AreInOrder key xs → AreInOrder key ys → ((k : List ℕ) → find_row key xs k ≡ find_row key ys k) → xs ≡ ys
  same_rows [] [] left right same = refl
  same_rows [] (y ∷ ys) left right same = absurd (cc (same (key y) ∙ found_first y ys))
  same_rows (x ∷ xs) [] left right same = absurd (cc (sym (same (key x)) ∙ found_first x xs))
  same_rows (x ∷ xs) (y ∷ ys) left right same =
      told (is_key (key x) (key y)) (is_before (key x) (key y)) refl refl (same_rows xs ys left.1 right.1)
    where
      alike : x ≡ y → (k : List ℕ) (b : Bool) → is_key (key x) k ≡ b → find_row key xs k ≡ find_row key ys k
      alike one k true is =
          subst (λ (l : List ℕ). find_row key xs l ≡ find_row key ys l) (is_key-true (key x) k is)
          (none_behind key (key x) xs left.0 ∙ sym (subst (λ (r : Row). find_row key ys (key r) ≡ None) (sym one) (none_behind key (key y) ys right.0)))
      alike one k false is =
          sym (ap (λ b. cond b (Some x) (find_row key xs k)) is)
          ∙ same k
          ∙ ap (λ (r : Row). cond (is_key (key r) k) (Some y) (find_row key ys k)) (sym one)
          ∙ ap (λ b. cond b (Some y) (find_row key ys k)) is

      told : (b before : Bool) → is_key (key x) (key y) ≡ b → is_before (key x) (key y) ≡ before → (((k : List ℕ) → find_row key xs k ≡ find_row key ys k) → xs ≡ ys) → x ∷ xs ≡ y ∷ ys
      told true before is at rest =
          let found : Some x ≡ Some y = sym (ap (λ b. cond b (Some x) (find_row key xs (key y))) is) ∙ same (key y) ∙ found_first y ys in
          let one : x ≡ y = cc in
          (λ i. one i ∷ rest (λ k. alike one k (is_key (key x) k) refl) i)
      told false true is at rest = absurd (first_differs x y xs ys at right.0 (same (key x)))
      told false false is at rest =
          absurd (first_differs y x ys xs (is_before-total (key x) (key y) is at) left.0 (sym (same (key y))))

  -- ---- the rows in the order of their keys

  pub AreInOrder-in_key_order : (rows : List Row) → AreOnce key rows → AreInOrder key (in_key_order key rows)
  AreInOrder-in_key_order rows once = AreInOrder-with_rows [] rows tt (all_new rows) once

  pub find_row-in_key_order : (rows : List Row) (k : List ℕ) → AreOnce key rows → find_row key (in_key_order key rows) k ≡ find_row key rows k
  find_row-in_key_order rows k once = find_row-with_rows [] rows k (all_new rows) once

  -- a table in order with the look-ups of the rows is the rows in order
  pub ordered : (table rows : List Row) → AreInOrder key table → AreOnce key rows → ((k : List ℕ) → find_row key table k ≡ find_row key rows k) → table ≡ in_key_order key rows
  ordered table rows order once same =
      same_rows table (in_key_order key rows) order (AreInOrder-in_key_order rows once) (λ k. same k ∙ sym (find_row-in_key_order rows k once))

  -- ---- sums and counts, which do not see the order

  pub sum_by-with_row : (f : Row → ℕ) (rows : List Row) (new : Row) → sum_by f (with_row key rows new) ≡ f new + sum_by f rows
  sum_by-with_row f [] new = sum_by-cons f new []
  sum_by-with_row f (row ∷ rows) new = placed (is_before (key new) (key row)) (sum_by-with_row f rows new)
    where
      placed : (before : Bool) → sum_by f (with_row key rows new) ≡ f new + sum_by f rows → sum_by f (cond before (new ∷ row ∷ rows) (row ∷ with_row key rows new)) ≡ f new + sum_by f (row ∷ rows)
      placed true rest = sum_by-cons f new (row ∷ rows)
      placed false rest = omega (arith, rest, sum_by-cons f row (with_row key rows new), sum_by-cons f row rows)

  pub sum_by-with_rows : (f : Row → ℕ) (rows news : List Row) → sum_by f (with_rows key rows news) ≡ sum_by f rows + sum_by f news
  sum_by-with_rows f rows [] = omega arith
  sum_by-with_rows f rows (new ∷ news) =
      omega (arith, sum_by-with_rows f (with_row key rows new) news, sum_by-with_row f rows new, sum_by-cons f new news)

  pub sum_by-ordered : (f : Row → ℕ) (table rows : List Row) → AreInOrder key table → AreOnce key rows → ((k : List ℕ) → find_row key table k ≡ find_row key rows k) → sum_by f table ≡ sum_by f rows
  sum_by-ordered f table rows order once same =
      let sums = sum_by-with_rows f [] rows in
      ap (sum_by f) (ordered table rows order once same) ∙ omega arith

  pub count_by-ordered : (p : Row → Bool) (table rows : List Row) → AreInOrder key table → AreOnce key rows → ((k : List ℕ) → find_row key table k ≡ find_row key rows k) → count_by p table ≡ count_by p rows
  count_by-ordered p table rows order once same = sum_by-ordered (λ (row : Row). cond (p row) 1 0) table rows order once same
