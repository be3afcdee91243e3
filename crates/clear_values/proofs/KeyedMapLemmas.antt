-- Rows changed where they stand, and a row that comes last.
use Rattle.std.proofs.Common.{◌≡◌, ℕ, List, [], ◌∷◌, ◌++◌, map, filter, not, Option, Some, None, Bool, true, false, cond, refl, sym, ap, ◌∙◌, subst}
use Rattle.std.specs.List.{AllByRecursion}
use Rattle.std.specs.Option.{option_map}
use Rattle.clear_values.specs.Keyed.{newer, is_key, is_before, find_row, AllBehind, AreInOrder, with_row, without_rows, put_row, put_rows}
use Rattle.clear_values.proofs.KeyedLemmas.{is_key-refl, is_key-true, is_key-sym, before_is_other, is_before-trans, found_key, none_behind}
use Rattle.clear_values.proofs.KeyedRowsLemmas.{AreNew, find_row-append, same_rows}
use Rattle.clear_values.proofs.KeyedChangesLemmas.{find_row-put_row, AreInOrder-put_row, without_rows-lacking}

-- of two keys one at most comes before the other
not_both : (k l : List ℕ) → is_before k l ≡ true → is_before l k ≡ false
not_both k l h = told (is_before l k) refl
  where
    told : (b : Bool) → is_before l k ≡ b → is_before l k ≡ false
    told false e = e
    told true e = absurd (cc (sym (before_is_other k k (is_before-trans k l k h e)) ∙ is_key-refl k))

module _ {Row : Type 0} (key : Row → List ℕ) where
  -- ---- a row that comes last

  -- a row whose key comes behind all others goes behind all rows
  pub with_row-last : (rows : List Row) (new : Row) → AllByRecursion (λ row. is_before (key row) (key new) ≡ true) rows → with_row key rows new ≡ rows ++ new ∷ []
  with_row-last [] new all = refl
  with_row-last (row ∷ rows) new all =
      ap (λ b. cond b (new ∷ row ∷ rows) (row ∷ with_row key rows new)) (not_both (key row) (key new) all.0)
      ∙ ap (λ rest. row ∷ rest) (with_row-last rows new all.1)

  -- ---- new rows between two lists

  none_of_either : (a b : Option Row) → newer a b ≡ None → b ≡ None
  none_of_either None b h = h
  none_of_either (Some x) b h = absurd (cc)

  -- where one of the new rows is found, none of the later list is
  later_none : (xs ys news : List Row) (k : List ℕ) (new : Row) → AreNew key (xs ++ ys) news → find_row key news k ≡ Some new → find_row key ys k ≡ None
  later_none xs ys [] k new all found = absurd (cc)
  later_none xs ys (first ∷ news) k new all found = told (is_key (key first) k) refl found (later_none xs ys news k new all.1)
    where
      told : (b : Bool) → is_key (key first) k ≡ b → cond b (Some first) (find_row key news k) ≡ Some new → (find_row key news k ≡ Some new → find_row key ys k ≡ None) → find_row key ys k ≡ None
      told true is h rest =
          subst (λ (l : List ℕ). find_row key ys l ≡ None) (is_key-true (key first) k is)
          (none_of_either (find_row key xs (key first)) (find_row key ys (key first)) (sym (find_row-append key xs ys (key first)) ∙ all.0))
      told false is h rest = rest h

  -- new rows are found between two lists as behind both
  pub find_row-between : (xs ys news : List Row) (k : List ℕ) → AreNew key (xs ++ ys) news → find_row key ((xs ++ news) ++ ys) k ≡ find_row key ((xs ++ ys) ++ news) k
  find_row-between xs ys news k all =
      find_row-append key (xs ++ news) ys k
      ∙ ap (λ o. newer o (find_row key ys k)) (find_row-append key xs news k)
      ∙ told (find_row key xs k) (find_row key ys k) (find_row key news k) (λ new is. later_none xs ys news k new all is)
      ∙ ap (λ o. newer o (find_row key news k)) (sym (find_row-append key xs ys k))
      ∙ sym (find_row-append key (xs ++ ys) news k)
    where
      told : (x y n : Option Row) → ((new : Row) → n ≡ Some new → y ≡ None) → newer (newer x n) y ≡ newer (newer x y) n
      told (Some x) y n none = refl
      told None None None none = refl
      told None None (Some new) none = refl
      told None (Some y) None none = refl
      told None (Some y) (Some new) none = absurd (cc (none new refl))

  -- ---- each row changed, and its key kept

  module _ (change : Row → Row) (kept : (row : Row) → key (change row) ≡ key row) where
    -- under a key the changed row is found
    pub find_row-map : (rows : List Row) (k : List ℕ) → find_row key (map change rows) k ≡ option_map change (find_row key rows k)
    find_row-map [] k = refl
    find_row-map (row ∷ rows) k =
        ap (λ (l : List ℕ). cond (is_key l k) (Some (change row)) (find_row key (map change rows) k)) (kept row)
        ∙ told (is_key (key row) k) (find_row-map rows k)
      where
        told : (b : Bool) → find_row key (map change rows) k ≡ option_map change (find_row key rows k)
            → cond b (Some (change row)) (find_row key (map change rows) k) ≡ option_map change (cond b (Some row) (find_row key rows k))
        told true rest = refl
        told false rest = rest

    behind_map : (k : List ℕ) (rows : List Row) → AllBehind key k rows → AllBehind key k (map change rows)
    behind_map k [] all = tt
    behind_map k (row ∷ rows) all = (ap (is_before k) (kept row) ∙ all.0, behind_map k rows all.1)

    -- the rows stay in order
    pub AreInOrder-map : (rows : List Row) → AreInOrder key rows → AreInOrder key (map change rows)
    AreInOrder-map [] order = tt
    AreInOrder-map (row ∷ rows) order =
        (subst (λ (l : List ℕ). AllBehind key l (map change rows)) (sym (kept row)) (behind_map (key row) rows order.0), AreInOrder-map rows order.1)

    -- a row with the key that was found, in its place, is each row changed that has the key
    pub put_row-map : (rows : List Row) (k : List ℕ) (old new : Row) → AreInOrder key rows → find_row key rows k ≡ Some old → key new ≡ k → change old ≡ new
        → ((row : Row) → is_key (key row) k ≡ false → change row ≡ row) → put_row key rows new ≡ map change rows
    put_row-map rows k old new order found is turned others =
        same_rows key (put_row key rows new) (map change rows) (AreInOrder-put_row key rows new order) (AreInOrder-map rows order)
        (λ l.
        find_row-put_row key rows new l
        ∙ ap (λ (m : List ℕ). cond (is_key m l) (Some new) (find_row key rows l)) is
        ∙ told l (is_key k l) refl
        ∙ sym (find_row-map rows l))
      where
        other : (l : List ℕ) (o : Option Row) → find_row key rows l ≡ o → is_key k l ≡ false → o ≡ option_map change o
        other l None e apart = refl
        other l (Some row) e apart =
            let differs : is_key (key row) k ≡ false = ap (λ (m : List ℕ). is_key m k) (found_key key rows l row e) ∙ is_key-sym k l apart in
            ap Some (sym (others row differs))

        told : (l : List ℕ) (b : Bool) → is_key k l ≡ b → cond b (Some new) (find_row key rows l) ≡ option_map change (find_row key rows l)
        told l true e = ap Some (sym turned) ∙ ap (option_map change) (sym found ∙ ap (find_row key rows) (is_key-true k l e))
        told l false e = other l (find_row key rows l) refl e

  -- ---- several rows put in place

  behind_filter : (p : Row → Bool) (k : List ℕ) (rows : List Row) → AllBehind key k rows → AllBehind key k (filter p rows)
  behind_filter p k [] all = tt
  behind_filter p k (row ∷ rows) all = told (p row) (behind_filter p k rows all.1)
    where
      told : (b : Bool) → AllBehind key k (filter p rows) → AllBehind key k (cond b (row ∷ filter p rows) (filter p rows))
      told true rest = (all.0, rest)
      told false rest = rest

  -- a row whose key comes before those of the new rows stays the first
  put_row-behind : (first : Row) (rows : List Row) (new : Row) → is_before (key first) (key new) ≡ true → put_row key (first ∷ rows) new ≡ first ∷ put_row key rows new
  put_row-behind first rows new before =
      ap (λ b. with_row key (cond (not b) (first ∷ left) left) new) (is_key-sym (key new) (key first) (before_is_other (key first) (key new) before))
      ∙ ap (λ b. cond b (new ∷ first ∷ left) (first ∷ with_row key left new)) (not_both (key first) (key new) before)
    where
      left : List Row
      left = without_rows key (λ k. is_key k (key new)) rows

  put_rows-behind : (first : Row) (rows news : List Row) → AllBehind key (key first) news → put_rows key (first ∷ rows) news ≡ first ∷ put_rows key rows news
  put_rows-behind first rows [] all = refl
  put_rows-behind first rows (new ∷ news) all =
      ap (λ (some : List Row). put_rows key some news) (put_row-behind first rows new all.0)
      ∙ put_rows-behind first (put_row key rows new) news all.1

  -- a row whose key comes before all others goes first
  pub with_row-first : (rows : List Row) (new : Row) → AllBehind key (key new) rows → with_row key rows new ≡ new ∷ rows
  with_row-first [] new all = refl
  with_row-first (row ∷ rows) new all = ap (λ b. cond b (new ∷ row ∷ rows) (row ∷ with_row key rows new)) all.0

  -- the new row stands in the place of the first one, where it has its key
  put_row-first : (first : Row) (rows : List Row) (new : Row) → AllBehind key (key first) rows → key new ≡ key first → put_row key (first ∷ rows) new ≡ new ∷ rows
  put_row-first first rows new all is =
      ap (λ b. with_row key (cond (not b) (first ∷ left) left) new) (ap (is_key (key first)) is ∙ is_key-refl (key first))
      ∙ ap (λ (some : List Row). with_row key some new) (without_rows-lacking key rows (key new) (none_behind key (key new) rows behind))
      ∙ with_row-first rows new behind
    where
      left : List Row
      left = without_rows key (λ k. is_key k (key new)) rows

      behind : AllBehind key (key new) rows
      behind = subst (λ (k : List ℕ). AllBehind key k rows) (sym is) all

  -- the rows that pass a test, changed and with their keys kept, stand in their own places
  module _ (f : Row → Row) (same_key : (row : Row) → key (f row) ≡ key row) (p : Row → Bool) where
    pub put_rows-map : (rows : List Row) → AreInOrder key rows → put_rows key rows (map f (filter p rows)) ≡ map (λ row. cond (p row) (f row) row) rows
    put_rows-map [] order = refl
    put_rows-map (row ∷ rows) order = told (p row) (put_rows-map rows order.1)
      where
        passed : List Row
        passed = filter p rows

        turned : Row → Row
        turned r = cond (p r) (f r) r

        behind : (k : List ℕ) → k ≡ key row → AllBehind key k (map f passed)
        behind k is =
            subst (λ (l : List ℕ). AllBehind key l (map f passed)) (sym is)
            (behind_map f same_key (key row) passed (behind_filter p (key row) rows order.0))

        told : (b : Bool) → put_rows key rows (map f passed) ≡ map turned rows
            → put_rows key (row ∷ rows) (map f (cond b (row ∷ passed) passed)) ≡ cond b (f row) row ∷ map turned rows
        told true rest =
            ap (λ (some : List Row). put_rows key some (map f passed)) (put_row-first row rows (f row) order.0 (same_key row))
            ∙ put_rows-behind (f row) rows (map f passed) (behind (key (f row)) (same_key row))
            ∙ ap (λ (some : List Row). f row ∷ some) rest
        told false rest =
            put_rows-behind row rows (map f passed) (behind (key row) refl)
            ∙ ap (λ (some : List Row). row ∷ some) rest
