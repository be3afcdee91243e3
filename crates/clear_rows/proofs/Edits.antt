-- What an edit of a numbered table makes of its rows.
use Rattle.std.proofs.Common.{◌≡◌, ℤ, pos, ◌+ℤ◌, ◌<ℤ◌, Bool, true, false, not, ◌&&◌, ◌||◌, cond, List, [], ◌∷◌, map, filter, fold, drop, refl, sym, ap, ap₂, subst, ◌∙◌, Some, Ordering, Less, Equal, Greater, int_cmp, int_eq, is_eq, is_some, IsPermutation, arith, length, ◌≤◌}
use Rattle.std.specs.List.{list_any, AllByRecursion}
use Rattle.std.specs.Ordering.{match_ordering}
use Rattle.std.proofs.lemmas.Int.{ints}
use Rattle.std.proofs.lemmas.List.Sorted.{IsPermutation-map, list_any-IsPermutation, length_permutation}
use Rattle.sqlite.specs.declared.types.Value.TheVariants.{Int, Null}
use Rattle.sqlite.specs.Order.{Row, value_cmp}
use Rattle.sqlite.specs.Tree.{Trees, rowid, put_row}
use Rattle.sqlite.specs.Table.{Table}
use Rattle.sqlite.specs.Cast.{cast_row}
use Rattle.sqlite.specs.Edit.{edit_of, edited, id_in, next_rowid, without_all, put_all, with_rowid, at_least, numbered, are_fresh, is_taken}
use Rattle.sqlite.specs.Rowids.TheVariants.{Chosen, Given}
use Rattle.sqlite.proofs.Callers.{one_permutation}
use Rattle.sqlite.specs.Ops.{is_null}
use Rattle.sqlite_value.proofs.OrderLemmas.{value_cmp-Int}
use Rattle.sqlite_rules.specs.Calls.{ids_of}
use Rattle.sqlite_keyed.specs.Keyed.{IsKeyedBy, get_by, has_key, insert_by, next_key}
use Rattle.sqlite_keyed.specs.Lists.{delete_where, update_where, without_key}
use Rattle.sqlite_keyed.proofs.ListLemmas.{map-map, map_same, filter_same, filter_all, all_of, all_weaker}
use Rattle.sqlite_keyed.proofs.KeyedLemmas.{same_int}
use Rattle.sqlite_keyed.proofs.RuleLemmas.{at_most_one}
use Rattle.sqlite_keyed.proofs.WriteLemmas.{removes_delete, puts_update}
use Rattle.sqlite_typed.proofs.RowLemmas.{puts-map, deletes-map}
use Rattle.clear_rows.specs.Kept.{IsNumbered}

filter_both : {X : Type 0} (p q : X → Bool) (xs : List X) → filter p (filter q xs) ≡ filter (λ x. q x && p x) xs
filter_both p q [] = refl
filter_both p q (x ∷ xs) = go (q x) (p x) refl (filter_both p q xs)
  where
    go : (b c : Bool) → p x ≡ c → filter p (filter q xs) ≡ filter (λ y. q y && p y) xs → filter p (cond b (x ∷ filter q xs) (filter q xs)) ≡ cond (b && c) (x ∷ filter (λ y. q y && p y) xs) (filter (λ y. q y && p y) xs)
    go true true e more = rw e (ap (λ l. x ∷ l) more)
    go true false e more = rw e more
    go false c e more = more

-- what a filter leaves passes
pub each_passes : {X : Type 0} (p : X → Bool) (xs : List X) → AllByRecursion (λ x. p x ≡ true) (filter p xs)
each_passes p [] = tt
each_passes p (x ∷ xs) = go (p x) refl (each_passes p xs)
  where
    go : (b : Bool) → p x ≡ b → AllByRecursion (λ y. p y ≡ true) (filter p xs) → AllByRecursion (λ y. p y ≡ true) (cond b (x ∷ filter p xs) (filter p xs))
    go true e more = (e, more)
    go false e more = more

-- no rows in any order are none
pub no_rows : {X : Type 0} (xs : List X) → IsPermutation [] xs → xs ≡ []
no_rows [] same = refl
no_rows (x ∷ xs) same = absurd (omega (arith, length_permutation _ _ same))

module _ {Y : Type 0} (key : Y → ℤ) where
  -- the key is none of these
  abbrev keeps : List ℤ → Y → Bool
  keeps ids y = not (list_any (λ id. int_eq (key y) id) ids)

  not_or : (a b : Bool) → not (a || b) ≡ (not a && not b)
  not_or true b = refl
  not_or false b = refl

  all_gone : (ids : List ℤ) (ys : List Y) → fold (without_key key) ys ids ≡ filter (keeps ids) ys
  all_gone [] ys = sym (filter_all _ ys (all_of _ (λ _. refl) ys))
  all_gone (id ∷ ids) ys = all_gone ids (without_key key ys id) ∙ filter_both (keeps ids) _ ys ∙ filter_same (λ y. not (int_eq (key y) id) && keeps ids y) (keeps (id ∷ ids)) (λ y. sym (not_or (int_eq (key y) id) (list_any (λ i. int_eq (key y) i) ids))) ys

  -- rows go one by one, so in any order
  pub removes_in_any_order : (p : Y → Bool) (ys : List Y) (ids : List ℤ) → IsKeyedBy key ys → IsPermutation (map key (filter p ys)) ids → fold (without_key key) ys ids ≡ delete_where p ys
  removes_in_any_order p ys ids up same =
      all_gone ids ys ∙ filter_same _ _ (λ y. ap not (sym (list_any-IsPermutation (λ id. int_eq (key y) id) _ ids same))) ys ∙ sym (all_gone (map key (filter p ys)) ys) ∙ removes_delete key p ys up

  goes_first : (new y : Y) (zs : List Y) → AllByRecursion (λ z. key y <ℤ key z) zs → int_eq (key y) (key new) ≡ true → insert_by key zs new ≡ new ∷ zs
  goes_first new y [] h same = refl
  goes_first new y (z ∷ zs) h same = let k = h.0 in let e = same_int (key y) (key new) same in let over : int_cmp (key z) (key new) ≡ Greater = grind (arith, ints) in rw over

  -- a row takes the place of the one that has its key
  pub insert_over : (ys : List Y) (new : Y) → IsKeyedBy key ys → insert_by key (delete_where (λ y. int_eq (key y) (key new)) ys) new ≡ insert_by key ys new
  insert_over [] new up = refl
  insert_over (y ∷ ys) new up = go (int_cmp (key y) (key new)) refl (insert_over ys new up.1)
    where
      go : (o : Ordering) → int_cmp (key y) (key new) ≡ o → insert_by key (delete_where (λ z. int_eq (key z) (key new)) ys) new ≡ insert_by key ys new
          → insert_by key (cond (not (int_eq (key y) (key new))) (y ∷ delete_where (λ z. int_eq (key z) (key new)) ys) (delete_where (λ z. int_eq (key z) (key new)) ys)) new
          ≡ match_ordering o (y ∷ insert_by key ys new) (new ∷ ys) (new ∷ y ∷ ys)
      go Less e more = let apart : int_eq (key y) (key new) ≡ false = grind (arith, ints) in rw (apart, e) (ap (λ l. y ∷ l) more)
      go Equal e more =
          let same : int_eq (key y) (key new) ≡ true = grind (arith, ints) in
          let rest : delete_where (λ z. int_eq (key z) (key new)) ys ≡ ys = filter_all _ ys (all_weaker _ (λ z. not (int_eq (key z) (key new)) ≡ true) (λ z h. grind (arith, ints)) ys up.0) in
          rw (same, rest) (goes_first new y ys up.0 same)
      go Greater e more =
          let apart : int_eq (key y) (key new) ≡ false = grind (arith, ints) in
          let rest : delete_where (λ z. int_eq (key z) (key new)) ys ≡ ys = filter_all _ ys (all_weaker _ (λ z. not (int_eq (key z) (key new)) ≡ true) (λ z h. grind (arith, ints)) ys up.0) in
          rw (apart, rest, e)

module _ {Y : Type 0} (key : Y → ℤ) (to_row : Y → Row) (keyed : (y : Y) → rowid (to_row y) ≡ Int (key y)) (db : Trees) (table : Table) (ys : List Y)
    (kept : IsNumbered key to_row ys (db table.tree)) where
  ids_of_shown : (rows : List Row) (p : Y → Bool) (show : Y → Row) → ((y : Y) → rowid (show y) ≡ Int (key y)) → IsPermutation (map show (filter p ys)) rows → IsPermutation (map key (filter p ys)) (ids_of rows)
  ids_of_shown rows p show shows same =
      subst (λ l. IsPermutation l (ids_of rows)) (map-map (λ r. id_in (rowid r)) show _ ∙ map_same _ key (λ y. ap id_in (shows y)) _) (IsPermutation-map (λ r. id_in (rowid r)) _ _ same)

  left_is : (rows : List Row) (p : Y → Bool) (show : Y → Row) → ((y : Y) → rowid (show y) ≡ Int (key y)) → IsPermutation (map show (filter p ys)) rows
      → without_all (db table.tree) (ids_of rows) ≡ map to_row (delete_where p ys)
  left_is rows p show shows same =
      ap (λ l. without_all l (ids_of rows)) kept.is ∙ deletes-map key to_row keyed (ids_of rows) ys ∙ ap (map to_row) (removes_in_any_order key p ys (ids_of rows) kept.keyed (ids_of_shown rows p show shows same))

  -- DELETE takes the rows that pass
  pub deleted_is : (rows : List Row) (p : Y → Bool) (show : Y → Row) → ((y : Y) → rowid (show y) ≡ Int (key y)) → IsPermutation (map show (filter p ys)) rows
      → edited db (edit_of db table (ids_of rows) Given 0 []) ≡ map to_row (delete_where p ys)
  deleted_is = left_is

  -- UPDATE of the one row that has a key
  pub updated_is : (rows : List Row) (k : ℤ) (f : Y → Y) (show : Y → Row) → ((y : Y) → key (f y) ≡ key y) → ((y : Y) → rowid (show y) ≡ Int (key y)) → ((y : Y) → cast_row table (drop 1 (show y)) ≡ to_row (f y))
      → IsPermutation (map show (filter (λ y. int_eq (key y) k) ys)) rows
      → edited db (edit_of db table (ids_of rows) Given 1 rows) ≡ map to_row (update_where (λ y. int_eq (key y) k) f ys)
  updated_is rows k f show same_key shows stored same =
      let few : length (filter p ys) ≤ 1 = at_most_one key k p (λ y h. h) ys kept.keyed in
      go (filter p ys) refl few same
    where
      -- the row has the key
      p : Y → Bool
      p y = int_eq (key y) k

      after : (found : List Y) → filter p ys ≡ found → fold (insert_by key) ys (map f found) ≡ update_where p f ys
      after found is = subst (λ l. fold (insert_by key) ys (map f l) ≡ update_where p f ys) is (puts_update key p f same_key ys kept.keyed)

      go : (found : List Y) → filter p ys ≡ found → length found ≤ 1 → IsPermutation (map show found) rows → edited db (edit_of db table (ids_of rows) Given 1 rows) ≡ map to_row (update_where p f ys)
      go [] none few perm = ap (λ r. edited db (edit_of db table (ids_of r) Given 1 r)) (no_rows rows perm) ∙ kept.is ∙ ap (map to_row) (after [] none)
      go (y ∷ []) one few perm =
          let alone = one_permutation (show y) rows perm in
          let here : int_eq (key y) k ≡ true = (subst (AllByRecursion (λ x. p x ≡ true)) one (each_passes p ys)).0 in
          let k_is : key (f y) ≡ k = same_key y ∙ same_int _ _ here in
          let left = left_is rows p show shows same in
          let over : insert_by key (delete_where p ys) (f y) ≡ insert_by key ys (f y) =
          subst (λ n. insert_by key (delete_where (λ z. int_eq (key z) n) ys) (f y) ≡ insert_by key ys (f y)) k_is (insert_over key ys (f y) kept.keyed) in
          ap (λ r. put_all (without_all (db table.tree) (ids_of rows)) (numbered Given (without_all (db table.tree) (ids_of rows)) (map (λ s. cast_row table (drop 1 s)) r))) alone
          ∙ ap₂ put_row (stored y) left ∙ puts-map key to_row keyed (f y ∷ []) (delete_where p ys) ∙ ap (map to_row) (over ∙ after (y ∷ []) one)
      go (y ∷ z ∷ more) many few perm = absurd (omega arith)

  -- a row that gives its number is put in with that
  pub named : (y : Y) → with_rowid Chosen (db table.tree) (to_row y) ≡ to_row y
  named y = ap (λ v. cond (is_null v) (Int (at_least Chosen (next_rowid (db table.tree))) ∷ drop 1 (to_row y)) (to_row y)) (keyed y)

  -- INSERT of a row that gives its number
  pub inserted_is : (source : Row) (y : Y) → cast_row table (drop 0 source) ≡ to_row y → edited db (edit_of db table [] Chosen 0 (source ∷ [])) ≡ map to_row (insert_by key ys y)
  inserted_is source y stored =
      ap (λ r. put_row (with_rowid Chosen (db table.tree) r) (db table.tree)) stored ∙ ap (λ r. put_row r (db table.tree)) (named y) ∙ ap (put_row (to_row y)) kept.is ∙ puts-map key to_row keyed (y ∷ []) ys

  -- a number is taken just if a row has it as its key
  pub taken_is : (zs : List Y) (y : Y) → is_taken (map to_row zs) (to_row y) ≡ has_key key zs (key y)
  taken_is [] y = refl
  taken_is (z ∷ zs) y =
      let here : is_eq (value_cmp (rowid (to_row z)) (rowid (to_row y))) ≡ int_eq (key z) (key y) = ap is_eq (ap₂ value_cmp (keyed z) (keyed y) ∙ value_cmp-Int _ _) in
      rw (here, taken_is zs y) (go (int_eq (key z) (key y)))
    where
      go : (b : Bool) → (b || has_key key zs (key y)) ≡ is_some (cond b (Some z) (get_by key zs (key y)))
      go true = refl
      go false = refl

  -- and where the row was put in, its number was free
  pub was_free : (source : Row) (y : Y) → cast_row table (drop 0 source) ≡ to_row y → are_fresh (db table.tree) (edit_of db table [] Chosen 0 (source ∷ [])).news ≡ true → has_key key ys (key y) ≡ false
  was_free source y stored fresh =
      let e : (edit_of db table [] Chosen 0 (source ∷ [])).news ≡ to_row y ∷ [] = ap (λ r. with_rowid Chosen (db table.tree) r ∷ []) stored ∙ ap (λ r. r ∷ []) (named y) in
      let f = subst (λ r. are_fresh (db table.tree) r ≡ true) e fresh in
      sym (ap (λ rows. is_taken rows (to_row y)) kept.is ∙ taken_is ys y) ∙ untaken (is_taken (db table.tree) (to_row y)) f
    where
      untaken : (b : Bool) → (not b && true) ≡ true → b ≡ false
      untaken true h = absurd cc
      untaken false h = refl

  -- a row that leaves its number to be chosen is given the next
  pub appended_row : (source : Row) (y : Y) → cast_row table (drop 0 source) ≡ Null ∷ drop 1 (to_row y) → key y ≡ next_key key ys → with_rowid Chosen (db table.tree) (cast_row table (drop 0 source)) ≡ to_row y
  appended_row source y stored next =
      ap (with_rowid Chosen (db table.tree)) stored ∙ ap (λ n. Int n ∷ drop 1 (to_row y)) (ap next_rowid kept.is ∙ next_is (pos 1) ys ∙ sym next) ∙ whole (to_row y) (keyed y)
    where
      whole : (r : Row) → rowid r ≡ Int (key y) → Int (key y) ∷ drop 1 r ≡ r
      whole [] h = absurd cc
      whole (v ∷ r) h = ap (λ x. x ∷ r) (sym h)

      next_is : (a : ℤ) (zs : List Y) → fold (λ _ r. id_in (rowid r) +ℤ pos 1) a (map to_row zs) ≡ fold (λ _ z. key z +ℤ pos 1) a zs
      next_is a [] = refl
      next_is a (z ∷ zs) = next_is (id_in (rowid (to_row z)) +ℤ pos 1) zs ∙ ap (λ v. fold (λ _ x. key x +ℤ pos 1) (id_in v +ℤ pos 1) zs) (keyed z)

  -- INSERT of such a row
  pub appended_is : (source : Row) (y : Y) → cast_row table (drop 0 source) ≡ Null ∷ drop 1 (to_row y) → key y ≡ next_key key ys → edited db (edit_of db table [] Chosen 0 (source ∷ [])) ≡ map to_row (insert_by key ys y)
  appended_is source y stored next =
      ap (λ r. put_row r (db table.tree)) (appended_row source y stored next) ∙ ap (put_row (to_row y)) kept.is ∙ puts-map key to_row keyed (y ∷ []) ys
