-- UPDATE of the one row that has a key, in a table whose rows have keys of their own.
use Rattle.clear_columns.proofs.Words.{◌≡◌, ℕ, ℤ, ◌≤◌, Bool, true, false, cond, List, [], ◌∷◌, map, filter, drop, length, refl, sym, ap, subst, ◌∙◌, Less, IsPermutation, arith, length-map, IsPermutation-map, slice_cmp, nat_cmp, Int, cast_row, edit_of, edited, Row, Given, Table, Trees, rowid, update_where, IsKeyedBy-update_where, ascending_weaker, IsPermutation-filter, ids_of, no_rows, updated_is, content, by_key, each_fails, none_replaced, one_passes}
use Rattle.std.proofs.Common.{ap₂}
use Rattle.std.proofs.lemmas.List.Sorted.{length_permutation}
use Rattle.sqlite_keyed.proofs.ListLemmas.{map-map, map_same, filter-map, ascending-map}
use Rattle.clear_rows.specs.Kept.{IsHeldBy}
use Rattle.clear_rows.proofs.Held.{number}

module _ {X : Type 0} (key : X → List ℕ) (to_row : ℤ × X → Row) (keyed : (y : ℤ × X) → rowid (to_row y) ≡ Int (number y)) (db : Trees) (table : Table) (xs : List X)
    (held : IsHeldBy (by_key key) to_row xs (db table.tree)) (p : X → Bool) (g : X → X) (same_key : (x : X) → key (g x) ≡ key x) where
  -- the row beside its number, with what it becomes
  abbrev pub turned : ℤ × X → ℤ × X
  turned y = (number y, g (content y))

  -- whether it is the one
  abbrev pub is_meant : ℤ × X → Bool
  is_meant y = p (content y)

  pub few_numbered : length (filter p xs) ≤ 1 → length (filter is_meant held.numbered) ≤ 1
  few_numbered few =
      subst (λ n. n ≤ 1) (length_permutation _ _ (IsPermutation-filter p _ _ held.same) ∙ ap length (filter-map p content held.numbered) ∙ length-map (filter is_meant held.numbered) content) few

  -- the tree that an UPDATE leaves
  pub updated_rows : length (filter p xs) ≤ 1 → (rows : List Row) (show : ℤ × X → Row) → ((y : ℤ × X) → rowid (show y) ≡ Int (number y)) → ((y : ℤ × X) → cast_row table (drop 1 (show y)) ≡ to_row (turned y))
      → IsPermutation (map show (filter is_meant held.numbered)) rows → edited db (edit_of db table (ids_of rows) Given 1 rows) ≡ map to_row (update_where is_meant turned held.numbered)
  updated_rows few rows show shows stored same = go (filter is_meant held.numbered) refl (few_numbered few) same
    where
      go : (found : List (ℤ × X)) → filter is_meant held.numbered ≡ found → length found ≤ 1 → IsPermutation (map show found) rows → edited db (edit_of db table (ids_of rows) Given 1 rows) ≡ map to_row (update_where is_meant turned held.numbered)
      go [] none few perm =
          ap (λ r. edited db (edit_of db table (ids_of r) Given 1 r)) (no_rows rows perm) ∙ held.stored.is
          ∙ ap (map to_row) (sym (none_replaced is_meant turned held.numbered (each_fails is_meant held.numbered none)))
      go (y ∷ []) one few perm =
          let it = one_passes number is_meant turned held.numbered y held.stored.keyed one in
          updated_is number to_row keyed db table held.numbered held.stored rows (number y) turned show (λ _. refl) shows stored (subst (λ (l : List (ℤ × X)). IsPermutation (map show l) rows) (sym it.0) perm)
          ∙ ap (map to_row) (sym it.1)
      go (y ∷ z ∷ more) many few perm = absurd (omega arith)

  -- so the rows keep their keys
  pub held_updated : (new : List Row) → new ≡ map to_row (update_where is_meant turned held.numbered) → IsHeldBy (by_key key) to_row (update_where p g xs) new
  held_updated new is = record {
    numbered = update_where is_meant turned held.numbered;
    stored = record { is = is; keyed = IsKeyedBy-update_where number is_meant turned (λ _. refl) held.numbered held.stored.keyed };
    same = subst (λ l. IsPermutation l (update_where p g xs)) (sym contents) (IsPermutation-map after _ _ held.same);
    rises = ascending-map (λ a b. by_key key a b ≡ Less) after xs (ascending_weaker (λ a b. by_key key a b ≡ Less) (λ a b. by_key key (after a) (after b) ≡ Less) (λ a b less. ap₂ (slice_cmp nat_cmp) (kept a) (kept b) ∙ less) xs held.rises);
  }
    where
      -- what a row becomes
      after : X → X
      after x = cond (p x) (g x) x

      kept : (x : X) → key (after x) ≡ key x
      kept x = told (p x)
        where
          told : (b : Bool) → key (cond b (g x) x) ≡ key x
          told true = same_key x
          told false = refl

      each : (y : ℤ × X) → content (cond (is_meant y) (turned y) y) ≡ after (content y)
      each y = told (is_meant y)
        where
          told : (b : Bool) → content (cond b (turned y) y) ≡ cond b (g (content y)) (content y)
          told true = refl
          told false = refl

      contents : map content (update_where is_meant turned held.numbered) ≡ map after (map content held.numbered)
      contents = map-map content (λ y. cond (is_meant y) (turned y) y) held.numbered ∙ map_same _ _ each held.numbered ∙ sym (map-map after content held.numbered)
