-- A table whose rows have numbers that are chosen, and a key of their own.
use Rattle.std.proofs.Common.{◌≡◌, ℕ, ℤ, Bool, true, false, not, ◌&&◌, ◌||◌, cond, List, [], ◌∷◌, map, refl, sym, ap, ap₂, subst, ◌∙◌, Ordering, Less, Equal, Greater, is_eq, is_gt, int_cmp, int_eq, IsPermutation, arith, true≢false, Some, is_some}
use Rattle.std.specs.List.{list_any, AllByRecursion}
use Rattle.std.specs.Ordering.{match_ordering, ordering_reverse, is_ne}
use Rattle.std.specs.Cmp.{IsTotalOrder}
use Rattle.std.proofs.lemmas.Int.{ints}
use Rattle.std.proofs.lemmas.List.Sorted.{IsPermutation-map, IsPermutation-trans, IsPermutation-sym, IsPermutation-cons, IsPermutation-refl, IsPermutation-middle, All-permutation}
use Rattle.std.proofs.lemmas.List.Elements.{recursion_from_All, All-from_recursion}
use Rattle.sqlite.specs.Order.{Row}
use Rattle.sqlite.specs.Tree.{IsAscending}
use Rattle.sqlite_keyed.specs.Keyed.{get_by, has_key, insert_by}
use Rattle.sqlite_keyed.specs.Lists.{delete_where, insert_sorted}
use Rattle.sqlite_keyed.proofs.ListLemmas.{filter-map, ascending-filter, all_weaker, IsPermutation-filter, none_from_any, all_map}
use Rattle.sqlite_keyed.proofs.SliceLemmas.{any_is_found}
use Rattle.std.proofs.lemmas.List.Sorted.{list_any-IsPermutation}
use Rattle.sqlite_keyed.proofs.KeyedLemmas.{IsKeyedBy-insert_by, IsKeyedBy-delete_where}
use Rattle.sqlite.specs.declared.types.Value.TheVariants.{Int}
use Rattle.sqlite.specs.Order.{value_cmp}
use Rattle.sqlite.specs.Ops.{binary, is_true, from_truth}
use Rattle.sqlite.specs.Tree.{rowid}
use Rattle.sqlite_schema.specs.Rules.{agree, differ}
use Rattle.sqlite_value.specs.Keys.{plain}
use Rattle.sqlite_value.proofs.OrderLemmas.{value_cmp-Int}
use Rattle.clear_rows.specs.Kept.{IsHeldBy}

-- the number that a row has beside it
abbrev pub number : {X : Type 0} → ℤ × X → ℤ
number y = y.0

-- the row itself
abbrev pub content : {X : Type 0} → ℤ × X → X
content y = y.1

module _ {X : Type 0} (cmp : X → X → Ordering) (to_row : ℤ × X → Row) where
  -- rows that pass are removed
  pub held-delete_where : (p : X → Bool) (xs : List X) (old new : List Row) (held : IsHeldBy cmp to_row xs old)
      → new ≡ map to_row (delete_where (λ y. p (content y)) held.numbered) → IsHeldBy cmp to_row (delete_where p xs) new
  held-delete_where p xs old new held is = record {
    numbered = delete_where (λ y. p (content y)) held.numbered;
    stored = record { is = is; keyed = IsKeyedBy-delete_where number (λ y. p (content y)) held.numbered held.stored.keyed };
    same = subst (λ l. IsPermutation l (delete_where p xs)) (filter-map (λ x. not (p x)) content held.numbered) (IsPermutation-filter (λ x. not (p x)) _ xs held.same);
    rises = ascending-filter (λ a b. cmp a b ≡ Less) (λ x. not (p x)) xs held.rises;
  }

  -- a row with a free number comes beside the others
  pub inserted_permutation : (new : ℤ × X) (ys : List (ℤ × X)) → has_key number ys (number new) ≡ false → IsPermutation (new ∷ ys) (insert_by number ys new)
  inserted_permutation new [] free = IsPermutation-refl _
  inserted_permutation new (y ∷ ys) free = go (int_cmp (number y) (number new)) (int_eq (number y) (number new)) refl refl free (inserted_permutation new ys)
    where
      go : (o : Ordering) (b : Bool) → int_cmp (number y) (number new) ≡ o → int_eq (number y) (number new) ≡ b → is_some (cond b (Some y) (get_by number ys (number new))) ≡ false
          → (has_key number ys (number new) ≡ false → IsPermutation (new ∷ ys) (insert_by number ys new)) → IsPermutation (new ∷ y ∷ ys) (match_ordering o (y ∷ insert_by number ys new) (new ∷ ys) (new ∷ y ∷ ys))
      go o true p q h more = absurd (true≢false h)
      go Less false p q h more = IsPermutation-trans _ _ _ (IsPermutation-sym _ _ (IsPermutation-middle (y ∷ []) new ys)) (IsPermutation-cons y _ _ (more h))
      go Equal false p q h more = let same : int_eq (number y) (number new) ≡ true = grind (arith, ints) in absurd (true≢false (sym same ∙ q))
      go Greater false p q h more = IsPermutation-refl _

  -- and so it does by its key
  sorted_permutation : (new : X) (xs : List X) → IsPermutation (new ∷ xs) (insert_sorted cmp new xs)
  sorted_permutation new [] = IsPermutation-refl _
  sorted_permutation new (x ∷ xs) = go (is_gt (cmp new x)) (sorted_permutation new xs)
    where
      go : (b : Bool) → IsPermutation (new ∷ xs) (insert_sorted cmp new xs) → IsPermutation (new ∷ x ∷ xs) (cond b (x ∷ insert_sorted cmp new xs) (new ∷ x ∷ xs))
      go true more = IsPermutation-trans _ _ _ (IsPermutation-sym _ _ (IsPermutation-middle (x ∷ []) new xs)) (IsPermutation-cons x _ _ more)
      go false more = IsPermutation-refl _

  module _ (total : IsTotalOrder cmp) where
    all_inserted : (P : X → Type 0) (new : X) (xs : List X) → P new → AllByRecursion P xs → AllByRecursion P (insert_sorted cmp new xs)
    all_inserted P new [] h all = (h, tt)
    all_inserted P new (x ∷ xs) h all = go (is_gt (cmp new x)) (all_inserted P new xs h all.1)
      where
        go : (b : Bool) → AllByRecursion P (insert_sorted cmp new xs) → AllByRecursion P (cond b (x ∷ insert_sorted cmp new xs) (new ∷ x ∷ xs))
        go true more = (all.0, more)
        go false more = (h, all)

    still_rises : (new : X) (xs : List X) → AllByRecursion (λ x. is_eq (cmp new x) ≡ false) xs → IsAscending (λ a b. cmp a b ≡ Less) xs → IsAscending (λ a b. cmp a b ≡ Less) (insert_sorted cmp new xs)
    still_rises new [] apart up = (tt, tt)
    still_rises new (x ∷ xs) apart up = go (cmp new x) refl (still_rises new xs apart.1 up.1)
      where
        go : (o : Ordering) → cmp new x ≡ o → IsAscending (λ a b. cmp a b ≡ Less) (insert_sorted cmp new xs) → IsAscending (λ a b. cmp a b ≡ Less) (cond (is_gt o) (x ∷ insert_sorted cmp new xs) (new ∷ x ∷ xs))
        go Less e more = ((e, all_weaker _ (λ y. cmp new y ≡ Less) (λ y. total.trans new x y e) xs up.0), up)
        go Equal e more = absurd (true≢false (sym (ap is_eq e) ∙ apart.0))
        go Greater e more = (all_inserted (λ y. cmp x y ≡ Less) new xs (total.antisymm x new ∙ ap ordering_reverse e) up.0, more)

    -- a row whose number and key are free is put in
    pub held-insert : (new : X) (xs : List X) (old next : List Row) (held : IsHeldBy cmp to_row xs old) (n : ℤ) → has_key number held.numbered n ≡ false → AllByRecursion (λ x. is_eq (cmp new x) ≡ false) xs
        → next ≡ map to_row (insert_by number held.numbered (n, new)) → IsHeldBy cmp to_row (insert_sorted cmp new xs) next
    held-insert new xs old next held n free apart is = record {
      numbered = insert_by number held.numbered (n, new);
      stored = record { is = is; keyed = IsKeyedBy-insert_by number held.numbered (n, new) held.stored.keyed };
      same = IsPermutation-trans _ _ _ (IsPermutation-sym _ _ (IsPermutation-map content _ _ (inserted_permutation (n, new) held.numbered free))) (IsPermutation-trans _ _ _ (IsPermutation-cons new _ _ held.same) (sorted_permutation new xs));
      rises = still_rises new xs apart held.rises;
    }

-- ---- a key that an index keeps unique

-- two numbers differ in SQL as they do
pub differ_ints : (m n : ℤ) → differ (Int m) (Int n) ≡ not (int_eq m n)
unfolding binary
differ_ints m n = told (is_ne (value_cmp (Int m) (Int n))) ∙ ap is_ne (value_cmp-Int m n) ∙ turned (int_cmp m n)
  where
    told : (b : Bool) → is_true (from_truth (Some b)) ≡ b
    told true = refl
    told false = refl

    turned : (o : Ordering) → is_ne o ≡ not (is_eq o)
    turned Less = refl
    turned Equal = refl
    turned Greater = refl

module _ {X : Type 0} (cmp : X → X → Ordering) (to_row : ℤ × X → Row) (keyed : (y : ℤ × X) → rowid (to_row y) ≡ Int (number y)) (places : List ℕ)
    (agrees : (a b : ℤ × X) → agree plain places (to_row a) places (to_row b) ≡ is_eq (cmp (content b) (content a))) where
  -- no other row has the key of a row with another number
  pub apart_from : (ys : List (ℤ × X)) (new : ℤ × X) → AllByRecursion (λ y. int_eq (number y) (number new) ≡ false) ys → list_any (λ other. agree plain places other places (to_row new) && differ (rowid other) (rowid (to_row new))) (map to_row ys) ≡ false
      → AllByRecursion (λ y. is_eq (cmp (content new) (content y)) ≡ false) ys
  apart_from [] new others none = tt
  apart_from (y ∷ ys) new others none =
      let ids : differ (rowid (to_row y)) (rowid (to_row new)) ≡ true = ap₂ differ (keyed y) (keyed new) ∙ differ_ints _ _ ∙ ap not others.0 in
      let parts = or_parts _ _ none in
      (sym (agrees y new) ∙ left_false _ _ ids parts.0, apart_from ys new others.1 parts.1)
    where
      or_parts : (a b : Bool) → (a || b) ≡ false → (a ≡ false) × (b ≡ false)
      or_parts true b h = absurd (true≢false h)
      or_parts false b h = (refl, h)

      left_false : (a b : Bool) → b ≡ true → (a && b) ≡ false → a ≡ false
      left_false true b e h = absurd (true≢false (sym e ∙ h))
      left_false false b e h = refl

  -- so the key of a new row was free
  pub key_was_free : (total : IsTotalOrder cmp) (xs : List X) (ys : List (ℤ × X)) (new : ℤ × X) → has_key number ys (number new) ≡ false → IsPermutation (map content ys) xs
      → AllByRecursion (λ row. list_any (λ other. agree plain places other places row && differ (rowid other) (rowid row)) (map to_row (insert_by number ys new)) ≡ false) (map to_row (insert_by number ys new))
      → AllByRecursion (λ x. is_eq (cmp (content new) x) ≡ false) xs
  key_was_free total xs ys new free same unique =
      let moved = IsPermutation-map to_row _ _ (inserted_permutation cmp to_row new ys free) in
      let P = λ (row : Row). list_any (λ other. agree plain places other places row && differ (rowid other) (rowid row)) (map to_row (insert_by number ys new)) ≡ false in
      let each : AllByRecursion P (to_row new ∷ map to_row ys) = recursion_from_All P (map to_row (new ∷ ys)) (All-permutation P (map to_row (insert_by number ys new)) (map to_row (new ∷ ys)) (IsPermutation-sym _ _ moved) (All-from_recursion P _ unique)) in
      let here = list_any-IsPermutation (λ other. agree plain places other places (to_row new) && differ (rowid other) (rowid (to_row new))) _ _ moved ∙ each.0 in
      let others = none_from_any (λ y. int_eq (number y) (number new)) ys (any_is_found (λ y. int_eq (number y) (number new)) ys ∙ free) in
      let apart = apart_from ys new others (rest_false _ _ here) in
      let Q = λ (x : X). is_eq (cmp (content new) x) ≡ false in
      recursion_from_All Q xs (All-permutation Q (map content ys) xs same (All-from_recursion Q _ (all_map (λ x. is_eq (cmp (content new) x) ≡ false) content ys apart)))
    where
      rest_false : (a b : Bool) → (a || b) ≡ false → b ≡ false
      rest_false true b h = absurd (true≢false h)
      rest_false false b h = h
