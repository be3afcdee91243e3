-- A query for the rows of a table in the order of any of its keys: since no key stands twice, there is
-- one such order.
use Rattle.clear_columns.proofs.Words.{◌≡◌, ◌≤◌, ◌&&◌, ℕ, ℤ, Bool, true, false, cond, List, [], ◌∷◌, Some, None, Less, length, map, filter, slice_get, refl, sym, ap, subst, ◌∙◌, arith, IsPermutation, agree, list_any, Has, Database, Row, output, output_cmp, rowid, Ghosts, Term, Key, Tables, find_row, is_key, with_row, meets, plain_program, plain_query, content, AnswersJust, HasTables, by_key, first_found, answers_just, sound_by_schema, store_schema, IsPermutation-filter, keyed_row}
use Rattle.std.proofs.Common.{◌++◌, append-nil, int_eq, ◌<ℤ◌}
use Rattle.std.proofs.lemmas.Bool.{or_parts}
use Rattle.std.proofs.lemmas.List.Sorted.{IsPermutation-append_right, IsPermutation-cons, IsPermutation-middle, IsPermutation-refl, IsPermutation-sym, IsPermutation-trans, length_permutation}
use Rattle.std.specs.List.{AllByRecursion}
use Rattle.sqlite_keyed.specs.Keyed.{IsKeyedBy}
use Rattle.sqlite_keyed.proofs.ListLemmas.{all_map, all_weaker}
use Rattle.sqlite_rules.proofs.ListLemmas.{all_has}
use Rattle.sqlite_schema.specs.Rules.{differ}
use Rattle.sqlite_schema.specs.declared.schema.Constraint.TheVariants.{Unique}
use Rattle.sqlite_value.specs.Keys.{plain as plain_order}
use Rattle.clear_values.specs.Keyed.{is_before, AreOnce, in_key_order, with_rows}
use Rattle.clear_values.proofs.KeyedLemmas.{is_key-refl, other_row}
use Rattle.clear_values.proofs.KeyedRowsLemmas.{AreInOrder-in_key_order}
use Rattle.clear_rows.proofs.Held.{apart_from, number}
use Rattle.clear_rows.proofs.Queries.{in_this_order}
use Rattle.clear_columns.proofs.KeyLemmas.{few_once, none_found, none_if, rising_if_in_order}
use Rattle.clear_columns.proofs.KeyedTable.{IsKeptBy, KeyedTable, UniqueKey, no_clash}
use Rattle.clear_columns.proofs.ListLemmas.{more_apart}
use Rattle.clear_columns.proofs.Says.{SaysQuery, is_query, plain_query_text, unlisted_query}

module _ {X : Type 0} (key : X → List ℕ) where
  -- ---- keys that stand once

  no_first : (xs : List X) → length xs ≤ 0 → slice_get xs 0 ≡ None
  no_first [] few = refl
  no_first (x ∷ xs) few = absurd (omega (arith, few))

  -- where a key has one row at most, it stands once
  once_if_few : (xs : List X) → ((k : List ℕ) → length (filter (λ x. is_key (key x) k) xs) ≤ 1) → AreOnce key xs
  once_if_few [] few = tt
  once_if_few (x ∷ xs) few = (none, once_if_few xs (λ k. fewer k (is_key (key x) k) (few k)))
    where
      same : List ℕ → List X
      same k = filter (λ y. is_key (key y) k) xs

      fewer : (k : List ℕ) (b : Bool) → length (cond b (x ∷ same k) (same k)) ≤ 1 → length (same k) ≤ 1
      fewer k true few = omega (arith, few)
      fewer k false few = few

      none : find_row key xs (key x) ≡ None
      none =
          let two : length (x ∷ same (key x)) ≤ 1 = subst (λ b. length (cond b (x ∷ same (key x)) (same (key x))) ≤ 1) (is_key-refl (key x)) (few (key x)) in
          sym (first_found key xs (key x)) ∙ no_first (same (key x)) (omega (arith, two))

  -- in whatever order the rows are
  once_moved : (xs ys : List X) → IsPermutation xs ys → AreOnce key xs → AreOnce key ys
  once_moved xs ys same once =
      once_if_few ys (λ k. subst (λ n. n ≤ 1) (sym (length_permutation _ _ (IsPermutation-filter (λ x. is_key (key x) k) xs ys same))) (few_once key xs k once))

  none_passes : (p : X → Bool) (xs : List X) (k : List ℕ) → find_row key xs k ≡ None → find_row key (filter p xs) k ≡ None
  none_passes p [] k none = refl
  none_passes p (x ∷ xs) k none =
      let parts = other_row key x xs k none in
      let more = none_passes p xs k parts.1 in
      elim (p x) as (λ b. find_row key (cond b (x ∷ filter p xs) (filter p xs)) k ≡ None)
      [ true ↦ ap (λ b. cond b (Some x) (find_row key (filter p xs) k)) parts.0 ∙ more | false ↦ more ]

  -- and whichever of them are left
  once_left : (p : X → Bool) (xs : List X) → AreOnce key xs → AreOnce key (filter p xs)
  once_left p [] once = tt
  once_left p (x ∷ xs) once =
      let more = once_left p xs once.1 in
      elim (p x) as (λ b. AreOnce key (cond b (x ∷ filter p xs) (filter p xs)))
      [ true ↦ (none_passes p xs (key x) once.0, more) | false ↦ more ]

  -- ---- rows put in order

  placed_among : (xs : List X) (new : X) → IsPermutation (new ∷ xs) (with_row key xs new)
  placed_among [] new = IsPermutation-refl _
  placed_among (x ∷ xs) new =
      elim (is_before (key new) (key x)) as (λ b. IsPermutation (new ∷ x ∷ xs) (cond b (new ∷ x ∷ xs) (x ∷ with_row key xs new))) [
        | true ↦ IsPermutation-refl _
        | false ↦ IsPermutation-trans _ _ _ (IsPermutation-sym _ _ (IsPermutation-middle (x ∷ []) new xs)) (IsPermutation-cons x _ _ (placed_among xs new))
      ]

  all_among : (xs news : List X) → IsPermutation (news ++ xs) (with_rows key xs news)
  all_among xs [] = IsPermutation-refl _
  all_among xs (new ∷ news) =
      IsPermutation-trans _ _ _ (IsPermutation-sym _ _ (IsPermutation-middle news new xs))
      (IsPermutation-trans _ _ _ (IsPermutation-append_right news _ _ (placed_among xs new)) (all_among (with_row key xs new) news))

  -- they are the same rows
  put_in_order : (xs : List X) → IsPermutation xs (in_key_order key xs)
  put_in_order xs = subst (λ l. IsPermutation l (in_key_order key xs)) (append-nil xs) (all_among [] xs)

-- ---- rows of a table

module _ {X : Type 0} (it : KeyedTable X) (k : UniqueKey X) (listed : Has it.keys k) where
  by : IsKeptBy it.given k
  by = all_has (IsKeptBy it.given) it.keys k it.kept_by listed

  -- rows that do not clash have their keys once
  apart_once : (ys : List (ℤ × X)) → IsKeyedBy number ys
      → AllByRecursion (λ row. list_any (λ other. agree plain_order k.index.columns other k.index.columns row && differ (rowid other) (rowid row)) (map (keyed_row it.given) ys) ≡ false) (map (keyed_row it.given) ys) → AreOnce k.of (map content ys)
  apart_once [] up none = tt
  apart_once (y ∷ ys) up none =
      let others = all_weaker (λ z. number y <ℤ number z) (λ z. int_eq (number z) (number y) ≡ false) (λ z less. more_apart (number y) (number z) less) ys up.0 in
      let apart = apart_from (by_key k.of) (keyed_row it.given) (λ _. refl) k.index.columns by.agrees ys y others (or_parts _ _ none.0).1 in (
        none_if _ (none_found k.of (content y) (map content ys) (all_map _ content ys apart)),
        apart_once ys up.1 (all_weaker _ _ (λ row none. (or_parts _ _ none).1) (map (keyed_row it.given) ys) none.1),
      )

  -- no two rows have one of the keys
  pub stands_once : (t : Tables) (db : Database) → HasTables t db → AreOnce k.of (it.rows t)
  stands_once t db has =
      let kept = it.has t db has in
      let none = no_clash it db.trees ((sound_by_schema t db has).obeys.rules Unique) k listed in
      once_moved k.of (map content kept.numbered) (it.rows t) kept.same (apart_once kept.numbered kept.stored.keyed
      (subst (λ l. AllByRecursion (λ row. list_any (λ other. agree plain_order k.index.columns other k.index.columns row && differ (rowid other) (rowid row)) l ≡ false) l) kept.stored.is none))

  -- the rows that pass, in the order of the key
  pub lists_by : {S : Type 0} (g : Ghosts S) (t : Tables) (db : Database) (has : HasTables t db) {sql : List ℕ} {conditions columns : List Term} (params : Row) (shown : X → Row) (p : X → Bool) → ((y : ℤ × X) → meets conditions params (keyed_row it.given y) ≡ p (content y)) → {order : List (Term × Key)}
      → SaysQuery sql (plain_program it.table.tree conditions columns order) → (sorted : X → Row) → ((y : ℤ × X) → output (plain_query it.table.tree conditions columns order) (params ∷ keyed_row it.given y ∷ []) ≡ (sorted (content y), shown (content y)))
      → ((a b : X) → by_key k.of a b ≡ Less → output_cmp (plain_query it.table.tree conditions columns order) (sorted a, shown a) (sorted b, shown b) ≡ Less) → AnswersJust g sql params db (map shown (in_key_order k.of (filter p (it.rows t))))
  lists_by g t db has {sql} {conditions} {columns} params shown p tests {order} says sorted shows rises =
      let kept = it.has t db has in
      let rows = filter p (it.rows t) in
      let once : AreOnce k.of rows = once_left k.of p (it.rows t) (stands_once t db has) in
      let same = IsPermutation-trans _ _ _ (IsPermutation-filter p _ _ kept.same) (put_in_order k.of rows) in
      let up = rising_if_in_order k.of (in_key_order k.of rows) (AreInOrder-in_key_order k.of rows once) in
      answers_just g says.names sql params store_schema (is_query says) (plain_query_text says) (unlisted_query says) db has.schema _
      (λ rows answer. in_this_order it.table.tree conditions columns order params (keyed_row it.given) content p tests (λ x. (sorted x, shown x)) shows db.schema db.trees kept.numbered kept.stored.is rows answer (by_key k.of) rises _ same up)
