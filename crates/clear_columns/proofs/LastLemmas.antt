-- The rows that pass, in an order that is that of the keys among them alone: a query for one row in the falling
-- order gives the last of them.
use Rattle.clear_columns.proofs.Words.{◌≡◌, ◌==◌, ℕ, ℤ, List, [], ◌∷◌, Bool, true, false, arith, cond, nat_cmp, nat_tests, None, Equal, Less, map, filter, slice_get, refl, ◌∙◌, IsPermutation-filter, Database, Row, output, output_cmp, Ghosts, Term, Key, Tables, first_program, meets, plain_program, plain_query, content, AnswersJust, HasTables, by_key, answers_just, store_schema, keyed_row, numbered_row, Binary, Int, col, ap, sym, map-id, ordering_then}
use Rattle.std.proofs.Common.{◌++◌, append-nil, subst, take, IsPermutation}
use Rattle.std.proofs.lemmas.List.{take-map}
use Rattle.std.proofs.lemmas.List.Sorted.{IsPermutation-middle, IsPermutation-refl, IsPermutation-sym, IsPermutation-trans}
use Rattle.std.specs.List.{AllByRecursion, last_or}
use Rattle.sqlite.specs.Query.{Output}
use Rattle.sqlite.specs.Tree.{IsAscending}
use Rattle.sqlite_keyed.proofs.KeyedLemmas.{Less-from_lt}
use Rattle.sqlite_value.proofs.OrderLemmas.{value_cmp-Int}
use Rattle.clear_rows.proofs.Queries.{first_in_order, in_this_order}
use Rattle.clear_columns.proofs.KeyedTable.{KeyedTable}
use Rattle.clear_columns.proofs.NumberedTable.{NumberedTable}
use Rattle.clear_columns.proofs.Says.{SaysQuery, is_query, plain_query_text, unlisted_query}

-- ---- rows from the last to the first

module _ {X : Type 0} where
  -- those from the last to the first, and others behind
  abbrev before_those : List X → List X → List X
  before_those [] behind = behind
  before_those (x ∷ xs) behind = before_those xs (x ∷ behind)

  abbrev pub from_last : List X → List X
  from_last xs = before_those xs []

  -- they are the same rows
  moved : (xs behind : List X) → IsPermutation (xs ++ behind) (before_those xs behind)
  moved [] behind = IsPermutation-refl _
  moved (x ∷ xs) behind = IsPermutation-trans _ _ _ (IsPermutation-sym _ _ (IsPermutation-middle xs x behind)) (moved xs (x ∷ behind))

  same_rows : (xs : List X) → IsPermutation xs (from_last xs)
  same_rows xs = subst (λ l. IsPermutation l (from_last xs)) (append-nil xs) (moved xs [])

  -- the first of them is the last
  last_after : (xs behind : List X) → slice_get (before_those xs behind) 0 ≡ last_or (slice_get behind 0) xs
  last_after [] behind = refl
  last_after (x ∷ xs) behind = last_after xs (x ∷ behind)

  first_taken : (xs : List X) → slice_get (take 1 xs) 0 ≡ slice_get xs 0
  first_taken [] = refl
  first_taken (x ∷ xs) = refl

  pub last_of : (xs : List X) → slice_get (take 1 (from_last xs)) 0 ≡ last_or None xs
  last_of xs = first_taken (from_last xs) ∙ last_after xs []

  -- and they fall as they rose
  module _ (R : X → X → Type 0) where
    -- each row is behind all of those
    abbrev AreBehind : List X → List X → Type 0
    AreBehind xs before = AllByRecursion (λ x. AllByRecursion (λ y. R y x) before) xs

    behind_more : (x : X) (xs before : List X) → AllByRecursion (R x) xs → AreBehind xs before → AreBehind xs (x ∷ before)
    behind_more x [] before up behind = tt
    behind_more x (y ∷ xs) before up behind = ((up.0, behind.0), behind_more x xs before up.1 behind.1)

    falls_after : (xs before : List X) → IsAscending R xs → IsAscending (λ a b. R b a) before → AreBehind xs before → IsAscending (λ a b. R b a) (before_those xs before)
    falls_after [] before up down behind = down
    falls_after (x ∷ xs) before up down behind = falls_after xs (x ∷ before) up.1 (behind.0, down) (behind_more x xs before up.0 behind.1)

    behind_none : (xs : List X) → AreBehind xs []
    behind_none [] = tt
    behind_none (x ∷ xs) = (tt, behind_none xs)

    pub falls : (xs : List X) → IsAscending R xs → IsAscending (λ a b. R b a) (from_last xs)
    falls xs up = falls_after xs [] up tt (behind_none xs)

-- ---- an order of the rows that pass alone

module _ {X : Type 0} (p : X → Bool) where
  all_passing : (P Q : X → Type 0) → ((x : X) → p x ≡ true → P x → Q x) → (xs : List X) → AllByRecursion P xs → AllByRecursion Q (filter p xs)
  all_passing P Q turns [] all = tt
  all_passing P Q turns (x ∷ xs) all = go (p x) refl (all_passing P Q turns xs all.1)
    where
      go : (b : Bool) → p x ≡ b → AllByRecursion Q (filter p xs) → AllByRecursion Q (cond b (x ∷ filter p xs) (filter p xs))
      go true e more = (turns x e all.0, more)
      go false e more = more

  pub rises_passing : (R Q : X → X → Type 0) → ((a b : X) → p a ≡ true → p b ≡ true → R a b → Q a b) → (xs : List X) → IsAscending R xs → IsAscending Q (filter p xs)
  rises_passing R Q turns [] up = tt
  rises_passing R Q turns (x ∷ xs) up = go (p x) refl (rises_passing R Q turns xs up.1)
    where
      go : (b : Bool) → p x ≡ b → IsAscending Q (filter p xs) → IsAscending Q (cond b (x ∷ filter p xs) (filter p xs))
      go true e more = (all_passing (R x) (Q x) (λ y passes before. turns x y e passes before) xs up.0, more)
      go false e more = more

-- numbers that are one number are in no order
pub as_one : (a b n : ℕ) → (a == n) ≡ true → (b == n) ≡ true → nat_cmp a b ≡ Equal
as_one a b n first second = grind (arith, nat_tests)

-- ---- rows of a table

module _ {X S : Type 0} (it : KeyedTable X) (g : Ghosts S) (t : Tables) (db : Database) (has : HasTables t db) {sql : List ℕ} {conditions columns : List Term} (params : Row) (shown : X → Row) (p : X → Bool) (tests : (y : ℤ × X) → meets conditions params (keyed_row it.given y) ≡ p (content y)) where
  -- of the rows that pass, the last, where by the order of the query a row comes after those that its key is behind
  pub finds_last : {order : List (Term × Key)} → SaysQuery sql (first_program it.table.tree conditions columns order) → (sorted : X → Row) → ((y : ℤ × X) → output (plain_query it.table.tree conditions columns order) (params ∷ keyed_row it.given y ∷ []) ≡ (sorted (content y), shown (content y)))
      → ((a b : X) → p a ≡ true → p b ≡ true → by_key it.key a b ≡ Less → output_cmp (plain_query it.table.tree conditions columns order) (sorted b, shown b) (sorted a, shown a) ≡ Less) → AnswersJust g sql params db (map shown (take 1 (from_last (filter p (it.rows t)))))
  finds_last {order} says sorted shows orders =
      let kept = it.has t db has in
      let rows = filter p (it.rows t) in
      let same = IsPermutation-trans _ _ _ (IsPermutation-filter p _ _ kept.same) (same_rows rows) in
      let down = falls (λ a b. output_cmp (plain_query it.table.tree conditions columns order) (sorted b, shown b) (sorted a, shown a) ≡ Less) rows (rises_passing p (λ a b. by_key it.key a b ≡ Less) _ orders (it.rows t) kept.rises) in
      answers_just g says.names sql params store_schema (is_query says) (plain_query_text says) (unlisted_query says) db has.schema _
      (λ found answer. first_in_order it.table.tree conditions columns order params (keyed_row it.given) content p tests (λ x. (sorted x, shown x)) shows db.schema db.trees kept.numbered kept.stored.is found answer (from_last rows) same down ∙ take-map shown 1 (from_last rows))

  -- or all of them, where by that order they rise with their keys
  pub lists_passing : {order : List (Term × Key)} → SaysQuery sql (plain_program it.table.tree conditions columns order) → (sorted : X → Row) → ((y : ℤ × X) → output (plain_query it.table.tree conditions columns order) (params ∷ keyed_row it.given y ∷ []) ≡ (sorted (content y), shown (content y)))
      → ((a b : X) → p a ≡ true → p b ≡ true → by_key it.key a b ≡ Less → output_cmp (plain_query it.table.tree conditions columns order) (sorted a, shown a) (sorted b, shown b) ≡ Less) → AnswersJust g sql params db (map shown (filter p (it.rows t)))
  lists_passing {order} says sorted shows rises =
      let kept = it.has t db has in
      answers_just g says.names sql params store_schema (is_query says) (plain_query_text says) (unlisted_query says) db has.schema _
      (λ found answer. in_this_order it.table.tree conditions columns order params (keyed_row it.given) content p tests (λ x. (sorted x, shown x)) shows db.schema db.trees kept.numbered kept.stored.is found answer (λ a b. output_cmp (plain_query it.table.tree conditions columns order) (sorted a, shown a) (sorted b, shown b)) (λ a b less. less) (filter p (it.rows t)) (IsPermutation-filter p _ _ kept.same) (rises_passing p (λ a b. by_key it.key a b ≡ Less) _ rises (it.rows t) kept.rises))

-- ---- rows of a table that stand under a number

-- the greatest number first
abbrev pub by_falling : List (Term × Key)
by_falling = (col 1 0, record { collation = Binary; descending = true }) ∷ []

-- what a query tells of a row, and its number, by which it is put in order
abbrev out : {X : Type 0} → NumberedTable X → (X → Row) → X → Output
out it shown x = (Int (it.as_int (it.number x)) ∷ [], shown x)

module _ {X S : Type 0} (it : NumberedTable X) (g : Ghosts S) (t : Tables) (db : Database) (has : HasTables t db) {sql : List ℕ} {conditions columns : List Term} (params : Row) (shown : X → Row) (p : X → Bool) (tests : (x : X) → meets conditions params (numbered_row it.given x) ≡ p x) where
  -- of the rows that pass, the one with the greatest number
  pub finds_greatest : SaysQuery sql (first_program it.table.tree conditions columns by_falling) → ((x : X) → output (plain_query it.table.tree conditions columns by_falling) (params ∷ numbered_row it.given x ∷ []) ≡ out it shown x) → AnswersJust g sql params db (map shown (take 1 (from_last (filter p (it.rows t)))))
  finds_greatest says shows =
      let kept = it.has t db has in
      let rows = filter p (it.rows t) in
      let same : IsPermutation (filter p (map (λ x. x) (it.rows t))) (from_last rows) = subst (λ l. IsPermutation (filter p l) (from_last rows)) (sym (map-id (it.rows t))) (same_rows rows) in
      let down = falls (λ a b. output_cmp (plain_query it.table.tree conditions columns by_falling) (out it shown b) (out it shown a) ≡ Less) rows
      (rises_passing p _ _ (λ a b first second less. ap (λ o. ordering_then o Equal) (value_cmp-Int (it.as_int (it.number a)) (it.as_int (it.number b)) ∙ Less-from_lt (it.as_int (it.number a)) (it.as_int (it.number b)) less)) (it.rows t) kept.keyed) in
      answers_just g says.names sql params store_schema (is_query says) (plain_query_text says) (unlisted_query says) db has.schema _
      (λ found answer. first_in_order it.table.tree conditions columns by_falling params (numbered_row it.given) (λ x. x) p tests (out it shown) shows db.schema db.trees (it.rows t) kept.is found answer (from_last rows) same down ∙ take-map shown 1 (from_last rows))
