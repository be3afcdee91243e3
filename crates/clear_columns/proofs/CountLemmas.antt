-- How many rows of a table pass: a query shows 1 for each of them, so in whatever order they come, its
-- answer is the same.
use Rattle.clear_columns.proofs.Words.{◌≡◌, ◌≢◌, IsPermutation-filter, IsPermutation-map, ℤ, ℕ, Bool, List, [], ◌∷◌, pos, length, map, filter, refl, sym, ap, ◌∙◌, IsPermutation, length-map, map-id, all_pass, subst, true, Row, Term, lit, Int, Tables, Database, Answers, Ghosts, HasTables, store_schema, meets, plain_program, content, shown_in_some_order, answers_just, AnswersJust, Held, state, Fault, numbered_row, keyed_row}
use Rattle.std.proofs.Common.{Result, Ok, Err, arith}
use Rattle.std.proofs.lemmas.List.Elements.{All-from_recursion, recursion_from_All}
use Rattle.std.proofs.lemmas.List.Sorted.{All-permutation, IsPermutation-sym, IsPermutation-trans, length_permutation}
use Rattle.std.specs.List.{AllByRecursion}
use Rattle.std.specs.Prelude.{⊤}
use Rattle.sqlite_keyed.proofs.ListLemmas.{IsPermutation-same}
use Rattle.sqlite.specs.State.{HasCleanDisk, KeepsCommit, Shown, Survives}
use Rattle.clear_schema.proofs.FrameLemmas.{looks_as, looks_failed, looks_read}
use Rattle.clear_schema.specs.Frame.{CountsAll, LooksUp}
use Rattle.clear_schema.specs.Runs.{IsBrokenQuery}
use Rattle.clear_values.specs.declared.causes.StoreCause.TheVariants.{Constraint, Row as OutOfRange}
use Rattle.clear_schema.specs.declared.fault.Fault.TheVariants.{Store}
use Rattle.clear_schema.specs.Frame.{Answers as AnswersRows}
use Rattle.clear_columns.proofs.KeyedTable.{KeyedTable}
use Rattle.clear_columns.proofs.NumberedTable.{NumberedTable}
use Rattle.clear_columns.proofs.Says.{SaysQuery, is_query, plain_query_text, unlisted_query}

-- what is shown of each row
abbrev pub one : Term
one = lit (Int (pos 1))

abbrev pub one_shown : {X : Type 0} → X → Row
one_shown x = Int (pos 1) ∷ []

-- lists of one length whose elements are all the same are the same
same_ones : (xs ys : List Row) (r : Row) → length ys ≡ length xs → AllByRecursion (λ x. x ≡ r) xs → AllByRecursion (λ y. y ≡ r) ys → ys ≡ xs
same_ones [] [] r long these those = refl
same_ones [] (y ∷ ys) r long these those = absurd cc
same_ones (x ∷ xs) [] r long these those = absurd cc
same_ones (x ∷ xs) (y ∷ ys) r long these those = (λ i. (those.0 ∙ sym these.0) i ∷ same_ones xs ys r (omega (arith, long)) these.1 those.1 i)

all_ones : {X : Type 0} (xs : List X) → AllByRecursion (λ (r : Row). r ≡ Int (pos 1) ∷ []) (map one_shown xs)
all_ones [] = tt
all_ones (x ∷ xs) = (refl, all_ones xs)

in_any_order : {X : Type 0} (xs : List X) (rows : List Row) → IsPermutation (map one_shown xs) rows → rows ≡ map one_shown xs
in_any_order xs rows some =
    let is_one = λ (r : Row). r ≡ Int (pos 1) ∷ [] in
    same_ones (map one_shown xs) rows (Int (pos 1) ∷ []) (length_permutation (map one_shown xs) rows some) (all_ones xs)
    (recursion_from_All is_one rows (All-permutation is_one (map one_shown xs) rows some (All-from_recursion is_one (map one_shown xs) (all_ones xs))))

-- a query of a tree that has these rows, however they lie in it, shows 1 of each row that passes
module _ {X Y : Type 0} {S : Type 0} (g : Ghosts S) (db : Database) (of_ours : db.schema ≡ store_schema) {tree : ℕ} {conditions : List Term} (params : Row) (to_row : Y → Row) (get : Y → X) (p : X → Bool) (tests : (y : Y) → meets conditions params (to_row y) ≡ p (get y)) (ys : List Y) (xs : List X) (stored : db.trees tree ≡ map to_row ys) (same : IsPermutation (map get ys) xs) where
  counts_of : {sql : List ℕ} → SaysQuery sql (plain_program tree conditions (one ∷ []) []) → AnswersJust g sql params db (map one_shown (filter p xs))
  counts_of {sql} says = answers_just g says.names sql params store_schema (is_query says) (plain_query_text says) (unlisted_query says) db of_ours _ whole
    where
      whole : (rows : List Row) → Answers db (plain_program tree conditions (one ∷ []) []) params rows → rows ≡ map one_shown (filter p xs)
      whole rows answer =
          in_any_order (filter p xs) rows
          (IsPermutation-trans _ _ _ (IsPermutation-sym _ _ (IsPermutation-map one_shown _ _ (IsPermutation-filter p _ _ same)))
          (shown_in_some_order tree conditions (one ∷ []) [] params to_row get p tests (λ x. ([], one_shown x)) (λ _. refl) db.schema db.trees ys stored rows answer))

-- so a query of a table whose rows stand under keys
pub counts : {X : Type 0} (it : KeyedTable X) {S : Type 0} (g : Ghosts S) (t : Tables) (db : Database) (has : HasTables t db) {sql : List ℕ} {conditions : List Term} (params : Row) (p : X → Bool) → ((y : ℤ × X) → meets conditions params (keyed_row it.given y) ≡ p (content y)) → SaysQuery sql (plain_program it.table.tree conditions (one ∷ []) [])
    → AnswersJust g sql params db (map one_shown (filter p (it.rows t)))
counts it g t db has params p tests says =
    let kept = it.has t db has in
    counts_of g db has.schema params (keyed_row it.given) content p tests kept.numbered (it.rows t) kept.stored.is kept.same says

-- and one of all rows of a table whose rows stand under a number
pub counts_all : {X : Type 0} (it : NumberedTable X) {S : Type 0} (g : Ghosts S) (t : Tables) (db : Database) (has : HasTables t db) {sql : List ℕ} → SaysQuery sql (plain_program it.table.tree [] (one ∷ []) []) → AnswersJust g sql [] db (map one_shown (it.rows t))
counts_all it g t db has {sql} says =
    subst (λ l. AnswersJust g sql [] db (map one_shown l)) (all_pass (it.rows t))
    (counts_of g db has.schema [] (numbered_row it.given) (λ x. x) (λ _. true) (λ _. refl) (it.rows t) (it.rows t) (it.has t db has).is (IsPermutation-same _ _ (map-id (it.rows t))) says)

module _ {S : Type 0} (g : Ghosts S) (old new : Held S) (sql : List ℕ) (params : Row) where
  -- an answer as it is
  as_is : (rows : List Row) → AnswersJust g sql params (state g old).now rows → AnswersRows g old new (λ r. r) (λ _. ⊤) sql params rows
  as_is rows = subst (λ l. AnswersJust g sql params (state g old).now l) (sym (map-id rows))

  -- so the rows of an answer are counted
  pub told : (n : ℕ) (shown : List Row) → n ≡ length shown → (HasCleanDisk (state g new) → Shown sql params (state g old) (state g new) shown) → Survives (state g old) (state g new) (λ _. ⊥) → CountsAll g old new sql params (Ok n)
  told n shown is ran survives =
      looks_as g old new (AnswersRows g old new (λ r. r) (λ _. ⊤) sql params) (AnswersJust g sql params (state g old).now) (λ rows. rows) as_is _ _ _ _ _ _ (λ rows found same. same) (λ rows out. out)
      (looks_read g old new (λ r. r) (λ _. ⊤) sql params (Ok n) shown (λ xs found. found ≡ length xs) (λ _. ⊤) (λ _. ⊥) ran survives (λ xs same. is ∙ ap length (same ∙ map-id xs)) tt tt tt)

  -- or they can't be
  pub failed : (fault : Fault) → fault ≢ Store OutOfRange → (HasCleanDisk (state g new) → fault ≡ Store Constraint → IsBrokenQuery sql params (state g old) (state g new)) → (HasCleanDisk (state g new) → KeepsCommit (state g old) (state g new)) → Survives (state g old) (state g new) (λ _. ⊥)
      → CountsAll g old new sql params (Err fault)
  failed fault no_row broke kept survives =
      looks_as g old new (AnswersRows g old new (λ r. r) (λ _. ⊤) sql params) (AnswersJust g sql params (state g old).now) (λ rows. rows) as_is _ _ _ _ _ _ (λ rows (found : ℕ) same. same) (λ rows out. out)
      (looks_failed g old new (λ r. r) (λ _. ⊤) sql params fault (λ xs (found : ℕ). found ≡ length xs) (λ _. ⊤) (λ _. ⊥) no_row broke kept survives)

  -- and with them the rows of a table, of each of which the query shows 1
  pub counted : {X : Type 0} (rows : Tables → List X) → ((t : Tables) → HasTables t (state g old).now → AnswersJust g sql params (state g old).now (map one_shown (rows t))) → (count : Tables → ℕ) → ((t : Tables) → length (rows t) ≡ count t)
      → (r : Result ℕ Fault) → CountsAll g old new sql params r → LooksUp g old new r (λ t found. found ≡ count t) (λ _. ⊤) (λ _. ⊥)
  counted rows just count long r looks =
      looks_as g old new (AnswersJust g sql params (state g old).now) (λ t. HasTables t (state g old).now) (λ t. map one_shown (rows t)) just r _ _ _ _ _ (λ t found same. same ∙ length-map (rows t) one_shown ∙ long t) (λ t out. out) looks
