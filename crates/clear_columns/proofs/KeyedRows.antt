-- Several rows that one statement adds to a table whose rows stand under keys.
use Rattle.clear_columns.proofs.Words.{◌≡◌, ◌/◌, ℤ, ℕ, Bool, true, false, not, ◌&&◌, List, [], ◌∷◌, length, map, drop, refl, sym, ap, subst, ◌∙◌, is_eq, list_any, cast_row, Insert, edit_of, with_rowid, IsRefused, value_rows, Row, stamped, Chosen, Values, State, Ghosts, Table, Term, Trees, rowid, Null, insert_by, Has, some_from, agree, passes, Check, Datatype, NotNull, Enforced, is_key, with_row, Tables, IsEdited, apart_if, insert_violates, inserted, HasTables, by_key, IsBroken, IsDone, all_tables, store_schema, refer_to_none, sound_by_schema, by_key_total, key_is, is_held, Result, Held, state, Fault, Runs, Writes, writes, keyed_row}
use Rattle.std.specs.List.{AllByRecursion}
use Rattle.sqlite_keyed.specs.Keyed.{next_key, has_key}
use Rattle.sqlite_keyed.proofs.KeyedLemmas.{next_key_is_free}
use Rattle.sqlite_rules.proofs.ListLemmas.{all_has, all_from}
use Rattle.sqlite_rules.specs.declared.error.Refusal.TheVariants as why
use Rattle.sqlite_schema.specs.Rules.{Keeps, differ}
use Rattle.sqlite_schema.specs.declared.schema.Constraint.{Constraint}
use Rattle.sqlite_schema.specs.declared.schema.Constraint.TheVariants.{Unique, PrimaryKey, ForeignKey}
use Rattle.sqlite_value.specs.Keys.{plain as plain_order}
use Rattle.clear_rows.proofs.Edits.{appended_is, appended_row}
use Rattle.clear_rows.proofs.Held.{number, key_was_free, held-insert}
use Rattle.clear_rows.specs.Refused.{IsHeldIn}
use Rattle.clear_schema.specs.Held.{HasKeyed}
use Rattle.clear_columns.proofs.KeyLemmas.{found_any, none_found, placed as at_its_place}
use Rattle.clear_columns.proofs.Says.{Says, is, plain}
use Rattle.std.proofs.Common.{◌≢◌}
use Rattle.std.specs.Prelude.{⊤}
use Rattle.std.proofs.lemmas.Bool.{and_from, and_parts, both_ways, or_parts}
use Rattle.std.specs.List.{list_all}
use Rattle.sqlite.specs.Edit.{put_all, numbered, are_fresh, is_taken}
use Rattle.sqlite.specs.Tree.{put_row, with_tree}
use Rattle.sqlite_rules.proofs.TableLemmas.{put_all_keeps}
use Rattle.clear_rows.proofs.Edits.{taken_is}
use Rattle.clear_rows.proofs.Held.{key_was_free}
use Rattle.clear_rows.proofs.Refused.{held_if_broken, these, not_those}
use Rattle.clear_values.specs.Keyed.{with_rows}
use Rattle.clear_columns.proofs.KeyedTable.{KeyedTable, is_listed, UniqueKey, IsKeptBy, no_clash, holds, none_from}
use Rattle.clear_columns.specs.Keys.{are_held}

-- rows of which no two agree in columns
abbrev Apart : List ℕ → List Row → Type 0
Apart columns tree = AllByRecursion (λ row. list_any (λ other. agree plain_order columns other columns row && differ (rowid other) (rowid row)) tree ≡ false) tree

-- none of them passes where none does
none_at : {X : Type 0} (p : X → Bool) (xs : List X) (x : X) → list_any p xs ≡ false → Has xs x → p x ≡ false
none_at p xs x none there = told (p x) refl
  where
    told : (b : Bool) → p x ≡ b → p x ≡ false
    told true e = absurd (both_ways _ none (some_from p xs x there e))
    told false e = e

-- so it is of some of the rows
apart_in : (columns : List ℕ) (small large : List Row) → ((r : Row) → Has small r → Has large r) → Apart columns large → Apart columns small
apart_in columns small large within apart =
    all_from (λ row. list_any (λ other. agree plain_order columns other columns row && differ (rowid other) (rowid row)) small ≡ false) small (λ row known.
    let clash = λ (other : Row). agree plain_order columns other columns row && differ (rowid other) (rowid row) in
    none_from clash small (λ other there. none_at clash large other (all_has (λ row. list_any (λ other. agree plain_order columns other columns row && differ (rowid other) (rowid row)) large ≡ false) large row apart (within row known)) (within other there)))

module _ {X : Type 0} (it : KeyedTable X) where
  abbrev to_row : ℤ × X → Row
  to_row = keyed_row it.given

  -- the row as it stands behind those of a tree
  abbrev next_row : List Row → X → Row
  next_row tree x = with_rowid Chosen tree (cast_row it.table (drop 0 (Null ∷ it.given x)))

  -- the tree with it
  abbrev with_next : List Row → X → List Row
  with_next tree x = put_row (next_row tree x) tree

  -- the rows as they stand, one after another
  abbrev next_rows : List Row → List X → List Row
  next_rows tree xs = numbered Chosen tree (map (λ s. cast_row it.table (drop 0 s)) (map (λ x. Null ∷ it.given x) xs))

  -- one more row
  module _ (rows : List X) (tree : List Row) (kept : HasKeyed it.key it.given rows tree) (x : X) where
    abbrev n : ℤ
    n = next_key number kept.numbered

    free : has_key number kept.numbered n ≡ false
    free = next_key_is_free number kept.numbered kept.stored.keyed

    row_is : next_row tree x ≡ to_row (n, x)
    row_is = appended_row number to_row (λ _. refl) (λ _. tree) it.table kept.numbered kept.stored (Null ∷ it.given x) (n, x) (it.stored x) refl

    tree_is : with_next tree x ≡ map to_row (insert_by number kept.numbered (n, x))
    tree_is = appended_is number to_row (λ _. refl) (λ _. tree) it.table kept.numbered kept.stored (Null ∷ it.given x) (n, x) (it.stored x) refl

    is_new : is_taken tree (next_row tree x) ≡ false
    is_new = ap (is_taken tree) row_is ∙ ap (λ l. is_taken l (to_row (n, x))) kept.stored.is ∙ taken_is number to_row (λ _. refl) (λ _. tree) it.table kept.numbered kept.stored kept.numbered (n, x) ∙ free

    goes : AllByRecursion (λ y. is_eq (by_key it.key x y) ≡ false) rows → HasKeyed it.key it.given (with_row it.key rows x) (with_next tree x)
    goes apart = subst (λ l. HasKeyed it.key it.given l (with_next tree x)) (at_its_place it.key x rows apart) (held-insert (by_key it.key) to_row (by_key_total it.key) x rows tree (with_next tree x) kept n free apart tree_is)

    -- no key of it is held where the tree with it keeps the indexes
    apart_from_all : ((k : UniqueKey X) → Has it.keys k → Apart k.index.columns (with_next tree x)) → (k : UniqueKey X) → Has it.keys k → AllByRecursion (λ y. is_eq (by_key k.of x y) ≡ false) rows
    apart_from_all apart k listed =
        let by = all_has (IsKeptBy it.given) it.keys k it.kept_by listed in
        key_was_free (by_key k.of) to_row (λ _. refl) k.index.columns by.agrees (by_key_total k.of) rows kept.numbered (n, x) free kept.same (subst (Apart k.index.columns) tree_is (apart k listed))

  -- ---- what was done

  -- where the tree with all rows keeps the indexes, each row went to its place
  all_go : (xs rows : List X) (tree : List Row) (kept : HasKeyed it.key it.given rows tree) → are_fresh tree (next_rows tree xs) ≡ true → ((k : UniqueKey X) → Has it.keys k → Apart k.index.columns (put_all tree (next_rows tree xs)))
      → HasKeyed it.key it.given (with_rows it.key rows xs) (put_all tree (next_rows tree xs)) × (are_held it.held it.key xs rows ≡ false)
  all_go [] rows tree kept fresh apart = (kept, refl)
  all_go (x ∷ xs) rows tree kept fresh apart =
      let later = (and_parts _ _ fresh).1 in
      let each = apart_from_all rows tree kept x (λ k listed. apart_in k.index.columns (with_next tree x) _ (λ r there. put_all_keeps (next_rows (with_next tree x) xs) (with_next tree x) r later there) (apart k listed)) in
      let rest = all_go xs (with_row it.key rows x) (with_next tree x) (goes rows tree kept x (each (record { of = it.key; index = it.leads.0 }) it.leads.1)) later apart in
      let none : it.held x rows ≡ false = it.held_is x rows ∙ none_from (λ (k : UniqueKey X). is_held k.of x rows) it.keys (λ k listed. none_found k.of x rows (each k listed)) in
      (rest.0, rw none rest.1)

  -- ---- why it is refused

  -- rows that are given the next numbers, and clash with none before them
  abbrev AreNext : List X → List Row → Type 0
  AreNext [] tree = ⊤
  AreNext (x ∷ xs) tree = ((n : ℤ) × (next_row tree x ≡ to_row (n, x)) × (is_taken tree (next_row tree x) ≡ false) × (IsHeldIn store_schema it.table tree (next_row tree x) → ⊥)) × AreNext xs (with_next tree x)

  -- such are rows of which none is held
  next_if_free : (xs rows : List X) (tree : List Row) → HasKeyed it.key it.given rows tree → are_held it.held it.key xs rows ≡ false → AreNext xs tree
  next_if_free [] rows tree kept none = tt
  next_if_free (x ∷ xs) rows tree kept none =
      let parts = or_parts _ _ none in
      let row = row_is rows tree kept x in
      let unheld = λ (h : IsHeldIn store_schema it.table tree (next_row tree x)). both_ways _ parts.0 (holds it rows (λ _. tree) kept x (subst (IsHeldIn store_schema it.table tree) row h)) in
      ((n rows tree kept x, row, is_new rows tree kept x, unheld), next_if_free xs (with_row it.key rows x) (with_next tree x) (goes rows tree kept x (apart parts.0)) parts.1)
    where
      -- the first key is one of those that are not held
      first_free : it.held x rows ≡ false → is_held it.key x rows ≡ false
      first_free free = none_at (λ (k : UniqueKey X). is_held k.of x rows) it.keys (record { of = it.key; index = it.leads.0 }) (sym (it.held_is x rows) ∙ free) it.leads.1

      apart : it.held x rows ≡ false → AllByRecursion (λ y. is_eq (by_key it.key x y) ≡ false) rows
      apart free = all_from (λ y. is_eq (by_key it.key x y) ≡ false) rows (λ y there. sym (key_is it.key x y) ∙ none_at (λ y. is_key (it.key y) (it.key x)) rows y (sym (found_any it.key rows (it.key x)) ∙ first_free free) there)

  all_fresh : (xs : List X) (tree : List Row) → AreNext xs tree → are_fresh tree (next_rows tree xs) ≡ true
  all_fresh [] tree next = refl
  all_fresh (x ∷ xs) tree next = and_from _ _ (ap not next.0.2) (all_fresh xs (with_next tree x) next.1)

  all_pass_by : (p : Row → Bool) → ((y : ℤ × X) → p (to_row y) ≡ true) → (xs : List X) (tree : List Row) → AreNext xs tree → list_all p (next_rows tree xs) ≡ true
  all_pass_by p each [] tree next = refl
  all_pass_by p each (x ∷ xs) tree next = and_from _ _ (ap p next.0.1 ∙ each (next.0.0, x)) (all_pass_by p each xs (with_next tree x) next.1)

  module _ (db : Trees) where
    abbrev trees_with : List Row → Trees
    trees_with tree = with_tree db it.table.tree tree

    -- the indexes are kept with one more row
    one_keeps : (x : X) (tree : List Row) (old : Trees) → old it.table.tree ≡ tree → ((t : Table) → Has all_tables t → t.tree ≢ it.table.tree → old t.tree ≡ db t.tree) → AreNext (x ∷ []) tree → Keeps Unique store_schema old → ¬ Keeps Unique store_schema (trees_with (with_next tree x)) → ⊥
    one_keeps x tree old is same next keeps broken =
        next.0.3 (subst (λ l. IsHeldIn store_schema it.table l (next_row tree x)) is
        (held_if_broken store_schema old (trees_with (with_next tree x)) it.table (is_listed it) (apart_if all_tables refl) keeps (next_row tree x) next.0.0 (ap rowid next.0.1)
        (these db it.table.tree (with_next tree x) ∙ ap (put_row (next_row tree x)) (sym is)) (λ t listed other. not_those db it.table.tree (with_next tree x) t.tree other ∙ sym (same t listed other)) broken))

    -- and so with all, one after another
    all_keep : (x : X) (xs : List X) (tree : List Row) (old : Trees) → old it.table.tree ≡ tree → ((t : Table) → Has all_tables t → t.tree ≢ it.table.tree → old t.tree ≡ db t.tree) → AreNext (x ∷ xs) tree → Keeps Unique store_schema old → ¬ Keeps Unique store_schema (trees_with (put_all tree (next_rows tree (x ∷ xs)))) → ⊥
    all_keep x [] tree old is same next keeps breaks = one_keeps x tree old is same (next.0, tt) keeps breaks
    all_keep x (y ∷ ys) tree old is same next keeps breaks =
        one_keeps x tree old is same (next.0, tt) keeps (λ kept. all_keep y ys (with_next tree x) (trees_with (with_next tree x)) (these db it.table.tree (with_next tree x)) (λ t listed other. not_those db it.table.tree (with_next tree x) t.tree other) next.1 kept breaks)

    -- so such rows are refused for no rule
    never : (x : X) (xs : List X) → AreNext (x ∷ xs) (db it.table.tree) → Keeps Unique store_schema db → (rule : Constraint) → IsRefused store_schema Enforced db (edit_of db it.table [] Chosen 0 (map (λ x. Null ∷ it.given x) (x ∷ xs))) (why.Violates rule) → ⊥
    never x xs next keeps Datatype bad = both_ways _ bad (all_pass_by (passes Datatype store_schema db it.table) (it.typed db) (x ∷ xs) _ next)
    never x xs next keeps NotNull bad = both_ways _ bad (all_pass_by (passes NotNull store_schema db it.table) (it.present db) (x ∷ xs) _ next)
    never x xs next keeps Check bad = both_ways _ bad (all_pass_by (passes Check store_schema db it.table) (it.checked db) (x ∷ xs) _ next)
    never x xs next keeps PrimaryKey bad = both_ways _ bad (all_fresh (x ∷ xs) _ next)
    never x xs next keeps Unique bad = all_keep x xs (db it.table.tree) db refl (λ t listed other. refl) next keeps bad
    never x xs next keeps ForeignKey bad = bad

  -- ---- the statement

  module _ (t : Tables) (old new : State) (has : HasTables t old.now) {sql : List ℕ} {terms : List Term} {width : ℕ} (says : Says sql (Insert it.at (Values terms width))) (params : Row) (x : X) (xs : List X)
      (given : value_rows (stamped it.table params) width (length terms / width) terms ≡ map (λ x. Null ∷ it.given x) (x ∷ xs)) where
    abbrev db_then : Trees
    db_then = old.now.trees

    abbrev kept_then : HasKeyed it.key it.given (it.rows t) (db_then it.table.tree)
    kept_then = it.has t old.now has

    -- each goes to its place, and nothing else changes
    pub inserts_all : IsDone sql params old new → HasTables (it.with_those t (with_rows it.key (it.rows t) (x ∷ xs))) new.now × (are_held it.held it.key (x ∷ xs) (it.rows t) ≡ false)
    inserts_all ran =
        let made : IsEdited store_schema old new (edit_of db_then it.table [] Chosen 0 (map (λ x. Null ∷ it.given x) (x ∷ xs))) = subst (λ rows. IsEdited store_schema old new (edit_of db_then it.table [] Chosen 0 rows)) given (inserted store_schema it.at it.table it.placed (λ _ _. refl) sql params old new has.schema (plain says) ran.0 ran.1 terms width it.uncounted (is says)) in
        let apart = λ (k : UniqueKey X) (listed : Has it.keys k). subst (Apart k.index.columns) made.applied.rows (no_clash it new.now.trees (made.applied.fits.rules Unique (λ e. cc)) k listed) in
        let done = all_go (x ∷ xs) (it.rows t) (db_then it.table.tree) kept_then made.applied.fresh apart in
        (it.changed t old.now new.now has made.schema_is made.sound _ made.applied.tables (subst (HasKeyed it.key it.given (with_rows it.key (it.rows t) (x ∷ xs))) (sym made.applied.rows) done.0), done.1)

    -- it is refused only where a key of one is held
    pub refused_all : IsBroken sql params old new → are_held it.held it.key (x ∷ xs) (it.rows t) ≡ true
    refused_all (rule, ran) =
        let bad = subst (λ rows. IsRefused store_schema Enforced db_then (edit_of db_then it.table [] Chosen 0 rows) (why.Violates rule)) given (insert_violates store_schema it.at it.table it.placed (λ _ _. refl) refer_to_none sql params old new has.schema (plain says) rule ran terms width it.uncounted (is says)) in
        told (are_held it.held it.key (x ∷ xs) (it.rows t)) refl bad
      where
        told : (b : Bool) → are_held it.held it.key (x ∷ xs) (it.rows t) ≡ b → IsRefused store_schema Enforced db_then (edit_of db_then it.table [] Chosen 0 (map (λ x. Null ∷ it.given x) (x ∷ xs))) (why.Violates rule) → are_held it.held it.key (x ∷ xs) (it.rows t) ≡ true
        told true e bad = e
        told false e bad = absurd (never db_then x xs (next_if_free (x ∷ xs) (it.rows t) (db_then it.table.tree) kept_then e) ((sound_by_schema t old.now has).obeys.rules Unique) rule bad)

  -- so a statement that was run with rows puts them in
  pub puts_all : {S A : Type 0} (g : Ghosts S) (old new : Held S) {sql : List ℕ} {terms : List Term} {width : ℕ} → Says sql (Insert it.at (Values terms width)) → (params : Row) (x : X) (xs : List X) → value_rows (stamped it.table params) width (length terms / width) terms ≡ map (λ x. Null ∷ it.given x) (x ∷ xs)
      → (r : Result A Fault) (good : Type 0) → good → Runs g old new sql params r → Writes g old new r good (λ t. are_held it.held it.key (x ∷ xs) (it.rows t)) (λ t. it.with_those t (with_rows it.key (it.rows t) (x ∷ xs)))
  puts_all g old new {sql} says params x xs given r good within runs =
      writes g old new sql params r good _ _ within (λ t has ran. inserts_all t (state g old) (state g new) has says params x xs given ran) (λ t has broke. refused_all t (state g old) (state g new) has says params x xs given broke) runs
