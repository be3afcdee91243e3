-- What the statements on a table do whose rows stand under keys, beside numbers that are chosen,
-- whatever the table is.
use Rattle.clear_columns.proofs.Words.{◌≡◌, ◌≤◌, ◌/◌, ℤ, ℕ, Bool, true, false, not, ◌&&◌, ◌||◌, List, [], ◌∷◌, Some, Less, length, map, filter, drop, refl, sym, ap, subst, ◌∙◌, inl, inr, is_eq, slice_get, IsPermutation, map-id, true≢false, length-map, IsPermutation-map, list_any, cast_row, Delete, Insert, Update, edit_of, with_rowid, IsRefused, Answers, Database, IsDatabase, value_rows, Row, output, output_cmp, stamped, Chosen, Values, State, Ghosts, Table, Term, col, Trees, rowid, Int, Null, insert_by, update_where, ids_of, IsPermutation-filter, Has, some_from, agree, guards, passes, Check, Datatype, NotNull, Index, Enforced, Key, is_key, with_row, Tables, IsEdited, meets, plain_program, plain_query, content, update_harmless, update_violates, in_order, one_row, shown_in_some_order, apart_if, held_if_refused, insert_violates, inserted, updated, HasTables, by_key, IsBroken, IsDone, all_indexes, all_tables, store_schema, refer_to_none, sound_by_schema, Others, by_key_total, key_is, answers_just, all_pass, is_held, Result, Held, state, Fault, AnswersJust, Runs, Writes, writes, keyed_row, cast_int, find_row, Option}
use Rattle.std.proofs.lemmas.Bool.{not-true}
use Rattle.std.proofs.lemmas.List.Sorted.{IsPermutation-trans, IsPermutation-sym}
use Rattle.std.specs.List.{AllByRecursion}
use Rattle.sqlite.specs.declared.types.Value.{Value}
use Rattle.sqlite_keyed.specs.Keyed.{next_key, has_key}
use Rattle.sqlite_keyed.specs.Lists.{delete_where}
use Rattle.sqlite_keyed.proofs.KeyedLemmas.{next_key_is_free}
use Rattle.sqlite_rules.proofs.ListLemmas.{all_has, all_from, has_filtered, has_got, has_kept, some_has, test_has}
use Rattle.sqlite_rules.specs.declared.error.Refusal.TheVariants as why
use Rattle.sqlite_schema.specs.Rules.{Keeps, clashes, differ}
use Rattle.sqlite_schema.specs.declared.schema.Constraint.TheVariants.{Unique}
use Rattle.sqlite_value.specs.Keys.{plain as plain_order}
use Rattle.clear_rows.proofs.Edits.{appended_is, appended_row, deleted_is}
use Rattle.clear_rows.proofs.Held.{number, key_was_free, held-delete_where, held-insert}
use Rattle.clear_rows.proofs.KeepsKeys.{delete_never, delete_violates}
use Rattle.clear_rows.proofs.Refused.{has_mapped, key_held}
use Rattle.clear_rows.specs.Refused.{IsHeldIn}
use Rattle.clear_rows.proofs.Statements.{deleted}
use Rattle.clear_schema.proofs.FrameLemmas.{finds as finds_first, writes_as}
use Rattle.clear_schema.specs.Frame.{Finds, FindsFirst}
use Rattle.clear_schema.specs.Held.{HasKeyed}
use Rattle.clear_columns.proofs.KeyLemmas.{first_found, found_any, none_found, one_found, placed as at_its_place}
use Rattle.clear_columns.proofs.HeldLemmas.{few_numbered, held_updated, updated_rows}
use Rattle.clear_columns.proofs.Says.{Says, SaysQuery, is, is_query, plain, plain_query_text, unlisted_query}

-- a key of rows of a type, and the index that keeps it unique
pub record UniqueKey (X : Type 0) : Type 0 where
  pub of : X → List ℕ
  pub index : Index

-- the index compares as the keys do
pub record IsKeptBy {X : Type 0} (given : X → Row) (k : UniqueKey X) : Type 0 where
  pub order : k.index.order ≡ plain_order
  pub agrees : (a b : ℤ × X) → agree plain_order k.index.columns (keyed_row given a) k.index.columns (keyed_row given b) ≡ is_eq (by_key k.of (content b) (content a))

-- a row with what it becomes, beside its number
abbrev pub turned : {X : Type 0} → (X → X) → ℤ × X → ℤ × X
turned f y = (number y, f (content y))

-- a change of rows leaves what the index goes by
abbrev pub KeepsKey : {X : Type 0} → (X → Row) → (X → X) → UniqueKey X → Type 0
KeepsKey {X} given f k = (y : ℤ × X) (r : Row) → agree plain_order k.index.columns r k.index.columns (keyed_row given (turned f y)) ≡ true → agree plain_order k.index.columns r k.index.columns (keyed_row given y) ≡ true

-- a table of the schema whose rows stand under keys; they rise by the first of these
pub record KeyedTable (X : Type 0) : Type 0 where
  pub at : ℕ
  pub table : Table
  pub rows : Tables → List X
  pub with_those : Tables → List X → Tables
  pub key : X → List ℕ
  pub keys : List (UniqueKey X)
  -- what a statement is given of a row
  pub given : X → Row
  -- whether a key of the row is held
  pub held : X → List X → Bool
  pub held_is : (x : X) (xs : List X) → held x xs ≡ list_any (λ (k : UniqueKey X). is_held k.of x xs) keys
  -- the key leads in an index of its own
  pub leads : (i : Index) × Has keys (record { of = key; index = i })
  pub placed : slice_get all_tables at ≡ Some table
  pub uncounted : table.is_counted ≡ false
  pub guarded : filter (λ (i : Index). guards i table) all_indexes ≡ map (λ (k : UniqueKey X). k.index) keys
  pub kept_by : AllByRecursion (IsKeptBy given) keys
  pub stored : (x : X) → cast_row table (Null ∷ given x) ≡ Null ∷ given x
  pub typed : (db : Trees) (y : ℤ × X) → passes Datatype store_schema db table (keyed_row given y) ≡ true
  pub present : (db : Trees) (y : ℤ × X) → passes NotNull store_schema db table (keyed_row given y) ≡ true
  pub checked : (db : Trees) (y : ℤ × X) → passes Check store_schema db table (keyed_row given y) ≡ true
  pub has : (t : Tables) (db : Database) → HasTables t db → HasKeyed key given (rows t) (db.trees table.tree)
  pub changed : (t : Tables) (old new : Database) → HasTables t old → new.schema ≡ store_schema → IsDatabase new → (xs : List X) → Others table.tree old.trees new.trees → HasKeyed key given xs (new.trees table.tree) → HasTables (with_those t xs) new

-- the schema has it
pub is_listed : {X : Type 0} (it : KeyedTable X) → Has all_tables it.table
is_listed it = has_got all_tables it.at it.table it.placed

maps_has : {X Z : Type 0} (f : X → Z) (xs : List X) (x : X) → Has xs x → Has (map f xs) (f x)
maps_has f [] x h = absurd h
maps_has f (y ∷ xs) x (inl same) = inl (ap f same)
maps_has f (y ∷ xs) x (inr later) = inr (maps_has f xs x later)

off : (a b : Bool) → a ≡ true → not (a && b) ≡ true → b ≡ false
off true b on h = not-true b h
off false b on h = absurd (true≢false (sym on))

-- where there is one key, it is the one that is held
pub or_false : (b : Bool) → b ≡ (b || false)
or_false true = refl
or_false false = refl

-- none of several passes
pub none_from : {X : Type 0} (p : X → Bool) (xs : List X) → ((x : X) → Has xs x → p x ≡ false) → list_any p xs ≡ false
none_from p [] each = refl
none_from p (x ∷ xs) each = rw (each x (inl refl)) (none_from p xs (λ y h. each y (inr h)))

module _ {X : Type 0} (it : KeyedTable X) where
  -- the columns take a row as it is, beside any number
  stored_beside : (y : ℤ × X) → cast_row it.table (keyed_row it.given y) ≡ keyed_row it.given y
  stored_beside y = ap (λ (v : Value). v ∷ drop 1 (cast_row it.table (keyed_row it.given y))) (cast_int (number y)) ∙ ap (λ (r : Row). Int (number y) ∷ drop 1 r) (it.stored (content y))

  -- an index of the table keeps one of the keys
  which : (i : Index) → Has all_indexes i → guards i it.table ≡ true → (k : UniqueKey X) × Has it.keys k × (i ≡ k.index)
  which i listed on = has_mapped (λ (k : UniqueKey X). k.index) it.keys i (subst (λ l. Has l i) it.guarded (has_kept (λ (i : Index). guards i it.table) all_indexes i listed on))

  -- no two rows of a tree that keeps the indexes clash in one of the keys
  pub no_clash : (trees : Trees) → Keeps Unique store_schema trees → (k : UniqueKey X) → Has it.keys k
      → AllByRecursion (λ row. list_any (λ other. agree plain_order k.index.columns other k.index.columns row && differ (rowid other) (rowid row)) (trees it.table.tree) ≡ false) (trees it.table.tree)
  no_clash trees keeps k listed =
      let tree = trees it.table.tree in
      let index = has_filtered (λ (i : Index). guards i it.table) all_indexes k.index (subst (λ l. Has l k.index) (sym it.guarded) (maps_has (λ (k : UniqueKey X). k.index) it.keys k listed)) in
      let by = all_has (IsKeptBy it.given) it.keys k it.kept_by listed in
      all_from (λ row. list_any (λ other. agree plain_order k.index.columns other k.index.columns row && differ (rowid other) (rowid row)) tree ≡ false) tree (λ row known.
      subst (λ o. clashes o k.index.columns tree row ≡ false) by.order (off (guards k.index it.table) (clashes k.index.order k.index.columns tree row) index.1
      (test_has (λ i. not (guards i it.table && clashes i.order i.columns tree row)) all_indexes k.index
      (all_has (λ row. passes Unique store_schema trees it.table row ≡ true) tree row (all_has (λ (u : Table). AllByRecursion (λ row. passes Unique store_schema trees u row ≡ true) (trees u.tree)) all_tables it.table keeps (is_listed it)) known) index.0)))

  -- where a row that is given the next number clashes with those of a tree, a key of it is held
  pub holds : (rows : List X) (trees : Trees) (kept : HasKeyed it.key it.given rows (trees it.table.tree)) (x : X) → IsHeldIn store_schema it.table (trees it.table.tree) (keyed_row it.given (next_key number kept.numbered, x)) → it.held x rows ≡ true
  holds rows trees kept x taken =
      let q = λ (k : UniqueKey X) (y : X). is_key (k.of y) (k.of x) in
      let free = next_key_is_free number kept.numbered kept.stored.keyed in
      let any = key_held (by_key it.key) (keyed_row it.given) (λ _. refl) trees it.table rows kept store_schema (next_key number kept.numbered) x (λ y. list_any (λ k. q k y) it.keys) free (shares q (λ k y same. key_is k.of x y ∙ same)) taken in
      let row_of = some_has (λ y. list_any (λ k. q k y) it.keys) rows any in
      let key_of = some_has (λ k. q k row_of.0) it.keys row_of.2 in
      told key_of.0 key_of.1 (some_from (q key_of.0) rows row_of.0 row_of.1 key_of.2)
    where
      told : (k : UniqueKey X) → Has it.keys k → list_any (λ (y : X). is_key (k.of y) (k.of x)) rows ≡ true → it.held x rows ≡ true
      told k listed any = it.held_is x rows ∙ some_from (λ (k : UniqueKey X). is_held k.of x rows) it.keys k listed (found_any k.of rows (k.of x) ∙ any)

      shares : (q : UniqueKey X → X → Bool) → ((k : UniqueKey X) (y : X) → is_eq (by_key k.of x y) ≡ true → q k y ≡ true) → (i : Index) → Has all_indexes i → guards i it.table ≡ true → (y : ℤ × X) → agree i.order i.columns (keyed_row it.given y) i.columns (keyed_row it.given (next_key number kept.numbered, x)) ≡ true
          → list_any (λ k. q k (content y)) it.keys ≡ true
      shares q says_so i listed on y same =
          let k = which i listed on in
          let by = all_has (IsKeptBy it.given) it.keys k.0 it.kept_by k.1 in
          let here = subst (λ o. agree o k.0.index.columns (keyed_row it.given y) k.0.index.columns (keyed_row it.given (next_key number kept.numbered, x)) ≡ true) by.order (subst (λ (i : Index). agree i.order i.columns (keyed_row it.given y) i.columns (keyed_row it.given (next_key number kept.numbered, x)) ≡ true) k.2 same) in
          some_from (λ k. q k (content y)) it.keys k.0 k.1 (says_so k.0 (content y) (sym (by.agrees y (next_key number kept.numbered, x)) ∙ here))

  module _ (t : Tables) (old new : State) (has : HasTables t old.now) {sql : List ℕ} {terms : List Term} {width : ℕ} (says : Says sql (Insert it.at (Values terms width))) (params : Row) (x : X)
      (given : value_rows (stamped it.table params) width (length terms / width) terms ≡ (Null ∷ it.given x) ∷ []) where
    abbrev db : Trees
    db = old.now.trees

    abbrev kept : HasKeyed it.key it.given (it.rows t) (db it.table.tree)
    kept = it.has t old.now has

    abbrev n : ℤ
    n = next_key number kept.numbered

    free : has_key number kept.numbered n ≡ false
    free = next_key_is_free number kept.numbered kept.stored.keyed

    module _ (ran : IsDone sql params old new) where
      made : IsEdited store_schema old new (edit_of db it.table [] Chosen 0 ((Null ∷ it.given x) ∷ []))
      made = subst (λ rows. IsEdited store_schema old new (edit_of db it.table [] Chosen 0 rows)) given (inserted store_schema it.at it.table it.placed (λ _ _. refl) sql params old new has.schema (plain says) ran.0 ran.1 terms width it.uncounted (is says))

      rows_are : new.now.trees it.table.tree ≡ map (keyed_row it.given) (insert_by number kept.numbered (n, x))
      rows_are = made.applied.rows ∙ appended_is number (keyed_row it.given) (λ _. refl) db it.table kept.numbered kept.stored (Null ∷ it.given x) (n, x) (it.stored x) refl

      -- no other row has a key of the new one
      apart : (k : UniqueKey X) → Has it.keys k → AllByRecursion (λ y. is_eq (by_key k.of x y) ≡ false) (it.rows t)
      apart k listed =
          let by = all_has (IsKeptBy it.given) it.keys k it.kept_by listed in
          let each = no_clash new.now.trees (made.applied.fits.rules Unique (λ e. cc)) k listed in
          key_was_free (by_key k.of) (keyed_row it.given) (λ _. refl) k.index.columns by.agrees (by_key_total k.of) (it.rows t) kept.numbered (n, x) free kept.same
          (subst (λ rows. AllByRecursion (λ row. list_any (λ other. agree plain_order k.index.columns other k.index.columns row && differ (rowid other) (rowid row)) rows ≡ false) rows) rows_are each)

      -- so it goes to its place, and nothing else changes
      pub inserts : HasTables (it.with_those t (with_row it.key (it.rows t) x)) new.now × (it.held x (it.rows t) ≡ false)
      inserts =
          let first = apart (record { of = it.key; index = it.leads.0 }) it.leads.1 in
          let put = held-insert (by_key it.key) (keyed_row it.given) (by_key_total it.key) x (it.rows t) _ _ kept n free first rows_are in (
            it.changed t old.now new.now has made.schema_is made.sound _ made.applied.tables (subst (λ l. HasKeyed it.key it.given l (new.now.trees it.table.tree)) (at_its_place it.key x (it.rows t) first) put),
            it.held_is x (it.rows t) ∙ none_from (λ (k : UniqueKey X). is_held k.of x (it.rows t)) it.keys (λ k listed. none_found k.of x (it.rows t) (apart k listed)),
          )

    -- it is refused only where a key of it is held
    pub refused : IsBroken sql params old new → it.held x (it.rows t) ≡ true
    refused (rule, ran) =
        let bad = subst (λ rows. IsRefused store_schema Enforced db (edit_of db it.table [] Chosen 0 rows) (why.Violates rule)) given (insert_violates store_schema it.at it.table it.placed (λ _ _. refl) refer_to_none sql params old new has.schema (plain says) rule ran terms width it.uncounted (is says)) in
        let row : with_rowid Chosen (db it.table.tree) (cast_row it.table (Null ∷ it.given x)) ≡ keyed_row it.given (n, x) = appended_row number (keyed_row it.given) (λ _. refl) db it.table kept.numbered kept.stored (Null ∷ it.given x) (n, x) (it.stored x) refl in
        let one : IsRefused store_schema Enforced db (record { table = it.table; gone = []; news = keyed_row it.given (n, x) ∷ [] }) (why.Violates rule) = subst (λ r. IsRefused store_schema Enforced db (record { table = it.table; gone = []; news = r ∷ [] }) (why.Violates rule)) row bad in
        let taken = held_if_refused store_schema db it.table (is_listed it) (apart_if all_tables refl) (sound_by_schema t old.now has) (keyed_row it.given (n, x)) n (refl) (it.typed db (n, x)) (it.present db (n, x)) (it.checked db (n, x)) rule one in
        holds (it.rows t) db kept x taken

  -- so a statement that was run with a row puts it in
  pub puts : {S A : Type 0} (g : Ghosts S) (old new : Held S) {sql : List ℕ} {terms : List Term} {width : ℕ} → Says sql (Insert it.at (Values terms width)) → (x : X) → value_rows (stamped it.table (it.given x)) width (length terms / width) terms ≡ (Null ∷ it.given x) ∷ []
      → (r : Result A Fault) (good : Type 0) → good → Runs g old new sql (it.given x) r → Writes g old new r good (λ t. it.held x (it.rows t)) (λ t. it.with_those t (with_row it.key (it.rows t) x))
  puts g old new {sql} says x given r good within runs =
      writes g old new sql (it.given x) r good _ _ within (λ t has ran. inserts t (state g old) (state g new) has says (it.given x) x given ran) (λ t has broke. refused t (state g old) (state g new) has says (it.given x) x given broke) runs

  -- ---- another row in the place of one

  module _ (t : Tables) (old new : State) (has : HasTables t old.now) {sql : List ℕ} {conditions terms : List Term} (says : Says sql (Update it.at (plain_program it.table.tree conditions terms []))) (params : Row) (p : X → Bool) (f : X → X) (same_key : (x : X) → it.key (f x) ≡ it.key x)
      (stays : AllByRecursion (KeepsKey it.given f) it.keys) (tests : (y : ℤ × X) → meets conditions params (keyed_row it.given y) ≡ p (content y))
      (shows : (y : ℤ × X) → output (plain_query it.table.tree conditions terms []) (params ∷ keyed_row it.given y ∷ []) ≡ ([], Int (number y) ∷ keyed_row it.given (turned f y))) (few : length (filter p (it.rows t)) ≤ 1) where
    abbrev trees : Trees
    trees = old.now.trees

    abbrev held_so : HasKeyed it.key it.given (it.rows t) (trees it.table.tree)
    held_so = it.has t old.now has

    -- what its query shows
    abbrev show : ℤ × X → Row
    show y = Int (number y) ∷ keyed_row it.given (turned f y)

    meant : (rows : List Row) → Answers (record { schema = store_schema; trees = trees }) (plain_program it.table.tree conditions terms []) params rows → IsPermutation (map show (filter (λ y. p (content y)) held_so.numbered)) rows
    meant rows answer =
        subst (λ l. IsPermutation (map show (filter (λ (y : ℤ × X). p (content y)) l)) rows) (map-id held_so.numbered)
        (shown_in_some_order it.table.tree conditions terms [] params (keyed_row it.given) (λ y. y) (λ y. p (content y)) tests (λ y. ([], show y)) shows store_schema trees held_so.numbered held_so.stored.is rows answer)

    pub updates : IsDone sql params old new → HasTables (it.with_those t (update_where p f (it.rows t))) new.now
    updates ran =
        let made = updated store_schema it.at it.table it.placed (λ _ _. refl) sql params old new has.schema (plain says) ran.0 ran.1 _ (is says) in
        let rows = updated_rows it.key (keyed_row it.given) (λ _. refl) trees it.table (it.rows t) held_so p f same_key few made.0 show (λ _. refl) (λ y. stored_beside (turned f y)) (meant made.0 made.1) in
        let put = held_updated it.key (keyed_row it.given) (λ _. refl) trees it.table (it.rows t) held_so p f same_key (new.now.trees it.table.tree) (made.2.applied.rows ∙ rows) in
        it.changed t old.now new.now has made.2.schema_is made.2.sound _ made.2.applied.tables put

    -- it is refused for no rule
    pub turns : IsBroken sql params old new → ⊥
    turns (rule, ran) =
        let bad = update_violates store_schema it.at it.table it.placed (λ _ _. refl) refer_to_none sql params old new has.schema (plain says) rule ran _ (is says) in
        update_harmless number (keyed_row it.given) (λ _. refl) store_schema trees it.table held_so.numbered held_so.stored (is_listed it) (apart_if all_tables refl) (sound_by_schema t old.now has)
        bad.0 (λ y. p (content y)) (turned f) show (λ _. refl) (λ _. refl) (λ y. stored_beside (turned f y)) (few_numbered it.key (keyed_row it.given) (λ _. refl) trees it.table (it.rows t) held_so p f same_key few) (meant bad.0 bad.1)
        (λ y. it.typed trees (turned f y)) (λ y. it.present trees (turned f y)) (λ y. it.checked trees (turned f y)) same_keys rule bad.2
      where
        same_keys : (i : Index) → Has all_indexes i → guards i it.table ≡ true → (y : ℤ × X) (r : Row) → agree i.order i.columns r i.columns (keyed_row it.given (turned f y)) ≡ true → agree i.order i.columns r i.columns (keyed_row it.given y) ≡ true
        same_keys i listed on y r agreed =
            let k = which i listed on in
            let by = all_has (IsKeptBy it.given) it.keys k.0 it.kept_by k.1 in
            let keeps = all_has (KeepsKey it.given f) it.keys k.0 stays k.1 in
            let order : i.order ≡ plain_order = ap (λ (i : Index). i.order) k.2 ∙ by.order in
            let columns : i.columns ≡ k.0.index.columns = ap (λ (i : Index). i.columns) k.2 in
            let here = subst (λ l. agree plain_order l r l (keyed_row it.given (turned f y)) ≡ true) columns (subst (λ o. agree o i.columns r i.columns (keyed_row it.given (turned f y)) ≡ true) order agreed) in
            subst (λ o. agree o i.columns r i.columns (keyed_row it.given y) ≡ true) (sym order) (subst (λ l. agree plain_order l r l (keyed_row it.given y) ≡ true) (sym columns) (keeps y r here))

  -- ---- rows that go

  module _ (t : Tables) (old new : State) (has : HasTables t old.now) {sql : List ℕ} {conditions : List Term} (says : Says sql (Delete it.at (plain_program it.table.tree conditions (col 1 0 ∷ []) []))) (params : Row) (p : X → Bool) (tests : (y : ℤ × X) → meets conditions params (keyed_row it.given y) ≡ p (content y))
      (shows : (y : ℤ × X) → output (plain_query it.table.tree conditions (col 1 0 ∷ []) []) (params ∷ keyed_row it.given y ∷ []) ≡ ([], Int (number y) ∷ [])) where
    pub deletes : IsDone sql params old new → HasTables (it.with_those t (delete_where p (it.rows t))) new.now
    deletes ran =
        let made = deleted store_schema it.at it.table it.placed (λ _ _. refl) sql params old new has.schema (plain says) ran.0 ran.1 _ (is says) in
        let kept = it.has t old.now has in
        let show = λ (y : ℤ × X). Int (number y) ∷ [] in
        let q = λ (y : ℤ × X). p (content y) in
        let same : IsPermutation (map show (filter q kept.numbered)) made.0 =
        subst (λ l. IsPermutation (map show (filter q l)) made.0) (map-id kept.numbered)
        (shown_in_some_order it.table.tree conditions (col 1 0 ∷ []) [] params (keyed_row it.given) (λ y. y) q tests (λ y. ([], show y)) shows store_schema old.now.trees kept.numbered kept.stored.is made.0 made.1) in
        let rows = deleted_is number (keyed_row it.given) (λ _. refl) old.now.trees it.table kept.numbered kept.stored made.0 q show (λ _. refl) same in
        let left = held-delete_where (by_key it.key) (keyed_row it.given) p (it.rows t) _ _ kept (made.2.applied.rows ∙ rows) in
        it.changed t old.now new.now has made.2.schema_is made.2.sound _ made.2.applied.tables left

    pub goes : IsBroken sql params old new → ⊥
    goes (rule, ran) =
        let bad = delete_violates store_schema it.at it.table it.placed (λ _ _. refl) refer_to_none sql params old new has.schema (plain says) rule ran _ (is says) in
        delete_never store_schema old.now.trees it.table (is_listed it) (apart_if all_tables refl) (sound_by_schema t old.now has) (ids_of bad.0) rule bad.2

  -- so a statement that changes a row changes it
  pub sets : {S A : Type 0} (g : Ghosts S) (old new : Held S) {sql : List ℕ} {conditions terms : List Term} → Says sql (Update it.at (plain_program it.table.tree conditions terms [])) → (params : Row) (p : X → Bool) (f : X → X) → ((x : X) → it.key (f x) ≡ it.key x) → AllByRecursion (KeepsKey it.given f) it.keys
      → ((y : ℤ × X) → meets conditions params (keyed_row it.given y) ≡ p (content y)) → ((y : ℤ × X) → output (plain_query it.table.tree conditions terms []) (params ∷ keyed_row it.given y ∷ []) ≡ ([], Int (number y) ∷ keyed_row it.given (turned f y))) → ((t : Tables) (db : Database) → HasTables t db → length (filter p (it.rows t)) ≤ 1)
      → (r : Result A Fault) (good : Type 0) → good → Runs g old new sql params r → Writes g old new r good (λ _. false) (λ t. it.with_those t (update_where p f (it.rows t)))
  sets g old new {sql} says params p f same_key stays tests shows few r good within runs =
      writes g old new sql params r good _ _ within (λ t has ran. (updates t (state g old) (state g new) has says params p f same_key stays tests shows (few t _ has) ran, refl)) (λ t has broke. absurd (turns t (state g old) (state g new) has says params p f same_key stays tests shows (few t _ has) broke)) runs

  -- to what comes to the same
  pub sets_as : {S A : Type 0} (g : Ghosts S) (old new : Held S) {sql : List ℕ} {conditions terms : List Term} → Says sql (Update it.at (plain_program it.table.tree conditions terms [])) → (params : Row) (p : X → Bool) (f : X → X) → ((x : X) → it.key (f x) ≡ it.key x) → AllByRecursion (KeepsKey it.given f) it.keys
      → ((y : ℤ × X) → meets conditions params (keyed_row it.given y) ≡ p (content y)) → ((y : ℤ × X) → output (plain_query it.table.tree conditions terms []) (params ∷ keyed_row it.given y ∷ []) ≡ ([], Int (number y) ∷ keyed_row it.given (turned f y))) → ((t : Tables) (db : Database) → HasTables t db → length (filter p (it.rows t)) ≤ 1)
      → (to : Tables → List X) → ((t : Tables) → HasTables t (state g old).now → update_where p f (it.rows t) ≡ to t) → (r : Result A Fault) (good : Type 0) → good → Runs g old new sql params r → Writes g old new r good (λ _. false) (λ t. it.with_those t (to t))
  sets_as g old new says params p f same_key stays tests shows few to same r good within runs =
      writes_as g old new r good (λ _. false) (λ t. it.with_those t (update_where p f (it.rows t))) (λ t. it.with_those t (to t)) (λ t has. ap (it.with_those t) (same t has))
      (sets g old new says params p f same_key stays tests shows few r good within runs)

  -- and one that takes rows out leaves the others
  pub drops : {S A : Type 0} (g : Ghosts S) (old new : Held S) {sql : List ℕ} {conditions : List Term} → Says sql (Delete it.at (plain_program it.table.tree conditions (col 1 0 ∷ []) [])) → (params : Row) (p : X → Bool) → ((y : ℤ × X) → meets conditions params (keyed_row it.given y) ≡ p (content y))
      → ((y : ℤ × X) → output (plain_query it.table.tree conditions (col 1 0 ∷ []) []) (params ∷ keyed_row it.given y ∷ []) ≡ ([], Int (number y) ∷ [])) → (r : Result A Fault) (good : Type 0) → good → Runs g old new sql params r → Writes g old new r good (λ _. false) (λ t. it.with_those t (delete_where p (it.rows t)))
  drops g old new {sql} says params p tests shows r good within runs =
      writes g old new sql params r good _ _ within (λ t has ran. (deletes t (state g old) (state g new) has says params p tests shows ran, refl)) (λ t has broke. absurd (goes t (state g old) (state g new) has says params p tests shows broke)) runs

  -- of a key there is one row
  pub few : (t : Tables) (db : Database) → HasTables t db → (k : List ℕ) → length (filter (λ x. is_key (it.key x) k) (it.rows t)) ≤ 1
  few t db has k = one_found it.key (it.rows t) k (it.has t db has).rises

  -- ---- queries

  module _ {S : Type 0} (g : Ghosts S) (t : Tables) (db : Database) (has : HasTables t db) {sql : List ℕ} {conditions columns : List Term} (params : Row) (shown : X → Row) (p : X → Bool) (tests : (y : ℤ × X) → meets conditions params (keyed_row it.given y) ≡ p (content y)) where
    -- the rows that pass, in the order of their keys
    pub lists : {order : List (Term × Key)} → SaysQuery sql (plain_program it.table.tree conditions columns order) → (sorted : X → Row) → ((y : ℤ × X) → output (plain_query it.table.tree conditions columns order) (params ∷ keyed_row it.given y ∷ []) ≡ (sorted (content y), shown (content y)))
        → ((a b : X) → by_key it.key a b ≡ Less → output_cmp (plain_query it.table.tree conditions columns order) (sorted a, shown a) (sorted b, shown b) ≡ Less) → AnswersJust g sql params db (map shown (filter p (it.rows t)))
    lists {order} says sorted shows rises =
        let kept = it.has t db has in
        answers_just g says.names sql params store_schema (is_query says) (plain_query_text says) (unlisted_query says) db has.schema _
        (λ rows answer. in_order it.table.tree conditions columns order params (keyed_row it.given) content p tests (λ x. (sorted x, shown x)) shows db.schema db.trees kept.numbered kept.stored.is rows answer (by_key it.key) rises (it.rows t) kept.same kept.rises)

    -- the row of a key
    pub finds : SaysQuery sql (plain_program it.table.tree conditions columns []) → ((y : ℤ × X) → output (plain_query it.table.tree conditions columns []) (params ∷ keyed_row it.given y ∷ []) ≡ ([], shown (content y))) → length (filter p (it.rows t)) ≤ 1 → AnswersJust g sql params db (map shown (filter p (it.rows t)))
    finds says shows few =
        answers_just g says.names sql params store_schema (is_query says) (plain_query_text says) (unlisted_query says) db has.schema _ whole
      where
        whole : (rows : List Row) → Answers db (plain_program it.table.tree conditions columns []) params rows → rows ≡ map shown (filter p (it.rows t))
        whole rows answer =
            let kept = it.has t db has in
            let some : IsPermutation (map shown (filter p (map content kept.numbered))) rows = shown_in_some_order it.table.tree conditions columns [] params (keyed_row it.given) content p tests (λ x. ([], shown x)) shows db.schema db.trees kept.numbered kept.stored.is rows answer in
            let same = IsPermutation-trans _ _ _ (IsPermutation-sym _ _ (IsPermutation-map shown _ _ (IsPermutation-filter p _ _ kept.same))) some in
            one_row _ rows (subst (λ m. m ≤ 1) (sym (length-map (filter p (it.rows t)) shown)) few) same

  -- so a look finds it
  pub finds_one : {S : Type 0} (g : Ghosts S) (old new : Held S) {sql : List ℕ} {conditions columns : List Term} (params : Row) (shown : X → Row) (k : List ℕ) → ((y : ℤ × X) → meets conditions params (keyed_row it.given y) ≡ is_key (it.key (content y)) k) → SaysQuery sql (plain_program it.table.tree conditions columns [])
      → ((y : ℤ × X) → output (plain_query it.table.tree conditions columns []) (params ∷ keyed_row it.given y ∷ []) ≡ ([], shown (content y))) → (P : X → Type 0) (r : Result (Option X) Fault) → FindsFirst g old new shown P sql params r → Finds g old new r P (λ t. find_row it.key (it.rows t) k)
  finds_one g old new {sql} params shown k tests says shows P r =
      let p = λ (x : X). is_key (it.key x) k in
      finds_first g old new shown P sql params r (λ t. filter p (it.rows t)) (λ t. find_row it.key (it.rows t) k) (λ t. first_found it.key (it.rows t) k)
      (λ t has. finds g t (state g old).now has params shown p tests says shows (few t _ has k))

  -- all rows, in the order of their keys
  pub lists_all : {S : Type 0} (g : Ghosts S) (t : Tables) (db : Database) (has : HasTables t db) {sql : List ℕ} {conditions columns : List Term} (params : Row) (shown : X → Row) → ((y : ℤ × X) → meets conditions params (keyed_row it.given y) ≡ true) → {order : List (Term × Key)} → SaysQuery sql (plain_program it.table.tree conditions columns order)
      → (sorted : X → Row) → ((y : ℤ × X) → output (plain_query it.table.tree conditions columns order) (params ∷ keyed_row it.given y ∷ []) ≡ (sorted (content y), shown (content y)))
      → ((a b : X) → by_key it.key a b ≡ Less → output_cmp (plain_query it.table.tree conditions columns order) (sorted a, shown a) (sorted b, shown b) ≡ Less) → AnswersJust g sql params db (map shown (it.rows t))
  lists_all g t db has {sql} params shown tests says sorted shows rises = subst (λ l. AnswersJust g sql params db (map shown l)) (all_pass (it.rows t)) (lists g t db has params shown (λ _. true) tests says sorted shows rises)
