-- What the statements on a table do whose rows stand under a number, whatever the table is.
use Rattle.clear_columns.proofs.Words.{◌≡◌, ◌≤◌, ◌/◌, ℤ, ℕ, Bool, true, false, List, [], ◌∷◌, Some, Equal, Less, length, map, filter, refl, sym, ap, subst, ◌∙◌, map-id, IsPermutation, int_cmp, slice_get, arith, length-map, list_any, ordering_then, cast_row, Insert, Update, edit_of, edited, with_rowid, IsRefused, Answers, Database, IsDatabase, value_rows, Row, output, stamped, Chosen, Given, Values, State, Ghosts, Table, Binary, Term, col, Trees, rowid, Int, insert_by, update_where, IsKeyedBy-update_where, ascending_weaker, ids_of, some_from, guards, passes, Check, Datatype, NotNull, Index, Enforced, Key, is_key, with_row, Tables, IsEdited, IsNumbered, meets, plain_program, plain_query, no_rows, updated_is, update_harmless, update_violates, in_order, one_row, shown_in_some_order, apart_if, held_if_refused, insert_violates, inserted, updated, by_key, HasTables, IsBroken, IsDone, all_indexes, all_tables, store_schema, refer_to_none, sound_by_schema, Others, answers_just, all_pass, each_fails, none_replaced, one_passes, is_held, Result, Held, state, Fault, AnswersJust, Runs, Writes, writes, numbered_row, op2, Compare, Eq, Option, ◌&&◌, find_row, equal_ints}
use Rattle.std.proofs.Common.{is_some}
use Rattle.std.proofs.lemmas.Bool.{both_ways}
use Rattle.std.specs.Option.{option_to_list}
use Rattle.sqlite_keyed.proofs.KeyedLemmas.{IsKeyedBy-insert_by, Less-from_lt}
use Rattle.sqlite_keyed.proofs.ListLemmas.{IsPermutation-same}
use Rattle.sqlite_keyed.proofs.RuleLemmas.{at_most_one}
use Rattle.sqlite_rules.proofs.ListLemmas.{has_got}
use Rattle.sqlite_rules.specs.declared.error.Refusal.TheVariants as why
use Rattle.sqlite_value.proofs.OrderLemmas.{value_cmp-Int}
use Rattle.sqlite_value.specs.Keys.{ascending}
use Rattle.clear_schema.proofs.FrameLemmas.{finds as finds_first, writes_as}
use Rattle.clear_schema.specs.Frame.{Finds, FindsFirst}
use Rattle.sqlite.specs.Ops.{binary, is_true}
use Rattle.sqlite.specs.Tree.{IsAscending}
use Rattle.sqlite.specs.declared.types.Value.{Value}
use Rattle.clear_values.specs.Keyed.{replaced}
use Rattle.clear_values.proofs.KeyedLemmas.{is_key-true}
use Rattle.clear_rows.proofs.Edits.{inserted_is, named, was_free}
use Rattle.clear_rows.proofs.Refused.{number_held}
use Rattle.clear_columns.proofs.StoredLemmas.{KeepsOrder}
use Rattle.clear_columns.proofs.KeyLemmas.{becomes, first_found, get_is, one_key, put_is}
use Rattle.clear_columns.proofs.Says.{Says, SaysQuery, is, is_query, plain, plain_query_text, unlisted_query}

-- by the number in front of the row
abbrev pub by_number : List (Term × Key)
by_number = (col 1 0, ascending Binary) ∷ []

-- the number in front of the row is this
abbrev pub by_no : List Term
by_no = op2 (Compare Eq Binary) (col 1 0) (col 0 0) ∷ []

-- one row at most is listed, if it is there
one_listed : {X : Type 0} (rows : List X) → length rows ≤ 1 → rows ≡ option_to_list (slice_get rows 0)
one_listed [] few = refl
one_listed (row ∷ []) few = refl
one_listed (row ∷ next ∷ rows) few = absurd (omega (arith, few))

-- a table of the schema whose rows stand under a number
pub record NumberedTable (X : Type 0) : Type 1 where
  pub at : ℕ
  pub table : Table
  pub rows : Tables → List X
  pub with_those : Tables → List X → Tables
  pub number : X → ℕ
  pub as_int : ℕ → ℤ
  -- whether the table may have these rows
  pub fits : List X → Type 0
  -- what a statement is given of a row
  pub given : X → Row
  pub placed : slice_get all_tables at ≡ Some table
  pub uncounted : table.is_counted ≡ false
  pub in_order : KeepsOrder as_int
  pub unguarded : list_any (λ (i : Index). guards i table) all_indexes ≡ false
  pub numbered : (x : X) → rowid (numbered_row given x) ≡ Int (as_int (number x))
  pub stored : (x : X) → cast_row table (numbered_row given x) ≡ numbered_row given x
  pub typed : (db : Trees) (x : X) → passes Datatype store_schema db table (numbered_row given x) ≡ true
  pub present : (db : Trees) (x : X) → passes NotNull store_schema db table (numbered_row given x) ≡ true
  pub checked : (db : Trees) (x : X) → passes Check store_schema db table (numbered_row given x) ≡ true
  pub has : (t : Tables) (db : Database) → HasTables t db → IsNumbered (λ x. as_int (number x)) (numbered_row given) (rows t) (db.trees table.tree)
  pub changed : (t : Tables) (old new : Database) → HasTables t old → new.schema ≡ store_schema → IsDatabase new → (xs : List X) → fits xs → Others table.tree old.trees new.trees → IsNumbered (λ x. as_int (number x)) (numbered_row given) xs (new.trees table.tree) → HasTables (with_those t xs) new

module _ {X : Type 0} (it : NumberedTable X) where
  -- the number as SQL holds it, and as a key
  abbrev no : X → ℤ
  no x = it.as_int (it.number x)

  abbrev pub key : X → List ℕ
  key x = it.number x ∷ []

  module _ (t : Tables) (old new : State) (has : HasTables t old.now) where
    abbrev db : Trees
    db = old.now.trees

    kept : IsNumbered no (numbered_row it.given) (it.rows t) (db it.table.tree)
    kept = it.has t old.now has

    -- ---- a new row

    module _ {sql : List ℕ} {terms : List Term} {width : ℕ} (says : Says sql (Insert it.at (Values terms width))) (params : Row) (x : X) (given : value_rows (stamped it.table params) width (length terms / width) terms ≡ numbered_row it.given x ∷ []) (fits : (xs : List X) → it.fits xs) where
      -- a row whose number was free
      pub inserts : IsDone sql params old new → HasTables (it.with_those t (with_row key (it.rows t) x)) new.now × (is_held key x (it.rows t) ≡ false)
      inserts ran =
          let made = subst (λ rows. IsEdited store_schema old new (edit_of db it.table [] Chosen 0 rows)) given (inserted store_schema it.at it.table it.placed (λ _ _. refl) sql params old new has.schema (plain says) ran.0 ran.1 terms width it.uncounted (is says)) in
          let rows = inserted_is no (numbered_row it.given) it.numbered db it.table (it.rows t) kept (numbered_row it.given x) x (it.stored x) in
          let free = was_free no (numbered_row it.given) it.numbered db it.table (it.rows t) kept (numbered_row it.given x) x (it.stored x) made.applied.fresh in
          let there = it.changed t old.now new.now has made.schema_is made.sound (insert_by no (it.rows t) x) (fits _) made.applied.tables (record { is = made.applied.rows ∙ rows; keyed = IsKeyedBy-insert_by no (it.rows t) x kept.keyed }) in
          (subst (λ rows. HasTables (it.with_those t rows) new.now) (put_is it.number it.as_int it.in_order (it.rows t) x free) there, sym (ap is_some (get_is it.number it.as_int it.in_order (it.rows t) (it.number x))) ∙ free)

      -- is refused only where its number is held
      pub held : IsBroken sql params old new → is_held key x (it.rows t) ≡ true
      held (rule, ran) =
          let bad = subst (λ rows. IsRefused store_schema Enforced db (edit_of db it.table [] Chosen 0 rows) (why.Violates rule)) given (insert_violates store_schema it.at it.table it.placed (λ _ _. refl) refer_to_none sql params old new has.schema (plain says) rule ran terms width it.uncounted (is says)) in
          let same : with_rowid Chosen (db it.table.tree) (cast_row it.table (numbered_row it.given x)) ≡ numbered_row it.given x = ap (with_rowid Chosen (db it.table.tree)) (it.stored x) ∙ named no (numbered_row it.given) it.numbered db it.table (it.rows t) kept x in
          let one : IsRefused store_schema Enforced db (record { table = it.table; gone = []; news = numbered_row it.given x ∷ [] }) (why.Violates rule) = subst (λ r. IsRefused store_schema Enforced db (record { table = it.table; gone = []; news = r ∷ [] }) (why.Violates rule)) same bad in
          let taken = held_if_refused store_schema db it.table (has_got all_tables it.at it.table it.placed) (apart_if all_tables refl) (sound_by_schema t old.now has) (numbered_row it.given x) (no x) (it.numbered x) (it.typed db x) (it.present db x) (it.checked db x) rule one in
          sym (ap is_some (get_is it.number it.as_int it.in_order (it.rows t) (it.number x))) ∙ number_held no (numbered_row it.given) it.numbered db it.table (it.rows t) kept store_schema x it.unguarded taken

    -- ---- another row in the place of one

    module _ {sql : List ℕ} {conditions terms : List Term} (says : Says sql (Update it.at (plain_program it.table.tree conditions terms []))) (params : Row) (p : X → Bool) (f : X → X) (same_no : (x : X) → it.number (f x) ≡ it.number x)
        (tests : (x : X) → meets conditions params (numbered_row it.given x) ≡ p x) (shows : (x : X) → output (plain_query it.table.tree conditions terms []) (params ∷ numbered_row it.given x ∷ []) ≡ ([], Int (no x) ∷ numbered_row it.given (f x))) (few : length (filter p (it.rows t)) ≤ 1) (fits : it.fits (update_where p f (it.rows t))) where
      -- what its query shows
      abbrev show : X → Row
      show x = Int (no x) ∷ numbered_row it.given (f x)

      same_key : (x : X) → no (f x) ≡ no x
      same_key x = ap it.as_int (same_no x)

      meant : (rows : List Row) → Answers (record { schema = store_schema; trees = db }) (plain_program it.table.tree conditions terms []) params rows → IsPermutation (map show (filter p (it.rows t))) rows
      meant rows answer =
          subst (λ l. IsPermutation (map show (filter p l)) rows) (map-id (it.rows t))
          (shown_in_some_order it.table.tree conditions terms [] params (numbered_row it.given) (λ x. x) p tests (λ x. ([], show x)) shows store_schema db (it.rows t) kept.is rows answer)

      left : (rows : List Row) → IsPermutation (map show (filter p (it.rows t))) rows → edited db (edit_of db it.table (ids_of rows) Given 1 rows) ≡ map (numbered_row it.given) (update_where p f (it.rows t))
      left rows same = go (filter p (it.rows t)) refl few same
        where
          go : (found : List X) → filter p (it.rows t) ≡ found → length found ≤ 1 → IsPermutation (map show found) rows → edited db (edit_of db it.table (ids_of rows) Given 1 rows) ≡ map (numbered_row it.given) (update_where p f (it.rows t))
          go [] none few perm =
              ap (λ r. edited db (edit_of db it.table (ids_of r) Given 1 r)) (no_rows rows perm) ∙ kept.is ∙ ap (map (numbered_row it.given)) (sym (none_replaced p f (it.rows t) (each_fails p (it.rows t) none)))
          go (y ∷ []) one few perm =
              let alone = one_passes no p f (it.rows t) y kept.keyed one in
              updated_is no (numbered_row it.given) it.numbered db it.table (it.rows t) kept rows (no y) f show same_key (λ _. refl) (λ x. it.stored (f x)) (subst (λ (l : List X). IsPermutation (map show l) rows) (sym alone.0) perm) ∙ ap (map (numbered_row it.given)) (sym alone.1)
          go (y ∷ z ∷ more) many few perm = absurd (omega arith)

      pub updates : IsDone sql params old new → HasTables (it.with_those t (update_where p f (it.rows t))) new.now
      updates ran =
          let made = updated store_schema it.at it.table it.placed (λ _ _. refl) sql params old new has.schema (plain says) ran.0 ran.1 _ (is says) in
          it.changed t old.now new.now has made.2.schema_is made.2.sound _ fits made.2.applied.tables (record { is = made.2.applied.rows ∙ left made.0 (meant made.0 made.1); keyed = IsKeyedBy-update_where no p f same_key (it.rows t) kept.keyed })

      -- it is refused for no rule
      pub turns : IsBroken sql params old new → ⊥
      turns (rule, ran) =
          let bad = update_violates store_schema it.at it.table it.placed (λ _ _. refl) refer_to_none sql params old new has.schema (plain says) rule ran _ (is says) in
          update_harmless no (numbered_row it.given) it.numbered store_schema db it.table (it.rows t) kept (has_got all_tables it.at it.table it.placed) (apart_if all_tables refl) (sound_by_schema t old.now has)
          bad.0 p f show same_key (λ _. refl) (λ x. it.stored (f x)) few (meant bad.0 bad.1)
          (λ x. it.typed db (f x)) (λ x. it.present db (f x)) (λ x. it.checked db (f x))
          (λ i known on x r agreed. absurd (both_ways (list_any (λ (i : Index). guards i it.table) all_indexes) it.unguarded (some_from (λ (i : Index). guards i it.table) all_indexes i known on)))
          rule bad.2

  -- so a statement that was run with a row puts it in
  pub puts : {S A : Type 0} (g : Ghosts S) (old new : Held S) {sql : List ℕ} {terms : List Term} {width : ℕ} → Says sql (Insert it.at (Values terms width)) → (x : X) → value_rows (stamped it.table (it.given x)) width (length terms / width) terms ≡ numbered_row it.given x ∷ [] → ((xs : List X) → it.fits xs)
      → (r : Result A Fault) (good : Type 0) → good → Runs g old new sql (it.given x) r → Writes g old new r good (λ t. is_held key x (it.rows t)) (λ t. it.with_those t (with_row key (it.rows t) x))
  puts g old new {sql} says x given fits r good within runs =
      writes g old new sql (it.given x) r good _ _ within (λ t has ran. inserts t (state g old) (state g new) has says (it.given x) x given fits ran) (λ t has broke. held t (state g old) (state g new) has says (it.given x) x given fits broke) runs

  -- and one that changes a row changes it
  pub sets : {S A : Type 0} (g : Ghosts S) (old new : Held S) {sql : List ℕ} {conditions terms : List Term} → Says sql (Update it.at (plain_program it.table.tree conditions terms [])) → (params : Row) (p : X → Bool) (f : X → X) → ((x : X) → it.number (f x) ≡ it.number x)
      → ((x : X) → meets conditions params (numbered_row it.given x) ≡ p x) → ((x : X) → output (plain_query it.table.tree conditions terms []) (params ∷ numbered_row it.given x ∷ []) ≡ ([], Int (no x) ∷ numbered_row it.given (f x))) → ((t : Tables) (db : Database) → HasTables t db → length (filter p (it.rows t)) ≤ 1) → ((t : Tables) → it.fits (update_where p f (it.rows t)))
      → (r : Result A Fault) (good : Type 0) → good → Runs g old new sql params r → Writes g old new r good (λ _. false) (λ t. it.with_those t (update_where p f (it.rows t)))
  sets g old new {sql} says params p f same_no tests shows few fits r good within runs =
      writes g old new sql params r good _ _ within (λ t has ran. (updates t (state g old) (state g new) has says params p f same_no tests shows (few t _ has) (fits t) ran, refl)) (λ t has broke. absurd (turns t (state g old) (state g new) has says params p f same_no tests shows (few t _ has) (fits t) broke)) runs

  -- the row has a number
  abbrev pub is_no : ℕ → X → Bool
  is_no n x = is_key (key x) (n ∷ [])

  -- of a number there is one row
  pub few : (t : Tables) (db : Database) → HasTables t db → (n : ℕ) → length (filter (is_no n) (it.rows t)) ≤ 1
  few t db has n = at_most_one no (it.as_int n) (is_no n) (λ x h. it.in_order.same (it.number x) n ∙ one_key (it.number x) n ∙ h) (it.rows t) (it.has t db has).keyed

  -- the keys rise
  pub rises : (t : Tables) (db : Database) → HasTables t db → IsAscending (λ a b. by_key key a b ≡ Less) (it.rows t)
  rises t db has = ascending_weaker _ (λ a b. by_key key a b ≡ Less) (λ a b less. ap (λ o. ordering_then o Equal) (sym (it.in_order.order (it.number a) (it.number b)) ∙ Less-from_lt (no a) (no b) less)) (it.rows t) (it.has t db has).keyed

  -- ---- queries

  module _ {S : Type 0} (g : Ghosts S) (t : Tables) (db : Database) (has : HasTables t db) {sql : List ℕ} {conditions columns : List Term} (params : Row) (shown : X → Row) (p : X → Bool) (tests : (x : X) → meets conditions params (numbered_row it.given x) ≡ p x) where
    -- the rows that pass, in the order of their numbers
    pub lists : SaysQuery sql (plain_program it.table.tree conditions columns by_number) → ((x : X) → output (plain_query it.table.tree conditions columns by_number) (params ∷ numbered_row it.given x ∷ []) ≡ (Int (no x) ∷ [], shown x)) → AnswersJust g sql params db (map shown (filter p (it.rows t)))
    lists says shows =
        answers_just g says.names sql params store_schema (is_query says) (plain_query_text says) (unlisted_query says) db has.schema _
        (λ rows answer. in_order it.table.tree conditions columns by_number params (numbered_row it.given) (λ x. x) p tests (λ x. (Int (no x) ∷ [], shown x)) shows db.schema db.trees (it.rows t) (it.has t db has).is rows answer
        (λ a b. int_cmp (no a) (no b)) (λ a b h. ap (λ o. ordering_then o Equal) (value_cmp-Int (no a) (no b) ∙ h)) (it.rows t) (IsPermutation-same _ _ (map-id (it.rows t)))
        (ascending_weaker _ _ (λ a b. Less-from_lt (no a) (no b)) (it.rows t) (it.has t db has).keyed))

    -- the one row that passes
    pub finds : SaysQuery sql (plain_program it.table.tree conditions columns []) → ((x : X) → output (plain_query it.table.tree conditions columns []) (params ∷ numbered_row it.given x ∷ []) ≡ ([], shown x)) → length (filter p (it.rows t)) ≤ 1 → AnswersJust g sql params db (map shown (filter p (it.rows t)))
    finds says shows few =
        answers_just g says.names sql params store_schema (is_query says) (plain_query_text says) (unlisted_query says) db has.schema _ whole
      where
        whole : (rows : List Row) → Answers db (plain_program it.table.tree conditions columns []) params rows → rows ≡ map shown (filter p (it.rows t))
        whole rows answer =
            let same : IsPermutation (map shown (filter p (it.rows t))) rows =
            subst (λ l. IsPermutation (map shown (filter p l)) rows) (map-id (it.rows t))
            (shown_in_some_order it.table.tree conditions columns [] params (numbered_row it.given) (λ x. x) p tests (λ x. ([], shown x)) shows db.schema db.trees (it.rows t) (it.has t db has).is rows answer) in
            one_row _ rows (subst (λ n. n ≤ 1) (sym (length-map (filter p (it.rows t)) shown)) few) same

  -- all rows, in the order of their numbers
  pub lists_all : {S : Type 0} (g : Ghosts S) (t : Tables) (db : Database) (has : HasTables t db) {sql : List ℕ} {conditions columns : List Term} (params : Row) (shown : X → Row) → ((x : X) → meets conditions params (numbered_row it.given x) ≡ true) → SaysQuery sql (plain_program it.table.tree conditions columns by_number)
      → ((x : X) → output (plain_query it.table.tree conditions columns by_number) (params ∷ numbered_row it.given x ∷ []) ≡ (Int (no x) ∷ [], shown x)) → AnswersJust g sql params db (map shown (it.rows t))
  lists_all g t db has {sql} params shown tests says shows = subst (λ l. AnswersJust g sql params db (map shown l)) (all_pass (it.rows t)) (lists g t db has params shown (λ _. true) tests says shows)

  -- ---- the row of a number

  -- it is the one that passes
  pub meets_no : (n : ℕ) (rest : Row) (x : X) → meets by_no (Int (it.as_int n) ∷ rest) (numbered_row it.given x) ≡ is_no n x
  meets_no n rest x =
      ap (λ (v : Value). is_true (binary (Compare Eq Binary) v (Int (it.as_int n))) && true) (it.numbered x)
      ∙ ap (λ b. b && true) (equal_ints (no x) (it.as_int n) ∙ it.in_order.same (it.number x) n)

  -- a statement that changes it to another with this number puts that in its place
  module _ (row : X) (rest : Row) (given : it.given row ≡ Int (no row) ∷ rest) (numbered_as : ℕ → X) (same : (n : ℕ) → it.number (numbered_as n) ≡ n) (own : numbered_as (it.number row) ≡ row) where
    is_that : (x : X) → is_key (key x) (key row) ≡ true → numbered_as (it.number x) ≡ row
    is_that x e =
        let keys_are : key x ≡ key row = is_key-true (key x) (key row) e in
        let numbers_are : it.number x ≡ it.number row = cc in
        ap numbered_as numbers_are ∙ own

    pub replaces : {S A : Type 0} (g : Ghosts S) (old new : Held S) {sql : List ℕ} {terms : List Term} → Says sql (Update it.at (plain_program it.table.tree by_no terms [])) → ((x : X) → output (plain_query it.table.tree by_no terms []) (it.given row ∷ numbered_row it.given x ∷ []) ≡ ([], Int (no x) ∷ numbered_row it.given (numbered_as (it.number x))))
        → ((xs : List X) → it.fits xs) → (r : Result A Fault) (good : Type 0) → good → Runs g old new sql (it.given row) r → Writes g old new r good (λ _. false) (λ t. it.with_those t (replaced key row (it.rows t)))
    replaces g old new says shows fits r good within runs =
        let n = it.number row in
        let f = λ (x : X). numbered_as (it.number x) in
        writes_as g old new r good (λ _. false) (λ t. it.with_those t (update_where (is_no n) f (it.rows t))) (λ t. it.with_those t (replaced key row (it.rows t))) (λ t has. ap (it.with_those t) (becomes key (it.rows t) row f is_that (rises t _ has)))
        (sets g old new says (it.given row) (is_no n) f (λ x. same (it.number x)) (λ x. subst (λ (params : Row). meets by_no params (numbered_row it.given x) ≡ is_no n x) (sym given) (meets_no n rest x)) shows (λ t db has. few t db has n) (λ t. fits _)
        r good within runs)

  module _ {S : Type 0} (g : Ghosts S) {sql : List ℕ} {columns : List Term} (says : SaysQuery sql (plain_program it.table.tree by_no columns [])) (n : ℕ) (shows : (x : X) → output (plain_query it.table.tree by_no columns []) ((Int (it.as_int n) ∷ []) ∷ numbered_row it.given x ∷ []) ≡ ([], it.given x)) where
    answers_no : (t : Tables) (db : Database) → HasTables t db → AnswersJust g sql (Int (it.as_int n) ∷ []) db (map it.given (filter (is_no n) (it.rows t)))
    answers_no t db has = finds g t db has (Int (it.as_int n) ∷ []) it.given (is_no n) (meets_no n []) says shows (few t db has n)

    -- a query for the number answers it alone
    pub answers_one : (t : Tables) (db : Database) → HasTables t db → AnswersJust g sql (Int (it.as_int n) ∷ []) db (map it.given (option_to_list (find_row key (it.rows t) (n ∷ []))))
    answers_one t db has =
        subst (λ rows. AnswersJust g sql (Int (it.as_int n) ∷ []) db (map it.given rows))
        (one_listed (filter (is_no n) (it.rows t)) (few t db has n) ∙ ap option_to_list (first_found key (it.rows t) (n ∷ []))) (answers_no t db has)

    -- and a look finds it
    pub finds_one : (old new : Held S) (P : X → Type 0) (r : Result (Option X) Fault) → FindsFirst g old new it.given P sql (Int (it.as_int n) ∷ []) r → Finds g old new r P (λ t. find_row key (it.rows t) (n ∷ []))
    finds_one old new P r =
        finds_first g old new it.given P sql (Int (it.as_int n) ∷ []) r (λ t. filter (is_no n) (it.rows t)) (λ t. find_row key (it.rows t) (n ∷ []))
        (λ t. first_found key (it.rows t) (n ∷ [])) (λ t has. answers_no t (state g old).now has)
