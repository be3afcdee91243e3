-- From a statement that ran to the edit that it made, whatever the table is.
use Rattle.std.proofs.Common.{◌≡◌, ◌⊎◌, inl, inr, ℕ, ℤ, List, [], slice_get, length, ◌/◌, Bool, true, false, cond, Option, Some, None, Ok, Err, Result, MatchBool, refl, sym, ap, subst, ◌∙◌}
use Rattle.sqlite.specs.Order.{Row}
use Rattle.sqlite.specs.Term.{Term}
use Rattle.sqlite.specs.Table.{Table}
use Rattle.sqlite.specs.Schema.{Schema}
use Rattle.sqlite.specs.Source.TheVariants.{Values}
use Rattle.sqlite.specs.Command.TheVariants.{Insert, Update, Delete}
use Rattle.sqlite.specs.Edit.{Edit, edit_of, taken_by, Applies}
use Rattle.sqlite.specs.Rowids.TheVariants.{Above, Chosen, Given}
use Rattle.sqlite.specs.Does.{Tally, Does, Concludes}
use Rattle.sqlite.specs.Rows.{Written, Task, Inserts, Updates, Deletes, count_of, rowids_for, stamped, Edited}
use Rattle.sqlite.specs.Effect.{Database, IsDatabase, Answers, value_rows}
use Rattle.sqlite.specs.Tree.{Trees}
use Rattle.sqlite.specs.Listing.{understood}
use Rattle.sqlite.specs.State.{State, mode_of, Executes, Shows, Shown, ShowsRows, IsUnchanged}
use Rattle.sqlite.specs.Clock.{timed}
use Rattle.sqlite.proofs.Callers.{IsPlain, command_of, statement_of, runs_as, one_step}
use Rattle.sqlite_schema.specs.declared.program.Program.{Program}
use Rattle.sqlite_schema.specs.declared.schema.Keys.TheVariants.{Enforced}
use Rattle.sqlite_rules.specs.Action.{works}
use Rattle.sqlite_rules.specs.Calls.{ids_of}
use Rattle.clear_rows.specs.Edited.{IsEdited}

-- a part that gave a value did not stop on the way
pub went : {B E R : Type 0} {b : B} {Stops : E → Type 0} → ((stop : E) × Stops stop × (Ok b ≡ Err stop)) ⊎ R → R
went (inl stopped) = absurd (let e = stopped.2 in cc)
went (inr on) = on

-- equal results have equal values
pub same_value : {B E : Type 0} {a b : B} → ◌≡◌ {A = Result B E} (Ok a) (Ok b) → a ≡ b
same_value e = cc

-- where the first of two tests fails, the second branch holds
pub unless_if : (b c : Bool) (P Q : Type 0) → b ≡ false → MatchBool (cond b c false) P Q → Q
unless_if true c P Q e h = absurd cc
unless_if false c P Q e h = h

-- ---- the parts of each statement, where the table has no AUTOINCREMENT

-- with no counter, the numbers of new rows are chosen
pub rowids_are : (b : Bool) (top : ℤ) → b ≡ false → cond b (Above top) Chosen ≡ Chosen
rowids_are true top e = absurd cc
rowids_are false top e = refl

-- an INSERT of values is one edit, of those rows
pub insert_parts : (task : Task) (terms : List Term) (width : ℕ) (db : Trees) (w : Written) → task.table.is_counted ≡ false → Inserts task (Values terms width) db (Ok w)
    → Edited task.schema task.keys db (edit_of db task.table [] Chosen 0 (value_rows (stamped task.table task.params) width (length terms / width) terms)) (Ok w.trees)
insert_parts task terms width db w uncounted h =
    let given = went h in
    let counting = went given.2 in
    let edit = λ (rows : List Row) (c : Option Row). edit_of db task.table [] (rowids_for task.table (count_of c)) 0 rows in
    let written = went counting.2 in
    let counted = went written.2 in
    let next : counted.0 ≡ written.0 = same_value (unless_if task.table.is_counted _ _ _ uncounted counted.1) in
    let trees : w.trees ≡ written.0 = ap (λ (it : Written). it.trees) (same_value counted.2) ∙ next in
    subst (λ t. Edited task.schema task.keys db (edit_of db task.table [] Chosen 0 (value_rows (stamped task.table task.params) width (length terms / width) terms)) (Ok t)) (sym trees)
    (subst (λ rows. Edited task.schema task.keys db (edit_of db task.table [] Chosen 0 rows) (Ok written.0)) given.1.1
    (subst (λ r. Edited task.schema task.keys db (edit_of db task.table [] r 0 given.0) (Ok written.0)) (rowids_are task.table.is_counted _ uncounted) written.1))

-- a DELETE is one edit, of the rows that its query answers
pub delete_parts : (task : Task) (q : Program) (db : Trees) (w : Written) → Deletes task q db (Ok w)
    → (rows : List Row) × Answers (record { schema = task.schema; trees = db }) q task.params rows × Edited task.schema task.keys db (edit_of db task.table (ids_of rows) Given 0 []) (Ok w.trees)
delete_parts task q db w h =
    let asked = went h in
    let written = went asked.2 in
    let trees : w.trees ≡ written.0 = ap (λ (it : Written). it.trees) (same_value written.2) in
    (asked.0, asked.1, subst (λ t. Edited task.schema task.keys db (edit_of db task.table (ids_of asked.0) Given 0 []) (Ok t)) (sym trees) written.1)

-- so is an UPDATE, which puts in what its query answers
pub update_parts : (task : Task) (q : Program) (db : Trees) (w : Written) → Updates task q task.params db (Ok w)
    → (rows : List Row) × Answers (record { schema = task.schema; trees = db }) q task.params rows × Edited task.schema task.keys db (edit_of db task.table (ids_of rows) Given 1 rows) (Ok w.trees)
update_parts task q db w h =
    let asked = went h in
    let written = went asked.2 in
    let trees : w.trees ≡ written.0 = ap (λ (it : Written). it.trees) (same_value written.2) in
    (asked.0, asked.1, subst (λ t. Edited task.schema task.keys db (edit_of db task.table (ids_of asked.0) Given 1 asked.0) (Ok t)) (sym trees) written.1)

-- ---- a statement on the table at a place of the schema, on which no foreign key acts

module _ (schema : Schema) (at : ℕ) (table : Table) (placed : slice_get schema.tables at ≡ Some table)
    (free : (olds news : List Row) → works schema Enforced 0 table.tree olds news ≡ []) (sql : List ℕ) (params : Row) (old new : State) (has : old.now.schema ≡ schema)
    (plain : IsPlain (understood schema sql)) (count : ℕ) (ran : Executes sql params old new (Ok count)) where
  -- the work of the statement
  abbrev task : Task
  task = record { limit = old.step_limit; keys = (mode_of old).keys; schema = schema; table = table; params = params }

  -- the edit of the one step, and the database that is left
  ended : (edit : Edit) (next : Trees) → edit.table ≡ table → Edited schema Enforced old.now.trees edit (Ok next) → new.now ≡ record { schema = schema; trees = next }
      → Shows old new new.now (cond old.in_transaction old.committed new.now) old.in_transaction → new.marks ≡ old.marks → IsDatabase new.now → IsEdited schema old new edit
  ended edit next same wrote now shown marks sound =
      let none : works schema Enforced 0 edit.table.tree (taken_by old.now.trees edit) edit.news ≡ [] = ap (λ (t : Table). works schema Enforced 0 t.tree (taken_by old.now.trees edit) edit.news) same ∙ free _ _ in
      let step = one_step schema Enforced old.now.trees next edit none wrote in
      record {
        schema_is = ap (λ (d : Database). d.schema) now;
        applied = subst (λ (d : Database). Applies schema Enforced old.now.trees edit d.trees) (sym now) step;
        shown = shown;
        marks = marks;
        sound = sound;
      }

  -- the database that is left has the trees that were written
  concluded : (w : Written) (out : Tally × Database) → Concludes task (mode_of old) None w (Ok out) → out.1 ≡ record { schema = schema; trees = w.trees }
  concluded w out h = ap (λ (p : Tally × Database). p.1) (same_value (went (went h).2).2)

  -- INSERT puts its values in as rows
  pub inserted : (terms : List Term) (width : ℕ) → table.is_counted ≡ false → command_of (understood schema sql) ≡ Insert at (Values terms width)
      → IsEdited schema old new (edit_of old.now.trees table [] Chosen 0 (value_rows (stamped table params) width (length terms / width) terms))
  inserted terms width uncounted is =
      let command = Insert at (Values terms width) in
      let w = runs_as sql params old new schema has command is plain count ran in
      let text = statement_of sql (understood schema sql) in
      let start = subst (λ s. Does old.step_limit (mode_of old) params (record old.now { schema = s }) text None command (Ok (w.tally, new.now))) has w.changed in
      let done = went (rw placed at start) in
      ended _ _ refl (insert_parts task terms width old.now.trees done.0 uncounted done.1) (concluded done.0 _ done.2) w.shown w.marks w.sound

  -- DELETE takes out the rows that its query answers
  pub deleted : (q : Program) → command_of (understood schema sql) ≡ Delete at q
      → (rows : List Row) × Answers (record { schema = schema; trees = old.now.trees }) q params rows × IsEdited schema old new (edit_of old.now.trees table (ids_of rows) Given 0 [])
  deleted q is =
      let w = runs_as sql params old new schema has (Delete at q) is plain count ran in
      let text = statement_of sql (understood schema sql) in
      let start = subst (λ s. Does old.step_limit (mode_of old) params (record old.now { schema = s }) text None (Delete at q) (Ok (w.tally, new.now))) has w.changed in
      let done = went (rw placed at start) in
      let parts = delete_parts task q old.now.trees done.0 done.1 in
      (parts.0, parts.1, ended _ _ refl parts.2 (concluded done.0 _ done.2) w.shown w.marks w.sound)

  -- UPDATE puts what its query answers in the place of those rows
  pub updated : (q : Program) → command_of (understood schema sql) ≡ Update at q
      → (rows : List Row) × Answers (record { schema = schema; trees = old.now.trees }) q params rows × IsEdited schema old new (edit_of old.now.trees table (ids_of rows) Given 1 rows)
  updated q is =
      let w = runs_as sql params old new schema has (Update at q) is plain count ran in
      let text = statement_of sql (understood schema sql) in
      let start = subst (λ s. Does old.step_limit (mode_of old) params (record old.now { schema = s }) text None (Update at q) (Ok (w.tally, new.now))) has w.changed in
      let done = went (rw placed at start) in
      let parts = update_parts task q old.now.trees done.0 done.1 in
      (parts.0, parts.1, ended _ _ refl parts.2 (concluded done.0 _ done.2) w.shown w.marks w.sound)

-- a query that was answered leaves all as it was
pub shown_unchanged : (sql : List ℕ) (params : Row) (old new : State) (rows : List Row) (schema : Schema) → old.now.schema ≡ schema → IsPlain (understood schema sql) → Shown sql params old new rows → IsUnchanged old new
unfolding Shown
shown_unchanged sql params old new rows schema has plain h =
    let none = (subst IsPlain h.1.is (subst (λ s. IsPlain (understood s sql)) (sym has) plain)).0 in
    (subst (ShowsRows old new sql h.0 (timed params h.0.formats h.1.now) rows) none h.2).3
