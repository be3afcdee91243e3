-- Why an INSERT is refused for a rule of the schema: the key of the row is held. A query never is.
use Rattle.std.proofs.Common.{◌≡◌, ◌≢◌, inl, inr, ℕ, zero, suc, ℤ, List, [], ◌∷◌, append-nil, length, length-append, slice_get, ◌/◌, Bool, true, false, not, ◌&&◌, Option, Some, None, Err, MatchBool, refl, sym, ap, subst, subst₂, ◌∙◌, arith, true≢false}
use Rattle.std.proofs.lemmas.Bool.{cases_Bool, and_parts, and_from, both_ways, not-true, not-false, eq-eqb, ne_eqb, or_left, or_right}
use Rattle.std.proofs.lemmas.Int.{ints}
use Rattle.std.proofs.lemmas.List.Sorted.{list_any-IsPermutation}
use Rattle.std.proofs.Common.{map, int_eq, Ordering, ◌==◌}
use Rattle.std.specs.List.{AllByRecursion, list_all, list_any}
use Rattle.sqlite.specs.Order.{Row}
use Rattle.sqlite.specs.Term.{Term}
use Rattle.sqlite.specs.Table.{Table}
use Rattle.sqlite.specs.Schema.{Schema}
use Rattle.sqlite.specs.Source.TheVariants.{Values}
use Rattle.sqlite.specs.Command.{Command}
use Rattle.sqlite.specs.Command.TheVariants.{Insert, Select, Rows}
use Rattle.sqlite.specs.Edit.{Edit, edit_of, taken_by, are_fresh, is_taken, IsRefused}
use Rattle.sqlite.specs.Rowids.TheVariants.{Chosen}
use Rattle.sqlite.specs.Does.{Does, Concludes, due}
use Rattle.sqlite.specs.Rows.{Written, Task, Inserts, Edited, count_of, rowids_for, stamped}
use Rattle.sqlite.specs.Effect.{IsDatabase, value_rows, edit_error, Database, RefusesToRead}
use Rattle.sqlite.specs.Tree.{Trees, rowid, put_row, with_tree, IsAscending}
use Rattle.sqlite.specs.declared.types.Value.{Value}
use Rattle.sqlite.specs.declared.types.Value.TheVariants.{Int}
use Rattle.sqlite_keyed.specs.Keyed.{has_key}
use Rattle.clear_rows.specs.Kept.{IsNumbered, IsHeldBy}
use Rattle.clear_rows.proofs.Held.{differ_ints, number, content}
use Rattle.clear_rows.proofs.Edits.{taken_is}
use Rattle.sqlite.specs.Listing.{understood}
use Rattle.sqlite.specs.State.{State, mode_of, Executes, IsNotRun, ExecutesIn, IsMisplaced, RunsCommand, text_of, shows_rows, store_error, FailsToQuery, FailsToShow}
use Rattle.sqlite.specs.Clock.{timed}
use Rattle.sqlite.specs.declared.error.Error.{Error}
use Rattle.sqlite.specs.declared.error.Error.TheVariants.{SqliteFailure}
use Rattle.sqlite.specs.declared.error.ErrorCode.TheVariants.{ConstraintViolation}
use Rattle.sqlite.proofs.Callers.{IsPlain, command_of, statement_of}
use Rattle.sqlite_trees.specs.declared.error.StoreError.{StoreError}
use Rattle.sqlite_trees.specs.declared.error.StoreError.TheVariants as store
use Rattle.sqlite_schema.specs.declared.schema.Keys.{Keys}
use Rattle.sqlite_schema.specs.declared.schema.Keys.TheVariants.{Enforced}
use Rattle.sqlite_schema.specs.declared.schema.Among.{Among}
use Rattle.sqlite_schema.specs.declared.schema.Constraint.{Constraint}
use Rattle.sqlite_schema.specs.declared.schema.Constraint.TheVariants.{Datatype, NotNull, Check, PrimaryKey, Unique, ForeignKey}
use Rattle.sqlite_schema.specs.declared.schema.Index.{Index}
use Rattle.sqlite_schema.specs.declared.schema.Reference.{Reference}
use Rattle.sqlite_schema.specs.Rules.{Refers, Keeps, passes, guards, agree, clashes, differ}
use Rattle.sqlite_rules.specs.declared.error.Refusal.{Refusal}
use Rattle.sqlite_rules.specs.declared.error.Refusal.TheVariants as why
use Rattle.sqlite_rules.specs.Action.{works, Leads, Writes}
use Rattle.sqlite_rules.specs.Lists.{Has}
use Rattle.sqlite_rules.specs.Keys.{are_unique}
use Rattle.sqlite_rules.proofs.ListLemmas.{all_has, all_from, test_has, some_has, some_from, fails_has}
use Rattle.sqlite_rules.proofs.RuleLemmas.{Turns, unique_kept, refers_from}
use Rattle.sqlite_rules.proofs.TableLemmas.{put_has, put_all_keeps, put_all_adds}
use Rattle.clear_rows.specs.Refused.{IsHeldIn}
use Rattle.clear_rows.proofs.Statements.{unless_if, rowids_are}

unless : (b : Bool) (P Q : Type 0) → b ≡ false → MatchBool b P Q → Q
unless true P Q e h = absurd cc
unless false P Q e h = h

no_store : (rule : Constraint) (cause : StoreError) → SqliteFailure (ConstraintViolation rule) ≡ store_error cause → ⊥
no_store rule store.OutOfMemory e = cc
no_store rule store.Io e = cc
no_store rule store.Corrupt e = cc
no_store rule store.Full e = cc
no_store rule store.Broken e = cc
no_store rule store.Unstorable e = cc

-- the error names the rule that is violated
pub violates_only : (rule : Constraint) (r : Refusal) → SqliteFailure (ConstraintViolation rule) ≡ edit_error r → why.Violates rule ≡ r
violates_only rule (why.Violates other) e = cc
violates_only rule why.Mismatch e = cc
violates_only rule why.NoRowid e = cc
violates_only rule why.BadReference e = cc
violates_only rule why.TooDeep e = cc

module _ (sql : List ℕ) (params : Row) (old new : State) (rule : Constraint) where
  -- the refusal for the rule
  abbrev broken : Error
  broken = SqliteFailure (ConstraintViolation rule)

  not_run : IsNotRun old new sql params broken → ⊥
  unfolding IsNotRun
  not_run (inl (inl h, same)) = let e = h.2 in cc
  not_run (inl (inr (c, is, inl h), same)) = let e = h.1 in cc
  not_run (inl (inr (c, is, inr (inl h)), same)) = let e = h.1 in cc
  not_run (inl (inr (c, is, inr (inr h)), same)) = let e = h.1 in cc
  not_run (inr h) = no_store rule h.0 h.1

  misplaced : (command : Command) → IsMisplaced old command broken → ⊥
  misplaced command (inl h) = let e = h.0 in cc
  misplaced command (inr h) = let e = h.0 in cc

  -- the statement was run, and was refused with nothing changed
  pub refused_as : (schema : Schema) → old.now.schema ≡ schema → (command : Command) → command_of (understood schema sql) ≡ command → IsPlain (understood schema sql) → Executes sql params old new (Err broken)
      → Does old.step_limit (mode_of old) params old.now (statement_of sql (understood schema sql)) None command (Err (Some broken))
  unfolding ExecutesIn
  refused_as schema has command is plain (inl none) = absurd (not_run none)
  refused_as schema has command is plain (inr h) =
      let known = sym h.1.is ∙ ap (λ s. understood s sql) has in
      let bare = subst IsPlain (sym known) plain in
      let ran : RunsCommand old new sql h.0 (timed params h.0.formats h.1.now) (Err broken) = elim (cases_Bool (shows_rows false h.0)) [
        | inl shows ↦ absurd (let e = (rw shows at h.2).0 in cc)
        | inr runs ↦ rw runs at h.2
      ] in
      let does : Does old.step_limit (mode_of old) (timed params h.0.formats h.1.now) old.now (text_of sql h.0) h.0.returning h.0.command (Err (Some broken)) = elim ran [
        | inl refused ↦ elim refused.0 [ inl there ↦ absurd (misplaced h.0.command there) | inr it ↦ it.1 ]
        | inr failed ↦ absurd (no_store rule failed.0 failed.1)
      ] in
      subst₂ (λ k t. Does old.step_limit (mode_of old) params old.now t None k (Err (Some broken))) (ap command_of known ∙ is) (ap (statement_of sql) known) (rw (bare.0, bare.1, append-nil params) at does)

-- ---- the parts of an INSERT

-- where no foreign key acts, a refusal is that of the one step
pub one_refused : (schema : Schema) (keys : Keys) (db : Trees) (edit : Edit) (r : Refusal) → works schema keys 0 edit.table.tree (taken_by db edit) edit.news ≡ []
    → Writes schema keys db edit (Err (Some r)) → IsRefused schema keys db edit r
one_refused schema keys db edit r none (inl h) = let same : h.0 ≡ r = (let e = h.2 in cc) in subst (IsRefused schema keys db edit) same h.1
one_refused schema keys db edit r none (inr (inl big)) = absurd (let e = big.3 in cc)
one_refused schema keys db edit r none (inr (inr went)) = absurd (settled went.2.0 (rw none at went.2.1))
  where
    settled : (n : ℕ) → Leads schema keys n went.0 [] (Err (Some r)) → ⊥
    settled zero h = let e = h.1 in cc
    settled (suc n) h = absurd (omega (arith, ap length h.2, length-append h.0 (h.1 ∷ [])))

-- no table of the schema has a foreign key
abbrev pub RefersToNone : Schema → Type 0
RefersToNone schema = AllByRecursion (λ (t : Table). t.references ≡ []) schema.tables

refers_none : (among : Among) (schema : Schema) (db : Trees) → RefersToNone schema → Refers among schema db
refers_none among schema db none = refers_from among schema db (λ t ref row listed has is there. absurd (subst (λ (rs : List Reference). Has rs ref) (all_has _ schema.tables t none listed) has))

module _ (task : Task) (terms : List Term) (width : ℕ) (db : Trees) (rule : Constraint) (uncounted : task.table.is_counted ≡ false)
    (free : (olds news : List Row) → works task.schema task.keys 0 task.table.tree olds news ≡ []) where
  -- the rows that are given
  abbrev sources : List Row
  sources = value_rows (stamped task.table task.params) width (length terms / width) terms

  -- the refusal for the rule
  abbrev bad : Error
  bad = SqliteFailure (ConstraintViolation rule)

  edit_refused : (edit : Edit) → edit.table ≡ task.table → (stop : Option Error) → Edited task.schema task.keys db edit (Err stop) → stop ≡ Some bad → IsRefused task.schema task.keys db edit (why.Violates rule)
  edit_refused edit same stop (None, w, is) e = absurd cc
  edit_refused edit same stop (Some r, w, is) e =
      let one : why.Violates rule ≡ r = violates_only rule r cc in
      let none : works task.schema task.keys 0 edit.table.tree (taken_by db edit) edit.news ≡ [] = ap (λ (t : Table). works task.schema task.keys 0 t.tree (taken_by db edit) edit.news) same ∙ free _ _ in
      subst (IsRefused task.schema task.keys db edit) (sym one) (one_refused task.schema task.keys db edit r none w)

  -- where an INSERT stops for a rule, that is for its edit
  pub insert_refused : Inserts task (Values terms width) db (Err (Some bad)) → IsRefused task.schema task.keys db (edit_of db task.table [] Chosen 0 sources) (why.Violates rule)
  insert_refused (inl (None, s, same)) = absurd s
  insert_refused (inl (Some x, inl s, same)) = absurd (let e = s.0 in cc)
  insert_refused (inl (Some x, inr s, same)) = absurd (let e = s.0 in cc)
  insert_refused (inr (rows, given, inl (stop, counted, same))) = absurd (let e = unless task.table.is_counted _ _ uncounted counted in cc)
  insert_refused (inr (rows, given, inr (counter, counting, inl (stop, wrote, same)))) =
      let e : stop ≡ Some bad = cc in
      let r = edit_refused (edit_of db task.table [] (rowids_for task.table (count_of counter)) 0 rows) refl stop wrote e in
      subst (λ all. IsRefused task.schema task.keys db (edit_of db task.table [] Chosen 0 all) (why.Violates rule)) given.1
      (subst (λ ids. IsRefused task.schema task.keys db (edit_of db task.table [] ids 0 rows) (why.Violates rule)) (rowids_are task.table.is_counted _ uncounted) r)
  insert_refused (inr (rows, given, inr (counter, counting, inr (mid, wrote, inl (stop, counted, same))))) = absurd (let e = unless_if task.table.is_counted _ _ _ uncounted counted in cc)
  insert_refused (inr (rows, given, inr (counter, counting, inr (mid, wrote, inr (next, counted, last))))) = absurd (let e = last in cc)

module _ (schema : Schema) (at : ℕ) (table : Table) (placed : slice_get schema.tables at ≡ Some table)
    (free : (olds news : List Row) → works schema Enforced 0 table.tree olds news ≡ []) (none : RefersToNone schema) (sql : List ℕ) (params : Row) (old new : State) (has : old.now.schema ≡ schema)
    (plain : IsPlain (understood schema sql)) (rule : Constraint) (ran : Executes sql params old new (Err (SqliteFailure (ConstraintViolation rule)))) where
  -- the work of the statement
  abbrev the_task : Task
  the_task = record { limit = old.step_limit; keys = (mode_of old).keys; schema = schema; table = table; params = params }

  -- with no foreign key, nothing is refused once the edit is made
  pub concluded : (w : Written) → Concludes the_task (mode_of old) None w (Err (Some (SqliteFailure (ConstraintViolation rule)))) → ⊥
  concluded w (inl (stop, tested, same)) = tested.0 (refers_none (due (mode_of old)) schema w.trees none)
  concluded w (inr (doubt, tested, inl (stop, shown, same))) = let e = shown in cc
  concluded w (inr (doubt, tested, inr (rows, shown, last))) = let e = last in cc

  -- an INSERT that is refused for a rule is refused for its edit
  pub insert_violates : (terms : List Term) (width : ℕ) → table.is_counted ≡ false → command_of (understood schema sql) ≡ Insert at (Values terms width)
      → IsRefused schema Enforced old.now.trees (edit_of old.now.trees table [] Chosen 0 (value_rows (stamped table params) width (length terms / width) terms)) (why.Violates rule)
  insert_violates terms width uncounted is =
      let command = Insert at (Values terms width) in
      let text = statement_of sql (understood schema sql) in
      let bad = SqliteFailure (ConstraintViolation rule) in
      let start = subst (λ s. Does old.step_limit (mode_of old) params (record old.now { schema = s }) text None command (Err (Some bad))) has (refused_as sql params old new rule schema has command is plain ran) in
      elim (rw placed at start) [
        | inl stopped ↦ insert_refused the_task terms width old.now.trees rule uncounted free (let same : stopped.0 ≡ Some bad = (let e = stopped.2 in cc) in subst (λ s. Inserts the_task (Values terms width) old.now.trees (Err s)) same stopped.1)
        | inr wrote ↦ absurd (concluded wrote.0 wrote.2)
      ]

-- ---- what a violation says of the rows

-- a number does not differ from itself
pub differs_not : (v : Value) (n : ℤ) → v ≡ Int n → differ v v ≡ true → ⊥
differs_not v n is h = let e : not (int_eq n n) ≡ true = sym (differ_ints n n) ∙ subst (λ x. differ x x ≡ true) is h in absurd (grind (arith, ints))

module _ (schema : Schema) (old next : Trees) (table : Table) (listed : Has schema.tables table) (apart : IsAscending (λ a b. a.tree ≡ b.tree → ⊥) schema.tables) (keeps : Keeps Unique schema old) (new : Row) (n : ℤ) (id : rowid new ≡ Int n)
    (there : next table.tree ≡ put_row new (old table.tree)) (others : (t : Table) → Has schema.tables t → t.tree ≢ table.tree → next t.tree ≡ old t.tree) where
  -- the rows of the table
  abbrev rows : List Row
  rows = old table.tree

  fresh_row : is_taken rows new ≡ false → are_fresh rows (new ∷ []) ≡ true
  fresh_row free = rw free

  turns : is_taken rows new ≡ false → Turns schema old next table rows [] (new ∷ [])
  turns free = record {
    apart = apart;
    listed = listed;
    others = others;
    from = λ r h. elim (put_has new rows r (subst (λ l. Has l r) there h)) [ inl same ↦ inl (inl same) | inr kept ↦ inr kept ];
    stays = λ r h. subst (λ l. Has l r) (sym there) (put_all_keeps (new ∷ []) rows r (fresh_row free) h);
    added = λ r h. subst (λ l. Has l r) (sym there) (put_all_adds (new ∷ []) rows r (fresh_row free) h);
    was = λ r h. h;
    split = λ r h. inl h;
  }

  -- where the new row breaks a unique index, another row shares its key
  clash : is_taken rows new ≡ false → are_unique schema.indexes next table (new ∷ []) ≡ false → IsHeldIn schema table rows new
  clash free fails =
      let index = fails_has (λ (i : Index). not (guards i table && list_any (clashes i.order i.columns (next table.tree)) (new ∷ []))) schema.indexes fails in
      let parts = and_parts _ _ (not-false _ index.2) in
      let row = some_has (clashes index.0.order index.0.columns (next table.tree)) (new ∷ []) parts.1 in
      let is : row.0 ≡ new = only row.1 in
      let other = some_has (λ r. agree index.0.order index.0.columns r index.0.columns new && differ (rowid r) (rowid new)) (next table.tree) (subst (λ r. clashes index.0.order index.0.columns (next table.tree) r ≡ true) is row.2) in
      let both = and_parts _ _ other.2 in
      elim ((turns free).from other.0 other.1) [
        | inl same ↦ absurd (differs_not (rowid new) n id (subst (λ r. differ (rowid r) (rowid new) ≡ true) (only same) both.1))
        | inr kept ↦ inr (other.0, kept, (index.0, index.1, parts.0, both.0))
      ]
    where
      only : {r : Row} → Has (new ∷ []) r → r ≡ new
      only (inl same) = same
      only (inr none) = absurd none

  unless_unique : (b c : Bool) → is_taken rows new ≡ b → are_unique schema.indexes next table (new ∷ []) ≡ c → ¬ Keeps Unique schema next → IsHeldIn schema table rows new
  unless_unique true c taken unique breaks = inl taken
  unless_unique false true free unique breaks = absurd (breaks (unique_kept schema old next table rows [] (new ∷ []) (turns free) unique keeps))
  unless_unique false false free unique breaks = clash free unique

  -- where the unique indexes are not kept with the new row, its key is held
  pub held_if_broken : ¬ Keeps Unique schema next → IsHeldIn schema table rows new
  held_if_broken = unless_unique (is_taken rows new) (are_unique schema.indexes next table (new ∷ [])) refl refl

-- the trees with other rows of one table
module _ (db : Trees) (tree : ℕ) (rows : List Row) where
  pub these : with_tree db tree rows tree ≡ rows
  these = rw (eq-eqb tree tree refl)

  pub not_those : (t : ℕ) → t ≢ tree → with_tree db tree rows t ≡ db t
  not_those t other = rw (ne_eqb t tree other)

module _ (schema : Schema) (db : Trees) (table : Table) (listed : Has schema.tables table) (apart : IsAscending (λ a b. a.tree ≡ b.tree → ⊥) schema.tables)
    (sound : IsDatabase (record { schema = schema; trees = db })) (new : Row) (n : ℤ) (id : rowid new ≡ Int n)
    (typed : passes Datatype schema db table new ≡ true) (present : passes NotNull schema db table new ≡ true) (checked : passes Check schema db table new ≡ true) where
  -- a row of the right types is refused for its key alone
  pub held_if_refused : (rule : Constraint) → IsRefused schema Enforced db (record { table = table; gone = []; news = new ∷ [] }) (why.Violates rule) → IsHeldIn schema table (db table.tree) new
  held_if_refused Datatype h = absurd (true≢false (sym (and_from _ _ typed refl) ∙ h))
  held_if_refused NotNull h = absurd (true≢false (sym (and_from _ _ present refl) ∙ h))
  held_if_refused Check h = absurd (true≢false (sym (and_from _ _ checked refl) ∙ h))
  held_if_refused PrimaryKey h = inl (taken (is_taken (db table.tree) new) h)
    where
      taken : (b : Bool) → (not b && true) ≡ false → b ≡ true
      taken true h = refl
      taken false h = absurd (true≢false h)
  held_if_refused Unique h = held_if_broken schema db (with_tree db table.tree (put_row new (db table.tree))) table listed apart (sound.obeys.rules Unique) new n id (these db table.tree _) (λ t known other. not_those db table.tree _ t.tree other) h
  held_if_refused ForeignKey h = absurd h

-- ---- the same of typed rows

-- each table has a tree of its own, as a test
abbrev pub are_apart : List Table → Bool
are_apart [] = true
are_apart (t ∷ ts) = list_all (λ (u : Table). not (t.tree == u.tree)) ts && are_apart ts

-- the same, as the kit's lemmas ask for it
pub apart_if : (tables : List Table) → are_apart tables ≡ true → IsAscending (λ (a b : Table). a.tree ≡ b.tree → ⊥) tables
apart_if [] h = tt
apart_if (t ∷ ts) h =
    let parts = and_parts _ _ h in
    (all_from _ ts (λ u known same. both_ways _ (not-true _ (test_has (λ (u : Table). not (t.tree == u.tree)) ts u parts.0 known)) (eq-eqb t.tree u.tree same)), apart_if ts parts.1)

-- a table keyed by its number, with no unique index
module _ {Y : Type 0} (key : Y → ℤ) (to_row : Y → Row) (keyed : (y : Y) → rowid (to_row y) ≡ Int (key y)) (db : Trees) (table : Table) (ys : List Y) (kept : IsNumbered key to_row ys (db table.tree)) where
  -- so the number of the new row is a key that is held
  pub number_held : (schema : Schema) (y : Y) → list_any (λ (i : Index). guards i table) schema.indexes ≡ false → IsHeldIn schema table (db table.tree) (to_row y) → has_key key ys (key y) ≡ true
  number_held schema y unguarded (inl taken) = sym (ap (λ rows. is_taken rows (to_row y)) kept.is ∙ taken_is key to_row keyed db table ys kept ys y) ∙ taken
  number_held schema y unguarded (inr (other, known, (i, listed, on, agreed))) = absurd (both_ways _ unguarded (some_from (λ (i : Index). guards i table) schema.indexes i listed on))

pub has_mapped : {X Z : Type 0} (f : X → Z) (xs : List X) (z : Z) → Has (map f xs) z → (x : X) × Has xs x × (z ≡ f x)
has_mapped f [] z h = absurd h
has_mapped f (x ∷ xs) z (inl same) = (x, inl refl, same)
has_mapped f (x ∷ xs) z (inr later) = let found = has_mapped f xs z later in (found.0, inr found.1, found.2)

any_mapped : {X Z : Type 0} (f : X → Z) (p : Z → Bool) (xs : List X) (x : X) → Has xs x → p (f x) ≡ true → list_any p (map f xs) ≡ true
any_mapped f p [] x h passes = absurd h
any_mapped f p (y ∷ xs) x (inl same) passes = or_left _ _ (subst (λ z. p (f z) ≡ true) same passes)
any_mapped f p (y ∷ xs) x (inr later) passes = or_right _ _ (any_mapped f p xs x later passes)

-- a table with keys of its own, whose numbers are chosen
module _ {X : Type 0} (cmp : X → X → Ordering) (to_row : ℤ × X → Row) (keyed : (y : ℤ × X) → rowid (to_row y) ≡ Int (number y)) (db : Trees) (table : Table) (xs : List X) (held : IsHeldBy cmp to_row xs (db table.tree)) where
  -- so some row has what two rows with one unique key have in common
  pub key_held : (schema : Schema) (n : ℤ) (x : X) (p : X → Bool) → has_key number held.numbered n ≡ false
      → ((i : Index) → Has schema.indexes i → guards i table ≡ true → (y : ℤ × X) → agree i.order i.columns (to_row y) i.columns (to_row (n, x)) ≡ true → p (content y) ≡ true)
      → IsHeldIn schema table (db table.tree) (to_row (n, x)) → list_any p xs ≡ true
  key_held schema n x p free same (inl taken) =
      absurd (both_ways _ free (sym (ap (λ rows. is_taken rows (to_row (n, x))) held.stored.is ∙ taken_is number to_row keyed db table held.numbered held.stored held.numbered (n, x)) ∙ taken))
  key_held schema n x p free same (inr (other, known, (i, listed, on, agreed))) =
      let row = has_mapped to_row held.numbered other (subst (λ l. Has l other) held.stored.is known) in
      let passes = same i listed on row.0 (subst (λ r. agree i.order i.columns r i.columns (to_row (n, x)) ≡ true) row.2 agreed) in
      sym (list_any-IsPermutation p (map content held.numbered) xs held.same) ∙ any_mapped content p held.numbered row.0 row.1 passes

-- there is no foreign key
abbrev pub has_none : List Reference → Bool
has_none [] = true
has_none (r ∷ rs) = false

-- no table refers to another, as a test
abbrev pub refer_nowhere : List Table → Bool
refer_nowhere [] = true
refer_nowhere (t ∷ ts) = has_none t.references && refer_nowhere ts

-- the same, of each table
pub refer_to_none_if : (tables : List Table) → refer_nowhere tables ≡ true → AllByRecursion (λ (t : Table). t.references ≡ []) tables
refer_to_none_if [] h = tt
refer_to_none_if (t ∷ ts) h = let parts = and_parts _ _ h in (empty t.references parts.0, refer_to_none_if ts parts.1)
  where
    empty : (rs : List Reference) → has_none rs ≡ true → rs ≡ []
    empty [] h = refl
    empty (r ∷ rs) h = absurd cc

-- ---- a query is refused for no rule

refuses_never : (limit : Option ℕ) (command : Command) (db : Database) (params : Row) (rule : Constraint) → RefusesToRead limit command db params (SqliteFailure (ConstraintViolation rule)) → ⊥
refuses_never limit (Select q names) db params rule (inl h) = let e = h.0 in cc
refuses_never limit (Select q names) db params rule (inr (inl h)) = let e = h.0 in cc
refuses_never limit (Select q names) db params rule (inr (inr h)) = let e = h.0 in cc
refuses_never limit (Rows values width names) db params rule h = let e = h.0 in cc
refuses_never limit _ db params rule h = let e = h in cc

-- the error of a query is no violation of a rule
pub query_never : (sql : List ℕ) (params : Row) (old new : State) (rule : Constraint) (schema : Schema) → old.now.schema ≡ schema → IsPlain (understood schema sql) → FailsToQuery sql params old new (SqliteFailure (ConstraintViolation rule)) → ⊥
unfolding FailsToQuery
query_never sql params old new rule schema has plain (inl none) = not_run sql params old new rule none
query_never sql params old new rule schema has plain (inr (c, it, failed)) =
    let none = (subst IsPlain it.is (subst (λ s. IsPlain (understood s sql)) (sym has) plain)).0 in
    let h = subst (FailsToShow old new sql c (timed params c.formats it.now) (SqliteFailure (ConstraintViolation rule))) none failed in
    refuses_never old.step_limit c.command h.0 (timed params c.formats it.now) rule h.2
