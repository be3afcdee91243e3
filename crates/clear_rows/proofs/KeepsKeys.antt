-- DELETE, and UPDATE of one row that keeps its keys, are refused for no rule of the schema.
use Rattle.std.proofs.Common.{map, length, ◌≤◌, IsPermutation, arith, ◌≡◌, inl, inr, ℕ, ℤ, List, [], ◌∷◌, slice_get, Bool, true, false, not, ◌&&◌, cond, Option, Some, None, Err, filter, refl, sym, ap, subst, ◌∙◌, true≢false}
use Rattle.std.proofs.lemmas.Bool.{and_parts, and_from, both_ways, not-true, not-false, eq-eqb, ne_eqb}
use Rattle.std.specs.List.{list_any}
use Rattle.std.specs.Ordering.{is_eq}
use Rattle.sqlite.specs.declared.types.Value.TheVariants.{Int}
use Rattle.sqlite.specs.Order.{Row, value_cmp}
use Rattle.sqlite.specs.Table.{Table}
use Rattle.sqlite.specs.Schema.{Schema}
use Rattle.sqlite.specs.Command.TheVariants.{Update, Delete}
use Rattle.sqlite.specs.Edit.{Edit, edit_of, taken_by, are_fresh, is_taken, without_all, IsRefused}
use Rattle.sqlite.specs.Rowids.TheVariants.{Given}
use Rattle.sqlite.specs.Does.{Does}
use Rattle.sqlite.specs.Rows.{Task, Edited, Queried, Updates, Deletes}
use Rattle.sqlite.specs.Effect.{IsDatabase, Answers}
use Rattle.sqlite.specs.Tree.{Trees, rowid, has_rowid, without_rowid, put_row, with_tree, IsAscending}
use Rattle.sqlite.specs.Listing.{understood}
use Rattle.sqlite.specs.State.{State, mode_of, Executes}
use Rattle.sqlite.specs.declared.error.Error.{Error}
use Rattle.sqlite.specs.declared.error.Error.TheVariants.{SqliteFailure}
use Rattle.sqlite.specs.declared.error.ErrorCode.TheVariants.{ConstraintViolation}
use Rattle.sqlite.proofs.Callers.{IsPlain, command_of, statement_of}
use Rattle.sqlite_schema.specs.declared.program.Program.{Program}
use Rattle.sqlite_schema.specs.declared.schema.Keys.TheVariants.{Enforced}
use Rattle.sqlite_schema.specs.declared.schema.Constraint.{Constraint}
use Rattle.sqlite_schema.specs.declared.schema.Constraint.TheVariants.{Datatype, NotNull, Check, PrimaryKey, Unique, ForeignKey}
use Rattle.sqlite_schema.specs.declared.schema.Index.{Index}
use Rattle.sqlite_schema.specs.Rules.{passes, guards, agree, clashes, differ, Keeps}
use Rattle.sqlite_rules.specs.declared.error.Refusal.TheVariants as why
use Rattle.sqlite_rules.specs.Action.{works}
use Rattle.sqlite_rules.specs.Calls.{ids_of}
use Rattle.sqlite_rules.specs.Lists.{Has}
use Rattle.sqlite_rules.specs.Keys.{are_unique}
use Rattle.sqlite_rules.proofs.ListLemmas.{test_has, test_from, some_has, some_from, fails_has, has_filtered}
use Rattle.sqlite_rules.proofs.RuleLemmas.{Turns, unique_kept, keeps_at}
use Rattle.sqlite_rules.proofs.TableLemmas.{put_has, put_all_keeps, put_all_adds, without_all_has}
use Rattle.sqlite.specs.Cast.{cast_row}
use Rattle.sqlite.specs.Edit.{id_in}
use Rattle.sqlite.proofs.Callers.{one_permutation}
use Rattle.std.proofs.Common.{drop}
use Rattle.clear_rows.specs.Kept.{IsNumbered}
use Rattle.clear_rows.proofs.Edits.{no_rows}
use Rattle.clear_rows.proofs.Refused.{RefersToNone, refused_as, one_refused, violates_only, differs_not, concluded}

module _ (schema : Schema) (at : ℕ) (table : Table) (placed : slice_get schema.tables at ≡ Some table)
    (free : (olds news : List Row) → works schema Enforced 0 table.tree olds news ≡ []) (none : RefersToNone schema) (sql : List ℕ) (params : Row) (old new : State) (has : old.now.schema ≡ schema)
    (plain : IsPlain (understood schema sql)) (rule : Constraint) (ran : Executes sql params old new (Err (SqliteFailure (ConstraintViolation rule)))) where
  -- the work of the statement
  abbrev task : Task
  task = record { limit = old.step_limit; keys = (mode_of old).keys; schema = schema; table = table; params = params }

  -- the refusal for the rule
  abbrev bad : Error
  bad = SqliteFailure (ConstraintViolation rule)

  -- its query is not what was refused
  not_queried : (q : Program) (given : Row) (stop : Option Error) → Queried old.step_limit (record { schema = schema; trees = old.now.trees }) q given (Err stop) → stop ≡ Some bad → ⊥
  not_queried q given None h e = h
  not_queried q given (Some x) (inl h) e = let a = h.0 in cc
  not_queried q given (Some x) (inr (inl h)) e = let a = h.0 in cc
  not_queried q given (Some x) (inr (inr h)) e = let a = h.0 in cc

  -- so its edit was
  edit_bad : (edit : Edit) → edit.table ≡ table → (stop : Option Error) → Edited schema Enforced old.now.trees edit (Err stop) → stop ≡ Some bad → IsRefused schema Enforced old.now.trees edit (why.Violates rule)
  edit_bad edit same stop (None, w, is) e = absurd cc
  edit_bad edit same stop (Some r, w, is) e =
      let one : why.Violates rule ≡ r = violates_only rule r cc in
      let free_here : works schema Enforced 0 edit.table.tree (taken_by old.now.trees edit) edit.news ≡ [] = ap (λ (t : Table). works schema Enforced 0 t.tree (taken_by old.now.trees edit) edit.news) same ∙ free _ _ in
      subst (IsRefused schema Enforced old.now.trees edit) (sym one) (one_refused schema Enforced old.now.trees edit r free_here w)

  -- a DELETE that is refused for a rule is refused for its edit
  pub delete_violates : (q : Program) → command_of (understood schema sql) ≡ Delete at q
      → (rows : List Row) × Answers (record { schema = schema; trees = old.now.trees }) q params rows × IsRefused schema Enforced old.now.trees (edit_of old.now.trees table (ids_of rows) Given 0 []) (why.Violates rule)
  delete_violates q is =
      let text = statement_of sql (understood schema sql) in
      let start = subst (λ s. Does old.step_limit (mode_of old) params (record old.now { schema = s }) text None (Delete at q) (Err (Some bad))) has (refused_as sql params old new rule schema has (Delete at q) is plain ran) in
      elim (rw placed at start) [
        | inl stopped ↦ parts stopped.0 stopped.1 (let e = stopped.2 in cc)
        | inr wrote ↦ absurd (concluded schema at table placed free none sql params old new has plain rule ran wrote.0 wrote.2)
      ]
    where
      parts : (stop : Option Error) → Deletes task q old.now.trees (Err stop) → stop ≡ Some bad
          → (rows : List Row) × Answers (record { schema = schema; trees = old.now.trees }) q params rows × IsRefused schema Enforced old.now.trees (edit_of old.now.trees table (ids_of rows) Given 0 []) (why.Violates rule)
      parts stop (inl (s, asked, same)) e = absurd (not_queried q params s asked cc)
      parts stop (inr (rows, asked, inl (s, wrote, same))) e = (rows, asked, edit_bad (edit_of old.now.trees table (ids_of rows) Given 0 []) refl s wrote cc)
      parts stop (inr (rows, asked, inr (next, wrote, last))) e = absurd (let a = last in cc)

  -- so is an UPDATE
  pub update_violates : (q : Program) → command_of (understood schema sql) ≡ Update at q
      → (rows : List Row) × Answers (record { schema = schema; trees = old.now.trees }) q params rows × IsRefused schema Enforced old.now.trees (edit_of old.now.trees table (ids_of rows) Given 1 rows) (why.Violates rule)
  update_violates q is =
      let text = statement_of sql (understood schema sql) in
      let start = subst (λ s. Does old.step_limit (mode_of old) params (record old.now { schema = s }) text None (Update at q) (Err (Some bad))) has (refused_as sql params old new rule schema has (Update at q) is plain ran) in
      elim (rw placed at start) [
        | inl stopped ↦ parts stopped.0 stopped.1 (let e = stopped.2 in cc)
        | inr wrote ↦ absurd (concluded schema at table placed free none sql params old new has plain rule ran wrote.0 wrote.2)
      ]
    where
      parts : (stop : Option Error) → Updates task q params old.now.trees (Err stop) → stop ≡ Some bad
          → (rows : List Row) × Answers (record { schema = schema; trees = old.now.trees }) q params rows × IsRefused schema Enforced old.now.trees (edit_of old.now.trees table (ids_of rows) Given 1 rows) (why.Violates rule)
      parts stop (inl (s, asked, same)) e = absurd (not_queried q params s asked cc)
      parts stop (inr (rows, asked, inl (s, wrote, same))) e = (rows, asked, edit_bad (edit_of old.now.trees table (ids_of rows) Given 1 rows) refl s wrote cc)
      parts stop (inr (rows, asked, inr (next, wrote, last))) e = absurd (let a = last in cc)

-- ---- what a violation would say of the rows

and_false : (b : Bool) → (b && false) ≡ false
and_false true = refl
and_false false = refl

module _ (schema : Schema) (db : Trees) (table : Table) (listed : Has schema.tables table) (apart : IsAscending (λ a b. a.tree ≡ b.tree → ⊥) schema.tables)
    (sound : IsDatabase (record { schema = schema; trees = db })) where
  -- the rows of the table
  abbrev rows : List Row
  rows = db table.tree

  -- rows that are taken out leave the keys of the others as they are
  pub delete_never : (ids : List ℤ) (rule : Constraint) → IsRefused schema Enforced db (record { table = table; gone = ids; news = [] }) (why.Violates rule) → ⊥
  delete_never ids Datatype h = true≢false h
  delete_never ids NotNull h = true≢false h
  delete_never ids Check h = true≢false h
  delete_never ids PrimaryKey h = true≢false h
  delete_never ids ForeignKey h = h
  delete_never ids Unique h = h (unique_kept schema db next table left rows [] turns (test_from _ schema.indexes (λ i known. ap not (and_false (guards i table)))) (sound.obeys.rules Unique))
    where
      left : List Row
      left = without_all rows ids

      next : Trees
      next = with_tree db table.tree left

      there : next table.tree ≡ left
      there = rw (eq-eqb table.tree table.tree refl)

      turns : Turns schema db next table left rows []
      turns = record {
        apart = apart;
        listed = listed;
        others = λ t known other. rw (ne_eqb t.tree table.tree other);
        from = λ r h. inr (subst (λ l. Has l r) there h);
        stays = λ r h. subst (λ l. Has l r) (sym there) h;
        added = λ r h. absurd h;
        was = λ r h. without_all_has ids rows r h;
        split = λ r h. inr h;
      }

  -- a row takes the place of the one with its number, and has its keys
  module _ (n : ℤ) (was now : Row) (before : Has rows was) (number_was : rowid was ≡ Int n) (number_now : rowid now ≡ Int n)
      (typed : passes Datatype schema db table now ≡ true) (present : passes NotNull schema db table now ≡ true) (checked : passes Check schema db table now ≡ true)
      (same_keys : (i : Index) → Has schema.indexes i → guards i table ≡ true → (r : Row) → agree i.order i.columns r i.columns now ≡ true → agree i.order i.columns r i.columns was ≡ true) where
    -- the other rows
    abbrev left : List Row
    left = without_rowid n rows

    -- the trees with the new row
    abbrev next : Trees
    next = with_tree db table.tree (put_row now left)

    there : next table.tree ≡ put_row now left
    there = rw (eq-eqb table.tree table.tree refl)

    gone : (rs : List Row) → list_any (λ r. is_eq (value_cmp (rowid r) (Int n))) (without_rowid n rs) ≡ false
    gone [] = refl
    gone (r ∷ rs) = go (has_rowid n r) refl (gone rs)
      where
        go : (b : Bool) → has_rowid n r ≡ b → list_any (λ r. is_eq (value_cmp (rowid r) (Int n))) (without_rowid n rs) ≡ false
            → list_any (λ r. is_eq (value_cmp (rowid r) (Int n))) (cond (not b) (r ∷ without_rowid n rs) (without_rowid n rs)) ≡ false
        go true e more = more
        go false e more = rw (e, more)

    not_taken : is_taken left now ≡ false
    not_taken = subst (λ v. list_any (λ r. is_eq (value_cmp (rowid r) v)) left ≡ false) (sym number_now) (gone rows)

    fresh : are_fresh left (now ∷ []) ≡ true
    fresh = rw not_taken

    turns : Turns schema db next table left rows (now ∷ [])
    turns = record {
      apart = apart;
      listed = listed;
      others = λ t known other. rw (ne_eqb t.tree table.tree other);
      from = λ r h. elim (put_has now left r (subst (λ l. Has l r) there h)) [ inl same ↦ inl (inl same) | inr kept ↦ inr kept ];
      stays = λ r h. subst (λ l. Has l r) (sym there) (put_all_keeps (now ∷ []) left r fresh h);
      added = λ r h. subst (λ l. Has l r) (sym there) (put_all_adds (now ∷ []) left r fresh h);
      was = λ r h. (has_filtered _ rows r h).0;
      split = λ r h. inr h;
    }

    only : {r : Row} → Has (now ∷ []) r → r ≡ now
    only (inl same) = same
    only (inr none) = absurd none

    no_clash : are_unique schema.indexes next table (now ∷ []) ≡ false → ⊥
    no_clash fails =
        let index = fails_has (λ (i : Index). not (guards i table && list_any (clashes i.order i.columns (next table.tree)) (now ∷ []))) schema.indexes fails in
        let parts = and_parts _ _ (not-false _ index.2) in
        let row = some_has (clashes index.0.order index.0.columns (next table.tree)) (now ∷ []) parts.1 in
        let other = some_has (λ r. agree index.0.order index.0.columns r index.0.columns now && differ (rowid r) (rowid now)) (next table.tree) (subst (λ r. clashes index.0.order index.0.columns (next table.tree) r ≡ true) (only row.1) row.2) in
        let both = and_parts _ _ other.2 in
        elim (turns.from other.0 other.1) [
          | inl same ↦ differs_not (rowid now) n number_now (subst (λ r. differ (rowid r) (rowid now) ≡ true) (only same) both.1)
          | inr kept ↦
              let agreed = same_keys index.0 index.1 parts.0 other.0 both.0 in
              let apart_ids : differ (rowid other.0) (rowid was) ≡ true = subst (λ v. differ (rowid other.0) v ≡ true) (number_now ∙ sym number_was) both.1 in
              both_ways _ (not-true _ (test_has _ schema.indexes index.0 (keeps_at Unique schema db table was (sound.obeys.rules Unique) listed before) index.1))
              (and_from _ _ parts.0 (some_from (λ r. agree index.0.order index.0.columns r index.0.columns was && differ (rowid r) (rowid was)) rows other.0 ((has_filtered _ rows other.0 kept).0) (and_from _ _ agreed apart_ids)))
        ]

    unless_unique : (b : Bool) → are_unique schema.indexes next table (now ∷ []) ≡ b → ¬ Keeps Unique schema next → ⊥
    unless_unique true unique breaks = breaks (unique_kept schema db next table left rows (now ∷ []) turns unique (sound.obeys.rules Unique))
    unless_unique false unique breaks = no_clash unique

    -- it is refused for no rule
    pub update_never : (rule : Constraint) → IsRefused schema Enforced db (record { table = table; gone = n ∷ []; news = now ∷ [] }) (why.Violates rule) → ⊥
    update_never Datatype h = true≢false (sym (and_from _ _ typed refl) ∙ h)
    update_never NotNull h = true≢false (sym (and_from _ _ present refl) ∙ h)
    update_never Check h = true≢false (sym (and_from _ _ checked refl) ∙ h)
    update_never PrimaryKey h = true≢false (sym fresh ∙ h)
    update_never Unique h = unless_unique (are_unique schema.indexes next table (now ∷ [])) refl h
    update_never ForeignKey h = h

-- UPDATE of the row that has a number, over typed rows
module _ {Y : Type 0} (key : Y → ℤ) (to_row : Y → Row) (keyed : (y : Y) → rowid (to_row y) ≡ Int (key y)) (schema : Schema) (db : Trees) (table : Table) (ys : List Y) (kept : IsNumbered key to_row ys (db table.tree))
    (listed : Has schema.tables table) (apart : IsAscending (λ a b. a.tree ≡ b.tree → ⊥) schema.tables) (sound : IsDatabase (record { schema = schema; trees = db })) where
  -- an UPDATE of at most one row that keeps its number and its unique keys is refused for no rule
  pub update_harmless : (rs : List Row) (p : Y → Bool) (f : Y → Y) (show : Y → Row) → ((y : Y) → key (f y) ≡ key y) → ((y : Y) → rowid (show y) ≡ Int (key y)) → ((y : Y) → cast_row table (drop 1 (show y)) ≡ to_row (f y))
      → length (filter p ys) ≤ 1 → IsPermutation (map show (filter p ys)) rs
      → ((y : Y) → passes Datatype schema db table (to_row (f y)) ≡ true) → ((y : Y) → passes NotNull schema db table (to_row (f y)) ≡ true) → ((y : Y) → passes Check schema db table (to_row (f y)) ≡ true)
      → ((i : Index) → Has schema.indexes i → guards i table ≡ true → (y : Y) (r : Row) → agree i.order i.columns r i.columns (to_row (f y)) ≡ true → agree i.order i.columns r i.columns (to_row y) ≡ true)
      → (rule : Constraint) → IsRefused schema Enforced db (edit_of db table (ids_of rs) Given 1 rs) (why.Violates rule) → ⊥
  update_harmless rs p f show same_key shows stored few same typed present checked same_keys rule bad = go (filter p ys) refl few same
    where
      mapped : (zs : List Y) (y : Y) → Has zs y → Has (map to_row zs) (to_row y)
      mapped [] y h = absurd h
      mapped (z ∷ zs) y (inl here) = inl (ap to_row here)
      mapped (z ∷ zs) y (inr later) = inr (mapped zs y later)

      go : (found : List Y) → filter p ys ≡ found → length found ≤ 1 → IsPermutation (map show found) rs → ⊥
      go [] is few perm = delete_never schema db table listed apart sound [] rule (subst (λ (l : List Row). IsRefused schema Enforced db (edit_of db table (ids_of l) Given 1 l) (why.Violates rule)) (no_rows rs perm) bad)
      go (y ∷ []) is few perm =
          let alone = one_permutation (show y) rs perm in
          let one : IsRefused schema Enforced db (edit_of db table (ids_of (show y ∷ [])) Given 1 (show y ∷ [])) (why.Violates rule) = subst (λ (l : List Row). IsRefused schema Enforced db (edit_of db table (ids_of l) Given 1 l) (why.Violates rule)) alone bad in
          let named : IsRefused schema Enforced db (record { table = table; gone = key y ∷ []; news = to_row (f y) ∷ [] }) (why.Violates rule) =
          subst (λ n. IsRefused schema Enforced db (record { table = table; gone = n ∷ []; news = to_row (f y) ∷ [] }) (why.Violates rule)) (ap id_in (shows y))
          (subst (λ r. IsRefused schema Enforced db (record { table = table; gone = ids_of (show y ∷ []); news = r ∷ [] }) (why.Violates rule)) (stored y) one) in
          let there : Has ys y = (has_filtered p ys y (subst (λ (l : List Y). Has l y) (sym is) (inl refl))).0 in
          update_never schema db table listed apart sound (key y) (to_row y) (to_row (f y)) (subst (λ (l : List Row). Has l (to_row y)) (sym kept.is) (mapped ys y there)) (keyed y) (keyed (f y) ∙ ap (λ n. Int n) (same_key y))
          (typed y) (present y) (checked y) (λ i known on r. same_keys i known on y r) rule named
      go (y ∷ z ∷ more) is few perm = absurd (omega arith)
