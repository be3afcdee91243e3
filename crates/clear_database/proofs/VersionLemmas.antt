-- What the query for the schema's number answers.
use Rattle.std.proofs.Common.{◌≡◌, ◌⊎◌, inl, inr, ℕ, pos, Bool, true, false, List, [], ◌∷◌, Option, Some, Ok, Err, Result, IfOk, refl, sym, ap, subst, ◌∙◌, codes}
use Rattle.sqlite.specs.Command.{Command}
use Rattle.sqlite.specs.Command.TheVariants.{Select, Rows}
use Rattle.sqlite.specs.Collation.TheVariants.{Binary}
use Rattle.sqlite.specs.declared.types.Value.{Value}
use Rattle.sqlite.specs.declared.types.Value.TheVariants.{Int, Null}
use Rattle.sqlite.specs.declared.error.Error.{Error}
use Rattle.sqlite.specs.declared.error.Error.TheVariants.{SqliteFailure, MultipleStatement, InvalidQuery, InvalidParameterCount, QueryReturnedNoRows}
use Rattle.sqlite.specs.Order.{Row}
use Rattle.sqlite.specs.Term.{Term, lit, col, op2}
use Rattle.sqlite.specs.State.{State, IsUnchanged, QueriesRow, Shown, Survives, CommitsShowing, FailsToQuery, IsNotRun, FailsToShow, store_error}
use Rattle.sqlite.specs.Effect.{Answers, Database, RefusesToRead}
use Rattle.sqlite.specs.Schema.{Schema}
use Rattle.sqlite.specs.Table.{Table}
use Rattle.sqlite_schema.specs.declared.schema.Index.{Index}
use Rattle.sqlite_schema.specs.declared.schema.View.{View as Stored}
use Rattle.sqlite.specs.Clock.{timed}
use Rattle.sqlite.specs.Listing.{understood, reads_listing}
use Rattle.std.proofs.lemmas.List.Sorted.{length_permutation}
use Rattle.sqlite.proofs.Callers.{IsPlain, command_of, first_as, one_permutation, reads_as}
use Rattle.sqlite_sql.specs.declared.ops.BinaryOp.TheVariants.{Compare}
use Rattle.sqlite_sql.specs.declared.ops.CompareOp.TheVariants.{Eq}
use Rattle.sqlite_tied.specs.Compute.{everything}
use Rattle.sqlite_trees.specs.declared.error.StoreError.{StoreError}
use Rattle.sqlite_trees.specs.declared.error.StoreError.TheVariants.{OutOfMemory, Io, Corrupt, Full, Broken, Unstorable}
use Rattle.clear_rows.specs.Plain.{passes, plain_program}
use Rattle.clear_rows.proofs.Queries.{shown_in_some_order}
use Rattle.clear_rows.proofs.Reopened.{query_survives}
use Rattle.clear_rows.proofs.Statements.{shown_unchanged}
use Rattle.clear_schema.specs.Held.{HasMeta, TellsSchema}
use Rattle.clear_schema.specs.Schema.{meta_table}
use Rattle.clear_schema.specs.Values.{number}
use Rattle.clear_schema.proofs.ValueLemmas.{equal_ints}

abbrev pub version_text : List ℕ
version_text = codes "SELECT schema FROM meta WHERE one = 1"

abbrev pub of_one : List Term
of_one = op2 (Compare Eq Binary) (col 1 0) (lit (Int (pos 1))) ∷ []

-- ---- what the text means

-- a schema whose first table is `meta`
abbrev pub behind_meta : List Table → List Index → List Stored → Schema
behind_meta others indexes views = record { tables = meta_table ∷ others; indexes = indexes; views = views }

version_is : (others : List Table) (indexes : List Index) (views : List Stored) → command_of (understood (behind_meta others indexes views) version_text) ≡ Select (plain_program 0 of_one (col 1 2 ∷ []) []) (codes "schema" ∷ [])
unfolding understood everything
version_is others indexes views = refl

version_plain_behind : (others : List Table) (indexes : List Index) (views : List Stored) → IsPlain (understood (behind_meta others indexes views) version_text)
unfolding understood everything
version_plain_behind others indexes views = (refl, refl)

version_reads_behind : (others : List Table) (indexes : List Index) (views : List Stored) → reads_listing (behind_meta others indexes views) version_text ≡ false
unfolding understood everything
version_reads_behind others indexes views = refl

module _ (s : Schema) (has : HasMeta s) where
  is_behind : s ≡ behind_meta has.0 s.indexes s.views
  is_behind = ap (λ (tables : List Table). record s { tables = tables }) has.1

  pub version_means : command_of (understood s version_text) ≡ Select (plain_program 0 of_one (col 1 2 ∷ []) []) (codes "schema" ∷ [])
  version_means = ap (λ k. command_of (understood k version_text)) is_behind ∙ version_is has.0 s.indexes s.views

  pub version_plain : IsPlain (understood s version_text)
  version_plain = subst (λ k. IsPlain (understood k version_text)) (sym is_behind) (version_plain_behind has.0 s.indexes s.views)

  pub version_reads : reads_listing s version_text ≡ false
  version_reads = ap (λ k. reads_listing k version_text) is_behind ∙ version_reads_behind has.0 s.indexes s.views

-- ---- the errors of the call, and those of the text or the answer

abbrev is_failure : Error → Bool
is_failure (SqliteFailure code) = true
is_failure MultipleStatement = true
is_failure InvalidQuery = true
is_failure (InvalidParameterCount given wanted) = true
is_failure _ = false

stored_fails : (cause : StoreError) → is_failure (store_error cause) ≡ true
stored_fails OutOfMemory = refl
stored_fails Io = refl
stored_fails Corrupt = refl
stored_fails Full = refl
stored_fails Broken = refl
stored_fails Unstorable = refl

-- the query commits nothing
pub version_survives : (old new : State) → HasMeta old.now.schema → Survives old new (CommitsShowing version_text [] old) → Survives old new (λ _. ⊥)
version_survives old new has s = query_survives version_text [] old new old.now.schema refl (version_plain old.now.schema has) s

-- ---- on a store

-- the one row of `meta`, whatever its columns are but the first two
abbrev meta_row : Value → Row → Row
meta_row v rest = number 1 ∷ Null ∷ v ∷ rest

by_one : (v : Value) (rest : Row) → passes of_one [] (meta_row v rest) ≡ true
by_one v rest = rw (equal_ints (pos 1) (pos 1)) refl

module _ (v : Value) (rest : Row) (old new : State) (has : HasMeta old.now.schema) (kept : old.now.trees 0 ≡ meta_row v rest ∷ []) where
  all : (rows : List Row) → Answers (record { schema = old.now.schema; trees = old.now.trees }) (plain_program 0 of_one (col 1 2 ∷ []) []) [] rows → rows ≡ (v ∷ []) ∷ []
  all rows answer =
      one_permutation (v ∷ []) rows
      (shown_in_some_order 0 of_one (col 1 2 ∷ []) [] [] (meta_row v) (λ x. x) (λ x. true) (by_one v) (λ x. ([], v ∷ [])) (λ _. refl) old.now.schema old.now.trees (rest ∷ []) kept rows answer)

  -- the answer is its third column
  pub value_is : (row : Row) → QueriesRow version_text [] old new (Ok row) → row ≡ v ∷ []
  value_is row h =
      let first = first_as version_text [] old new old.now.schema refl _ (version_means old.now.schema has) (version_plain old.now.schema has) (version_reads old.now.schema has) row h in
      let both = all (row ∷ first.1.0) (record { typed = first.0; answer = first.1.1 }) in
      cc

-- where `meta` has no row, there is none
pub no_row : (old new : State) (row : Row) → HasMeta old.now.schema → old.now.trees 0 ≡ [] → QueriesRow version_text [] old new (Ok row) → ⊥
no_row old new row has kept h =
    let first = first_as version_text [] old new old.now.schema refl _ (version_means old.now.schema has) (version_plain old.now.schema has) (version_reads old.now.schema has) row h in
    let same = shown_in_some_order 0 of_one (col 1 2 ∷ []) [] [] (meta_row Null) (λ x. x) (λ x. true) (by_one Null) (λ x. ([], Null ∷ [])) (λ _. refl) old.now.schema old.now.trees [] kept (row ∷ first.1.0) (record { typed = first.0; answer = first.1.1 }) in
    let none = length_permutation [] (row ∷ first.1.0) same in
    absurd cc

pub number_is : (n : ℕ) (old new : State) → TellsSchema n old.now → (row : Row) → QueriesRow version_text [] old new (Ok row) → row ≡ number n ∷ []
number_is n old new is row h = value_is (number n) is.counts old new is.meta is.told row h

-- ---- the errors that a query with a known meaning does not give

refused_fails : (limit : Option ℕ) (command : Command) (db : Database) (params : Row) (e : Error) → RefusesToRead limit command db params e → is_failure e ≡ true
refused_fails limit (Select q names) db params e (inl h) = ap is_failure h.0
refused_fails limit (Select q names) db params e (inr (inl h)) = ap is_failure h.0
refused_fails limit (Select q names) db params e (inr (inr h)) = ap is_failure h.0
refused_fails limit (Rows values width names) db params e h = ap is_failure h.0
refused_fails limit _ db params e h = ap is_failure h

module _ (old new : State) (has : HasMeta old.now.schema) (e : Error) where
  known : IsPlain (understood old.now.schema version_text)
  known = version_plain old.now.schema has

  not_run_fails : IsNotRun old new version_text [] e → is_failure e ≡ true
  unfolding IsNotRun
  not_run_fails (inl (inl h, same)) = absurd (subst IsPlain h.1 known)
  not_run_fails (inl (inr (c, is, inl h), same)) = ap is_failure h.1
  not_run_fails (inl (inr (c, is, inr (inl h)), same)) = ap is_failure h.1
  not_run_fails (inl (inr (c, is, inr (inr h)), same)) = ap is_failure h.1
  not_run_fails (inr h) = ap is_failure h.1 ∙ stored_fails h.0

  query_fails : FailsToQuery version_text [] old new e → is_failure e ≡ true
  unfolding FailsToQuery
  query_fails (inl h) = not_run_fails h
  query_fails (inr h) =
      let none = (subst IsPlain h.1.is known).0 in
      let it = subst (FailsToShow old new version_text h.0 (timed [] h.0.formats h.1.now) e) none h.2 in
      refused_fails old.step_limit h.0.command it.0 _ e it.2

  error_is : QueriesRow version_text [] old new (Err e) → (is_failure e ≡ true) ⊎ ((e ≡ QueryReturnedNoRows) × Shown version_text [] old new [])
  unfolding QueriesRow
  error_is (inl h) = inl (query_fails h)
  error_is (inr h) = inr h

pub no_rows_never : (v : Value) (rest : Row) (old new : State) → HasMeta old.now.schema → old.now.trees 0 ≡ meta_row v rest ∷ [] → QueriesRow version_text [] old new (Err QueryReturnedNoRows) → ⊥
no_rows_never v rest old new has kept h = elim (error_is old new has QueryReturnedNoRows h) [
  | inl f ↦ absurd cc
  | inr r ↦ absurd (let none = all v rest old new has kept [] (reads_as version_text [] old new old.now.schema refl _ (version_means old.now.schema has) (version_plain old.now.schema has) (version_reads old.now.schema has) [] r.1) in cc)
]

pub not_no_rows : (n : ℕ) (old new : State) → TellsSchema n old.now → QueriesRow version_text [] old new (Err QueryReturnedNoRows) → ⊥
not_no_rows n old new is = no_rows_never (number n) is.counts old new is.meta is.told

pub told_number : {E : Type 0} (r : Result (Option ℕ) E) (row : Row) (k : ℕ) → IfOk r (λ found. (n : ℕ) → row ≡ number n ∷ [] → found ≡ Some n) → row ≡ number k ∷ [] → IfOk r (λ found. found ≡ Some k)
told_number (Ok found) row k h is = h k is
told_number (Err e) row k h is = tt

-- ---- the query leaves all

pub found_unchanged : (old new : State) (row : Row) → HasMeta old.now.schema → QueriesRow version_text [] old new (Ok row) → IsUnchanged old new
unfolding QueriesRow
found_unchanged old new row has (inl h) = h.1
found_unchanged old new row has (inr h) = shown_unchanged version_text [] old new h.0 old.now.schema refl (version_plain old.now.schema has) h.1

pub none_unchanged : (old new : State) → HasMeta old.now.schema → QueriesRow version_text [] old new (Err QueryReturnedNoRows) → IsUnchanged old new
none_unchanged old new has h = elim (error_is old new has QueryReturnedNoRows h) [
  | inl f ↦ absurd cc
  | inr r ↦ shown_unchanged version_text [] old new [] old.now.schema refl (version_plain old.now.schema has) r.1
]
