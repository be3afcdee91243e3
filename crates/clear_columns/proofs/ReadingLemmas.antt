-- Readers: what is still to come after each row.
use Rattle.std.proofs.Common.{◌≡◌, ℕ, false, List, [], ◌∷◌, ◌++◌, Option, Some, None, Result, Ok, Err, OnErr, IsTrue, map, refl, sym, ap, subst, ◌∙◌, append_assoc, inl, inr, arith}
use Rattle.std.proofs.lemmas.List.{map-append}
use Rattle.std.specs.Prelude.{IfOk}
use Rattle.sqlite.proofs.Callers.{IsPlain, begins_as, begun_plain, command_of, given_begin, never_commits, reads_as}
use Rattle.sqlite.proofs.StateLemmas.{survives_weaker}
use Rattle.sqlite.specs.Clock.{timed}
use Rattle.sqlite.specs.Command.TheVariants.{Select}
use Rattle.sqlite.specs.Effect.{Answers, Database, Reads}
use Rattle.sqlite.specs.Given.{HasBegun, HasGiven, IsRefused}
use Rattle.sqlite.specs.Held.{Held, state}
use Rattle.sqlite.specs.Listing.{understood, reads_listing}
use Rattle.sqlite.specs.Order.{Row}
use Rattle.sqlite.specs.Query.{Query}
use Rattle.sqlite.specs.Schema.{Schema}
use Rattle.sqlite.specs.State.{CommitsShowing, FailsToQuery, HasCleanDisk, IsUnchanged, Shown, ShowsRows, State, Survives}
use Rattle.sqlite.specs.Store.{Ghosts}
use Rattle.sqlite.specs.Tree.{Trees}
use Rattle.sqlite.specs.declared.error.Error.{Error}
use Rattle.sqlite_schema.specs.declared.command.Returning.{Returning}
use Rattle.clear_rows.proofs.Inside.{query_keeps}
use Rattle.clear_rows.proofs.Refused.{query_never}
use Rattle.sqlite_schema.specs.declared.program.Program.{Program}
use Rattle.clear_values.specs.declared.causes.StoreCause.TheVariants.{Constraint}
use Rattle.clear_schema.proofs.Causes.{query_broke}
use Rattle.clear_schema.specs.Faults.{fault_of}
use Rattle.clear_schema.specs.declared.fault.Fault.TheVariants.{Store}
use Rattle.clear_schema.specs.Frame.{AnswersJust}
use Rattle.clear_values.specs.Tables.{Tables}
use Rattle.clear_schema.specs.Held.{HasTables}
use Rattle.clear_columns.specs.Reading.{Begun, HasSomeTables, HasToGive, IsLeft, ReadsOn}

-- a query breaks no rule
pub asks_only : (sql : List ℕ) (params : Row) (old new : State) (e : Error) → IsPlain (understood old.now.schema sql) → FailsToQuery sql params old new e → fault_of e ≡ Store Constraint → ⊥
asks_only sql params old new e plain failed told =
    let broke = query_broke sql params old new e told (inl failed) in
    query_never sql params old new broke.0 old.now.schema refl plain broke.1

-- it commits nothing
pub commits_nothing : (sql : List ℕ) (params : Row) (old new : State) → IsPlain (understood old.now.schema sql) → Survives old new (CommitsShowing sql params old) → Survives old new (λ _. ⊥)
commits_nothing sql params old new plain = survives_weaker old new _ _ (λ _ db. never_commits sql params old db plain)

-- the disk was clean before, too
was_clean : (old new : State) (Commits : Trees → Type 0) → Survives old new Commits → HasCleanDisk new → HasCleanDisk old
was_clean old new Commits survives clean = omega (arith, survives.clean, clean)

-- what shows rows leaves the connection open
shown_open : (sql : List ℕ) (params : Row) (old new : State) (rows : List Row) → Shown sql params old new rows → IsTrue new.is_open
unfolding Shown
shown_open sql params old new rows (c, it, shows) = told c.returning shows
  where
    told : (returning : Option Returning) → ShowsRows old new sql c (timed params c.formats it.now) rows returning → IsTrue new.is_open
    told None h = h.3.0.is_open
    told (Some what) h = h.1.shown.is_open

-- so does a query that has begun
begun_open : {S : Type 0} (g : Ghosts S) (sql : List ℕ) (params : Row) (old new : Held S) → HasBegun g sql params old new → IsTrue (state g new).is_open
begun_open g sql params old new (inl begun) = begun.1.0.is_open
begun_open g sql params old new (inr shown) = shown_open sql params (state g old) (state g new) _ shown.1

-- where it does not begin, it leaves all that was committed
pub left : {S A : Type 0} (g : Ghosts S) (sql : List ℕ) (params : Row) (old new : Held S) (result : Result A Error) → OnErr result (IsRefused g sql params old result new) → OnErr result (IsLeft g old (IsPlain (understood old.schema sql)) result new)
left g sql params old new (Ok x) refused = tt
left g sql params old new (Err e) refused = record {
  cause = λ plain clean told. asks_only sql params (state g old) (state g new) e plain (refused.err clean) told;
  kept = λ plain clean. query_keeps sql params (state g old) (state g new) e (inl (refused.err clean));
  clean = was_clean (state g old) (state g new) _ refused.survives;
  mode = refused.mode;
  survives = λ plain. commits_nothing sql params (state g old) (state g new) plain refused.survives;
}

-- a query, as all that a text says
abbrev alone : Query → Program
alone query = record { lets = []; body = query }

-- a query answers what its program does
pub answers_just : {S : Type 0} (g : Ghosts S) {query : Query} (names : List (List ℕ)) (sql : List ℕ) (params : Row) (schema : Schema) → command_of (understood schema sql) ≡ Select (alone query) names → IsPlain (understood schema sql) → reads_listing schema sql ≡ false
    → (db : Database) → db.schema ≡ schema → (rows : List Row) → ((answer : List Row) → Answers db (alone query) params answer → answer ≡ rows) → AnswersJust g sql params db rows
answers_just g {query} names sql params schema is plain unlisted db has rows whole = record {
  plain = subst (λ s. IsPlain (understood s sql)) (sym has) plain;
  whole = λ old new answer here shown. whole answer (subst (λ (d : Database). Reads (Select (alone query) names) d params answer) here (reads_as sql params (state g old) (state g new) schema (ap (λ (d : Database). d.schema) here ∙ has) _ is plain unlisted answer shown));
  start = λ old first here begun.
      let it = begins_as sql params (state g old) (state g old) schema (ap (λ (d : Database). d.schema) here ∙ has) _ is plain unlisted first begun in
      (it.1.0, whole (first ++ it.1.0) (subst (λ (d : Database). Answers d (alone query) params (first ++ it.1.0)) here (record { typed = it.0; answer = it.1.1 })));
}

module _ {X : Type 0} (show : X → Row) where
  -- where one more row came, it shows the first of those to come
  begins_next : (given rest : List X) (row : Row) (tail : List Row) → (map show given ++ row ∷ []) ++ tail ≡ map show (given ++ rest) → (x : X) × (more : List X) × (rest ≡ x ∷ more) × (row ≡ show x)
  begins_next [] [] row tail h = absurd cc
  begins_next [] (x ∷ more) row tail h = (x, more, refl, cc)
  begins_next (y ∷ given) rest row tail h = begins_next given rest row tail cc

  -- where the rows so far are all, none is to come
  ends_next : (given rest : List X) → map show given ≡ map show (given ++ rest) → rest ≡ []
  ends_next [] [] h = refl
  ends_next [] (x ∷ more) h = absurd cc
  ends_next (y ∷ given) rest h = ends_next given rest cc

  module _ {S : Type 0} (g : Ghosts S) (old new : Held S) where
    -- a query that has begun has all its rows to give
    pub begun : (sql : List ℕ) (params : Row) (rows : List X) → AnswersJust g sql params (state g old).now (map show rows) → HasBegun g sql params old new
        → HasToGive g show new rows × IsUnchanged (state g old) (state g new)
    begun sql params rows just start =
        let both = begun_plain g sql params old new just.plain start in
        (record { sql = sql; params = params; given = []; gave = both.0; all = subst (λ d. AnswersJust g sql params d (map show rows)) (sym both.1.0.now_is) just }, both.1)

    -- a row that came shows the first of those to come
    pub gives_row : (rest : List X) (to_give : HasToGive g show old rest) → (state g new).now ≡ (state g old).now → (row : Row) → HasGiven g to_give.sql to_give.params new (map show to_give.given ++ row ∷ [])
        → (x : X) × (row ≡ show x) × (more : List X) × (rest ≡ x ∷ more) × HasToGive g show new more
    gives_row rest to_give same row gave =
        let sql = to_give.sql in
        let params = to_give.params in
        let given = to_give.given in
        let first = to_give.all.start new (map show given ++ row ∷ []) same (given_begin g sql params new _ gave) in
        let it = begins_next given rest row first.0 first.1 in
        let x = it.0 in
        let more = it.1 in
        let so_far : map show given ++ row ∷ [] ≡ map show (given ++ x ∷ []) = ap (λ r. map show given ++ r ∷ []) it.3 ∙ sym (map-append show given (x ∷ [])) in
        let whole : given ++ rest ≡ (given ++ x ∷ []) ++ more = ap (λ l. given ++ l) it.2 ∙ sym (append_assoc given (x ∷ []) more) in (
          x,
          it.3,
          more,
          it.2,
          record {
            sql = sql;
            params = params;
            given = given ++ x ∷ [];
            gave = subst (HasGiven g sql params new) so_far gave;
            all = subst (λ d. AnswersJust g sql params d (map show ((given ++ x ∷ []) ++ more))) (sym same) (subst (λ l. AnswersJust g sql params (state g old).now (map show l)) whole to_give.all);
          },
        )

    -- where none came, none was to come
    pub gives_none : (rest : List X) (to_give : HasToGive g show old rest) → Shown to_give.sql to_give.params (state g old) (state g new) (map show to_give.given) → rest ≡ []
    gives_none rest to_give shown = ends_next to_give.given rest (to_give.all.whole old new _ refl shown)

  -- a query that has begun
  pub begins : {S A : Type 0} (g : Ghosts S) (sql : List ℕ) (params : Row) (old : Held S) (into : A → Held S) (made : Result A Error) → IfOk made (λ rows. HasCleanDisk (state g (into rows)) → HasBegun g sql params old (into rows)) → IfOk made (λ rows. old.in_transaction ≡ false → (into rows).in_transaction ≡ false)
      → IfOk made (λ rows. Survives (state g old) (state g (into rows)) (CommitsShowing sql params (state g old)))
      → IfOk made (λ rows. Begun g old (into rows) (IsPlain (understood old.schema sql)) (λ all. AnswersJust g sql params (state g old).now (map show all)) show (λ all. all))
  begins g sql params old into (Ok rows) start mode kept = record {
    begun = λ clean all just. (begun g old (into rows) sql params all just (start clean)).0;
    same = λ clean plain. (begun_plain g sql params old (into rows) plain (start clean)).1;
    is_open = λ clean. begun_open g sql params old (into rows) (start clean);
    clean = was_clean (state g old) (state g (into rows)) _ kept;
    mode = mode;
    survives = λ plain. commits_nothing sql params (state g old) (state g (into rows)) plain kept;
  }
  begins g sql params old into (Err e) start mode kept = tt

-- ---- readers of the tables that the database has

module _ {S : Type 0} (g : Ghosts S) (old : Held S) (sql : List ℕ) (params : Row) where
  -- a query of which it is known what it answers only asks
  asks : (rows : Tables → List Row) → ((t : Tables) → HasTables t (state g old).now → AnswersJust g sql params (state g old).now (rows t)) → HasSomeTables (state g old).now → IsPlain (understood old.schema sql)
  asks rows just has = (just has.0 has.1).plain

  left_on : {A : Type 0} (new : Held S) (rows : Tables → List Row) → ((t : Tables) → HasTables t (state g old).now → AnswersJust g sql params (state g old).now (rows t)) → (made : Result A Error) → OnErr made (IsLeft g old (IsPlain (understood old.schema sql)) made new)
      → OnErr made (IsLeft g old (HasSomeTables (state g old).now) made new)
  left_on new rows just (Ok x) left = tt
  left_on new rows just (Err e) left = record {
    cause = λ has. left.cause (asks rows just has);
    kept = λ has. left.kept (asks rows just has);
    clean = left.clean;
    mode = left.mode;
    survives = λ has. left.survives (asks rows just has);
  }

  reads_on : {A X : Type 0} (into : A → Held S) (show : X → Row) (rows : Tables → List X) → ((t : Tables) → HasTables t (state g old).now → AnswersJust g sql params (state g old).now (map show (rows t))) → (made : Result A Error)
      → IfOk made (λ r. Begun g old (into r) (IsPlain (understood old.schema sql)) (λ all. AnswersJust g sql params (state g old).now (map show all)) show (λ all. all)) → IfOk made (λ r. ReadsOn g old (into r) show rows)
  reads_on into show rows just (Err e) begun = tt
  reads_on into show rows just (Ok x) begun = record {
    begun = λ clean t has. begun.begun clean (rows t) (just t has);
    same = λ clean has. begun.same clean (asks (λ t. map show (rows t)) just has);
    is_open = begun.is_open;
    clean = begun.clean;
    mode = begun.mode;
    survives = λ has. begun.survives (asks (λ t. map show (rows t)) just has);
  }

  -- so both, of a reader
  pub begins_on : {A X : Type 0} (new : Held S) (into : A → Held S) (show : X → Row) (rows : Tables → List X) → ((t : Tables) → HasTables t (state g old).now → AnswersJust g sql params (state g old).now (map show (rows t))) → (made : Result A Error) → OnErr made (IsLeft g old (IsPlain (understood old.schema sql)) made new)
      → IfOk made (λ r. Begun g old (into r) (IsPlain (understood old.schema sql)) (λ all. AnswersJust g sql params (state g old).now (map show all)) show (λ all. all)) → OnErr made (IsLeft g old (HasSomeTables (state g old).now) made new) × IfOk made (λ r. ReadsOn g old (into r) show rows)
  begins_on new into show rows just made left begun = (left_on new (λ t. map show (rows t)) just made left, reads_on into show rows just made begun)
