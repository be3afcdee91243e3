-- What a look at the tables and a change of them promise inside of a transaction, apart from that
-- they give the connection back.
use Rattle.std.specs.Prelude.{◌≡◌, ◌≢◌, ◌++◌, ⊤, Bool, true, false, List, length, map, Option, Some, slice_get, Vec}
use Rattle.std.specs.Prelude.{ℕ, Result, Err, IfErr, IfOk, IfSome, IsTrue, OnOk}
use Rattle.std.specs.List.{AllByRecursion}
use Rattle.std.specs.declared.alloc.Global.{Global}
use Rattle.sqlite.specs.Effect.{Database}
use Rattle.sqlite.specs.Given.{IsPlain}
use Rattle.sqlite.specs.Held.{Held, state}
use Rattle.sqlite.specs.Listing.{understood}
use Rattle.sqlite.specs.Order.{Row}
use Rattle.sqlite.specs.State.{Begins, HasCleanDisk, IsUnchanged, KeepsCommit, Shown, Survives}
use Rattle.sqlite.specs.Store.{Ghosts}
use Rattle.clear_values.specs.Tables.{Tables}
use Rattle.clear_values.specs.declared.causes.StoreCause.TheVariants.{Constraint, Row as OutOfRange}
use Rattle.clear_schema.specs.Held.{HasTables}
use Rattle.clear_schema.specs.Runs.{IsDone, IsBroken}
use Rattle.clear_values.specs.declared.causes.Fault.{Fault}
use Rattle.clear_values.specs.declared.causes.Fault.TheVariants.{Store}

-- ---- queries

-- the text is a query that answers just these rows of the database
pub record AnswersJust {S : Type 0} (g : Ghosts S) (sql : List ℕ) (params : Row) (db : Database)
    (rows : List Row) : Type 0 where
  pub plain : IsPlain (understood db.schema sql)
  pub whole : (old new : Held S) (answer : List Row) → (state g old).now ≡ db
      → Shown sql params (state g old) (state g new) answer → answer ≡ rows
  pub start : (old : Held S) (first : List Row) → (state g old).now ≡ db
      → Begins sql params (state g old) first → (rest : List Row) × (first ++ rest ≡ rows)

-- ---- looks

-- a look at a database that is one of these: what it finds there, which values it gives in any
-- case, and what is out of its range where it fails with `Row`
pub record Looks {S A I : Type 0} (g : Ghosts S) (old new : Held S) (is_one : I → Type 0)
    (result : Result A Fault) (is_found : I → A → Type 0) (is_good : A → Type 0)
    (is_out : I → Type 0) : Type 0 where
  pub found : HasCleanDisk (state g new) → (i : I) → is_one i → IfOk result (is_found i)
  pub good : IfOk result is_good
  pub cause : HasCleanDisk (state g new) → (i : I) → is_one i
      → IfErr result (λ fault. fault ≢ Store Constraint)
  pub range : HasCleanDisk (state g new) → (i : I) → is_one i
      → IfErr result (λ fault. fault ≡ Store OutOfRange → is_out i)
  pub same : HasCleanDisk (state g new) → (i : I) → is_one i
      → OnOk result (IsUnchanged (state g old) (state g new))
  pub kept : HasCleanDisk (state g new) → (i : I) → is_one i
      → KeepsCommit (state g old) (state g new)
  pub survives : Survives (state g old) (state g new) (λ _. ⊥)

-- there is a row, and it is out of its range
abbrev pub IsOut : {X : Type 0} → (X → Type 0) → Option X → Type 0
IsOut {X} P row = (x : X) × (row ≡ Some x) × ¬ P x

module _ {S : Type 0} (g : Ghosts S) (old new : Held S) where
  -- a look at the tables that the database has
  abbrev pub LooksUp : {A : Type 0} → Result A Fault → (Tables → A → Type 0) → (A → Type 0)
      → (Tables → Type 0) → Type 0
  LooksUp result is_found is_good is_out =
      Looks g old new (λ t. HasTables t (state g old).now) result is_found is_good is_out

module _ {S X : Type 0} (g : Ghosts S) (old new : Held S) where
  -- of the tables that the database has, this row is found, if it is there
  abbrev pub Finds : Result (Option X) Fault → (X → Type 0) → (Tables → Option X) → Type 0
  Finds result P row =
      LooksUp g old new result (λ t found. found ≡ row t) (λ found. IfSome found P)
      (λ t. IsOut P (row t))

  -- of the tables that the database has, these rows are found, in this order
  abbrev pub Lists : Result (Vec X Global) Fault → (X → Type 0) → (Tables → List X) → Type 0
  Lists result P rows =
      LooksUp g old new result (λ t found. found.items ≡ rows t)
      (λ found. AllByRecursion P found.items) (λ t. ¬ AllByRecursion P (rows t))

  module _ (shown : X → Row) (P : X → Type 0) (sql : List ℕ) (params : Row) where
    -- the text is a query that answers these rows
    abbrev pub Answers : List X → Type 0
    Answers rows = AnswersJust g sql params (state g old).now (map shown rows)

    -- the first of them is found, if it is there
    abbrev pub FindsFirst : Result (Option X) Fault → Type 0
    FindsFirst result =
        Looks g old new Answers result
        (λ rows found. found ≡ slice_get rows 0) (λ found. IfSome found P)
        (λ rows. IsOut P (slice_get rows 0))

    -- all of them are found, in their order
    abbrev pub ListsAll : Result (Vec X Global) Fault → Type 0
    ListsAll result =
        Looks g old new Answers result
        (λ rows found. found.items ≡ rows) (λ found. AllByRecursion P found.items)
        (λ rows. ¬ AllByRecursion P rows)

module _ {S : Type 0} (g : Ghosts S) (old new : Held S) (sql : List ℕ) (params : Row) where
  -- the text is a query, and it is found how many rows it answers
  abbrev pub CountsAll : Result ℕ Fault → Type 0
  CountsAll result =
      Looks g old new (AnswersJust g sql params (state g old).now) result
      (λ rows found. found ≡ length rows) (λ _. ⊤) (λ _. ⊥)

-- what reads of the tables that the database has leave
pub record Leaves {S A E : Type 0} (g : Ghosts S) (old new : Held S) (result : Result A E) : Type 0
  where
    pub same : HasCleanDisk (state g new) → (t : Tables) → HasTables t (state g old).now
        → OnOk result (IsUnchanged (state g old) (state g new))
    pub kept : HasCleanDisk (state g new) → (t : Tables) → HasTables t (state g old).now
        → KeepsCommit (state g old) (state g new)
    pub survives : Survives (state g old) (state g new) (λ _. ⊥)

-- ---- changes

-- a statement that writes was run, or was refused, and nothing was committed
pub record Runs {S A : Type 0} (g : Ghosts S) (old new : Held S) (sql : List ℕ) (params : Row)
    (result : Result A Fault) : Type 0 where
  pub done : HasCleanDisk (state g new)
      → OnOk result (IsDone sql params (state g old) (state g new))
  pub no_row : IfErr result (λ fault. fault ≢ Store OutOfRange)
  pub broke : HasCleanDisk (state g new)
      → IfErr result (λ fault. fault ≡ Store Constraint
      → IsBroken sql params (state g old) (state g new))
  pub kept : HasCleanDisk (state g new) → KeepsCommit (state g old) (state g new)
  pub goes_on : HasCleanDisk (state g new) → OnOk result (IsTrue new.in_transaction)
  pub survives : Survives (state g old) (state g new) (λ _. ⊥)

-- a change of the tables: it is done only where no key is held and each value that is to be written is in
-- its range; `Constraint` comes only where a key is held, and `Row` just where a value is out of its range,
-- and then nothing is done
pub record Writes {S A : Type 0} (g : Ghosts S) (old new : Held S) (result : Result A Fault)
    (is_good : Type 0) (held : Tables → Bool) (changed : Tables → Tables) : Type 0 where
  pub put : HasCleanDisk (state g new) → (t : Tables) → HasTables t (state g old).now
      → OnOk result (HasTables (changed t) (state g new).now)
  pub free : HasCleanDisk (state g new) → (t : Tables) → HasTables t (state g old).now
      → OnOk result (held t ≡ false)
  pub in_range : OnOk result is_good
  pub cause : HasCleanDisk (state g new) → (t : Tables) → HasTables t (state g old).now
      → IfErr result (λ fault. fault ≡ Store Constraint → held t ≡ true)
  pub range : IfErr result (λ fault. fault ≡ Store OutOfRange → ¬ is_good)
  pub refused : ¬ is_good → (result ≡ Err (Store OutOfRange)) × (new ≡ old)
  pub kept : HasCleanDisk (state g new) → KeepsCommit (state g old) (state g new)
  pub goes_on : HasCleanDisk (state g new) → OnOk result (IsTrue new.in_transaction)
  pub survives : Survives (state g old) (state g new) (λ _. ⊥)

-- what work on the tables that the database has leaves, whatever it changes
pub record GoesOn {S A E : Type 0} (g : Ghosts S) (old new : Held S) (result : Result A E) : Type 0
  where
    pub goes_on : HasCleanDisk (state g new) → (t : Tables) → HasTables t (state g old).now
        → IsTrue old.in_transaction → OnOk result (IsTrue new.in_transaction)
    pub kept : HasCleanDisk (state g new) → (t : Tables) → HasTables t (state g old).now
        → KeepsCommit (state g old) (state g new)
    pub survives : Survives (state g old) (state g new) (λ _. ⊥)
