-- Rows of a type that a connection gives one at a time.
use Rattle.std.specs.Prelude.{◌≡◌, ◌≢◌, ℕ, false, List, ◌∷◌, ◌++◌, [], map, Option, Some, None}
use Rattle.std.specs.Prelude.{Result, IfErr, IfOk, IfSome, IsTrue, OnOk}
use Rattle.sqlite.specs.Effect.{Database}
use Rattle.sqlite.specs.Given.{HasGiven}
use Rattle.sqlite.specs.Held.{Held, state}
use Rattle.sqlite.specs.Order.{Row}
use Rattle.sqlite.specs.State.{HasCleanDisk, IsUnchanged, KeepsCommit, Survives}
use Rattle.sqlite.specs.Store.{Ghosts}
use Rattle.sqlite.specs.declared.error.Error.{Error}
use Rattle.clear_values.specs.declared.causes.StoreCause.TheVariants.{Constraint, Row as OutOfRange}
use Rattle.clear_values.specs.Tables.{Tables}
use Rattle.clear_schema.specs.Faults.{fault_of}
use Rattle.clear_schema.specs.Frame.{AnswersJust}
use Rattle.clear_schema.specs.Held.{HasTables}
use Rattle.clear_schema.specs.declared.fault.Fault.{Fault}
use Rattle.clear_schema.specs.declared.fault.Fault.TheVariants.{Store}

-- the connection reads such a query, and these of its rows are still to come, in this order
pub record HasToGive {S X : Type 0} (g : Ghosts S) (show : X → Row) (h : Held S)
    (rest : List X) : Type 0 where
  pub sql : List ℕ
  pub params : Row
  pub given : List X
  pub gave : HasGiven g sql params h (map show given)
  pub all : AnswersJust g sql params (state g h).now (map show (given ++ rest))

-- the first of the rows to come is given, and none only where none is to come
abbrev pub Gives : {S X : Type 0} → Ghosts S → (X → Row) → Held S → List X → Option X → Type 0
Gives g show new rest None = rest ≡ []
Gives {X = X} g show new rest (Some x) =
    (more : List X) × (rest ≡ x ∷ more) × HasToGive g show new more

-- a query has begun on a database that is one of these: the rows that it has to give; a text that
-- only asks changes nothing
pub record Begun {S X I : Type 0} (g : Ghosts S) (old new : Held S) (asks : Type 0)
    (is_one : I → Type 0) (show : X → Row) (rows : I → List X) : Type 0 where
  pub begun : HasCleanDisk (state g new) → (i : I) → is_one i → HasToGive g show new (rows i)
  pub same : HasCleanDisk (state g new) → asks → IsUnchanged (state g old) (state g new)
  pub is_open : HasCleanDisk (state g new) → IsTrue (state g new).is_open
  pub clean : HasCleanDisk (state g new) → HasCleanDisk (state g old)
  pub mode : old.in_transaction ≡ false → new.in_transaction ≡ false
  pub survives : asks → Survives (state g old) (state g new) (λ _. ⊥)

-- the database has tables
abbrev pub HasSomeTables : Database → Type 0
HasSomeTables db = (t : Tables) × HasTables t db

-- a query for these rows of the tables that the database has
abbrev pub ReadsOn : {S X : Type 0} → Ghosts S → Held S → Held S → (X → Row)
    → (Tables → List X) → Type 0
ReadsOn g old new show rows =
    Begun g old new (HasSomeTables (state g old).now) (λ t. HasTables t (state g old).now) show
    rows

-- what a connection is left as where a query does not begin; a text that only asks changes nothing
pub record IsLeft {S A : Type 0} (g : Ghosts S) (old : Held S) (asks : Type 0)
    (result : Result A Error) (new : Held S) : Type 0 where
  pub cause : asks → HasCleanDisk (state g new)
      → IfErr result (λ e. fault_of e ≢ Store Constraint)
  pub kept : asks → HasCleanDisk (state g new) → KeepsCommit (state g old) (state g new)
  pub clean : HasCleanDisk (state g new) → HasCleanDisk (state g old)
  pub mode : old.in_transaction ≡ false → new.in_transaction ≡ false
  pub survives : asks → Survives (state g old) (state g new) (λ _. ⊥)

-- what a connection is left as where a query for rows of the tables does not begin
abbrev pub IsLeftOn : {S A : Type 0} → Ghosts S → Held S → Result A Error → Held S → Type 0
IsLeftOn g old result = IsLeft g old (HasSomeTables (state g old).now) result

-- one row more was asked for, of those that are still to come
pub record Advances {S X : Type 0} (g : Ghosts S) (old new : Held S) (show : X → Row)
    (P : X → Type 0) (result : Result (Option X) Fault) : Type 0 where
  pub gives : HasCleanDisk (state g new) → (rest : List X) → HasToGive g show old rest
      → IfOk result (Gives g show new rest)
  pub good : IfOk result (λ found. IfSome found P)
  pub cause : HasCleanDisk (state g new) → (rest : List X) → HasToGive g show old rest
      → IfErr result (λ fault. fault ≢ Store Constraint)
  pub range : HasCleanDisk (state g new) → (rest : List X) → HasToGive g show old rest
      → IfErr result (λ fault. fault ≡ Store OutOfRange
      → (x : X) × (more : List X) × (rest ≡ x ∷ more) × ¬ P x)
  pub same : HasCleanDisk (state g new) → OnOk result (IsUnchanged (state g old) (state g new))
  pub kept : HasCleanDisk (state g new) → KeepsCommit (state g old) (state g new)
  pub mode : old.in_transaction ≡ false → new.in_transaction ≡ false
  pub survives : Survives (state g old) (state g new) (λ _. ⊥)
