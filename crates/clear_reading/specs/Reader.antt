-- What is told of the rows that a connection still has to give, and of the tables that it has.
use Rattle.std.specs.Prelude.{◌≡◌, ◌<◌, ◌^◌, ℕ, false, List, sum_by}
use Rattle.std.specs.Prelude.{Result, IfErr, IfOk, IsTrue, OnOk}
use Rattle.std.specs.List.{AllByRecursion}
use Rattle.sqlite.specs.Held.{Held, state}
use Rattle.sqlite.specs.Order.{Row}
use Rattle.sqlite.specs.State.{HasCleanDisk, IsUnchanged, KeepsCommit, Survives}
use Rattle.sqlite.specs.Store.{Ghosts}
use Rattle.clear_values.specs.RowRanges.{AreInRange}
use Rattle.clear_values.specs.Tables.{Tables}
use Rattle.clear_columns.specs.Reading.{HasToGive}
use Rattle.clear_schema.specs.Faults.{IsOfDisk}
use Rattle.clear_schema.specs.Held.{HasTables}
use Rattle.clear_schema.specs.declared.fault.Fault.{Fault}
use Rattle.clear_debts.specs.Reads.{OfTables}

-- the result is what is told of the rows that were to come, or it was refused: where the rows are
-- right, for no fault of a key or of a row
pub record Tells {S X A : Type 0} (g : Ghosts S) (show : X → Row) (old new : Held S)
    (told : List X → A) (AreRight : List X → Type 0) (result : Result A Fault) : Type 0 where
  pub written : HasCleanDisk (state g new) → (rest : List X)
      → HasToGive g show old rest → IfOk result (λ it. it ≡ told rest)
  pub cause : HasCleanDisk (state g new) → (rest : List X)
      → HasToGive g show old rest → AreRight rest → IfErr result IsOfDisk
  pub same : HasCleanDisk (state g new) → OnOk result (IsUnchanged (state g old) (state g new))
  pub kept : HasCleanDisk (state g new) → KeepsCommit (state g old) (state g new)
  pub mode : old.in_transaction ≡ false → new.in_transaction ≡ false
  pub survives : Survives (state g old) (state g new) (λ _. ⊥)

-- something is told of the rows that were to come only where they are right
pub record TellsOnlyOver {S X A : Type 0} (g : Ghosts S) (show : X → Row) (old new : Held S)
    (AreRight : List X → Type 0) (result : Result A Fault) : Type 0 where
  pub right : HasCleanDisk (state g new) → (rest : List X)
      → HasToGive g show old rest → OnOk result (AreRight rest)

-- rows in their ranges, which are right besides
abbrev pub AreRightIn : {X : Type 0} → (X → Type 0) → (List X → Type 0) → List X → Type 0
AreRightIn P IsRight rows = AllByRecursion P rows × IsRight rows

-- rows in their ranges, whose amounts come to less than 2^64
abbrev pub AreAddable : {X : Type 0} → (X → Type 0) → (X → ℕ) → List X → Type 0
AreAddable P amount = AreRightIn P (λ rows. sum_by amount rows < 2 ^ 64)

-- the result is what is told of the tables that the connection has, or it was refused: where they
-- are in their ranges and right, for no fault of a key or of a row. Nothing is changed, and a crash
-- leaves no more than before, as far as that is known
pub record TellsTablesWhere {S A : Type 0} (IsKnown : Type 0) (g : Ghosts S) (old new : Held S)
    (told : Tables → A) (AreRight : Tables → Type 0) (result : Result A Fault) : Type 0 where
  pub written : OfTables g old new (λ t. IfOk result (λ it. it ≡ told t))
  pub cause : OfTables g old new (λ t. AreInRange t → AreRight t → IfErr result IsOfDisk)
  pub same : OfTables g old new (λ t. OnOk result (IsUnchanged (state g old) (state g new)))
  pub kept : OfTables g old new (λ t. KeepsCommit (state g old) (state g new))
  pub survives : IsKnown → (t : Tables) → HasTables t (state g old).now
      → Survives (state g old) (state g new) (λ _. ⊥)
  pub clean : HasCleanDisk (state g new) → HasCleanDisk (state g old)
  pub is_open : HasCleanDisk (state g new) → OnOk result (IsTrue (state g new).is_open)

-- something is told of the tables that the connection has only where they are right
pub record TellsOnlyWhere {S A : Type 0} (g : Ghosts S) (old new : Held S)
    (AreRight : Tables → Type 0) (result : Result A Fault) : Type 0 where
  pub right : OfTables g old new (λ t. OnOk result (AreRight t))

-- a document, which one query tells, so that what a crash leaves is always known
abbrev pub TellsDocument : {S : Type 0} → Ghosts S → Held S → Held S → (Tables → List ℕ)
    → (Tables → Type 0) → Result (List ℕ) Fault → Type 0
TellsDocument g old new text AreRight result =
    TellsTablesWhere (Unit {0}) g old new text AreRight result

-- what queries tell one after another, each of which must find the tables for what a crash leaves
-- to be known
abbrev pub TellsTables : {S A : Type 0} → Ghosts S → Held S → Held S → (Tables → A)
    → (Tables → Type 0) → Result A Fault → Type 0
TellsTables g old new told AreRight result =
    TellsTablesWhere (HasCleanDisk (state g new)) g old new told AreRight result
