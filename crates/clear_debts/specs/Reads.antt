-- What a read inside of a transaction leaves, whether it calls the store or not.
use Rattle.std.specs.Prelude.{◌≡◌, ◌⊎◌, Result, IfErr, IfOk, IsTrue, OnOk}
use Rattle.sqlite.specs.Held.{Held, state}
use Rattle.sqlite.specs.State.{HasCleanDisk, IsUnchanged, KeepsCommit, Survives}
use Rattle.sqlite.specs.Store.{Ghosts}
use Rattle.clear_book.specs.RowRanges.{AreInRange}
use Rattle.clear_book.specs.Tables.{Tables}
use Rattle.clear_schema.specs.Faults.{IsOfDisk}
use Rattle.clear_schema.specs.Held.{HasTables}
use Rattle.clear_schema.specs.declared.fault.Fault.{Fault}

-- where the disk has so far returned what was written, this holds of the tables that the database had
abbrev pub OfTables : {S : Type 0} → Ghosts S → Held S → Held S → (Tables → Type 0) → Type 0
OfTables g old new P = HasCleanDisk (state g new) → (t : Tables) → HasTables t (state g old).now → P t

-- the store was called and changed nothing; or, as it may be only in this case, it was not called
abbrev pub IsLeftAlone : {S : Type 0} → Ghosts S → Type 0 → Held S → Held S → Type 0
IsLeftAlone g uncalled old new = (uncalled × (new ≡ old)) ⊎ IsUnchanged (state g old) (state g new)

-- a read of these tables that calls the store but in this case, and finds this
pub record ReadsOf {S A : Type 0} (g : Ghosts S) (t : Tables) (uncalled : Type 0) (old new : Held S)
    (result : Result A Fault) (is_found : A → Type 0) : Type 0 where
  pub found : IfOk result is_found
  pub fault : AreInRange t → IfErr result IsOfDisk
  pub same : OnOk result (IsLeftAlone g uncalled old new)
  pub kept : KeepsCommit (state g old) (state g new)

-- a read of the tables that the database has, whichever these are
pub record Reads {S A : Type 0} (g : Ghosts S) (uncalled : Type 0) (old new : Held S)
    (result : Result A Fault) (is_found : Tables → A → Type 0) : Type 0 where
  pub each : OfTables g old new (λ t. ReadsOf g t uncalled old new result (is_found t))
  pub survives : Survives (state g old) (state g new) (λ _. ⊥)

-- a read that may be left out: an open database stays as it is, whether it was called or not
pub record LeavesOpen {S A E : Type 0} (g : Ghosts S) (old new : Held S) (result : Result A E) : Type 0
  where
    pub same : OfTables g old new (λ t.
        IsTrue (state g old).is_open → OnOk result (IsUnchanged (state g old) (state g new)))
    pub kept : OfTables g old new (λ t. KeepsCommit (state g old) (state g new))
    pub survives : Survives (state g old) (state g new) (λ _. ⊥)
