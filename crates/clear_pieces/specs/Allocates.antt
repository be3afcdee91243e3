-- Work inside of a transaction that changes the tables, and among them the pieces and what is open
-- of contributions.
use Rattle.std.specs.Prelude.{List, Result, IfErr, OnOk}
use Rattle.std.specs.List.{AllByRecursion}
use Rattle.sqlite.specs.Effect.{Database}
use Rattle.sqlite.specs.Held.{Held, state}
use Rattle.sqlite.specs.Store.{Ghosts}
use Rattle.clear_values.specs.Keyed.{replaced_rows}
use Rattle.clear_values.specs.RowRanges.{IsKeptCharge}
use Rattle.clear_values.specs.declared.rows.KeptCharge.{KeptCharge}
use Rattle.clear_values.specs.declared.rows.PieceRow.{PieceRow}
use Rattle.clear_book.specs.Tables.{Tables, charge_key}
use Rattle.clear_schema.specs.Faults.{IsOfDisk}
use Rattle.clear_schema.specs.Frame.{GoesOn}
use Rattle.clear_schema.specs.Held.{HasTables}
use Rattle.clear_schema.specs.declared.fault.Fault.{Fault}
use Rattle.clear_debts.specs.Reads.{OfTables}

-- the database has what some rows make of the tables, and these rows are right
abbrev pub HasAltered : {X : Type 0} → (Tables → X → Tables) → (Tables → X → Type 0) → Tables
    → Database → Type 0
HasAltered {X} altered are_right t db = (x : X) × HasTables (altered t x) db × are_right t x

-- the tables were changed to what some rows make of them, and these rows are right; an error is one
-- of the disk where the tables were sound
pub record Alters {S A X : Type 0} (g : Ghosts S) (old new : Held S) (result : Result A Fault)
    (altered : Tables → X → Tables) (are_right : Tables → X → Type 0)
    (is_sound : Tables → Type 0) : Type 0 where
  pub put : OfTables g old new (λ t.
      OnOk result (HasAltered altered are_right t (state g new).now))
  pub fault : OfTables g old new (λ t. is_sound t → IfErr result IsOfDisk)
  pub stays : GoesOn g old new result

module _ {S A : Type 0} (g : Ghosts S) (old new : Held S) (result : Result A Fault) where
  -- rows of pieces and of contributions were put in the place of those that stood, and are right
  abbrev pub Allocates : (Tables → List PieceRow → List KeptCharge → Type 0)
      → (Tables → Type 0) → Type 0
  Allocates are_right is_sound =
      Alters {X = List PieceRow × List KeptCharge} g old new result
      (λ t rows. record t { pieces = rows.0; charges = rows.1 })
      (λ t rows. are_right t rows.0 rows.1) is_sound

  -- these rows were put in the places of contributions; they are to be in their ranges
  abbrev pub Settles : List KeptCharge → Type 0 → Type 0
  Settles rows is_sound =
      Alters {X = Unit {0}} g old new result
      (λ t none. record t { charges = replaced_rows charge_key t.charges rows })
      (λ t none. Unit {0}) (λ t. is_sound × AllByRecursion IsKeptCharge rows)
