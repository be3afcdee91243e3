-- The reader of a table's rows as a source of rows. Each call keeps the loan of the connection, so
-- what is said of the reader is said of the connection.
use Rattle.std.specs.Prelude.{◌≡◌, Option, Result, Ok, Err}
use Rattle.sqlite.specs.Order.{Row}
use Rattle.sqlite.specs.Store.{Ghosts}
use Rattle.clear_columns.specs.Reading.{Advances}
use Rattle.clear_schema.specs.declared.fault.Fault.{Fault}
use Rattle.clear_reading.specs.declared.stored.StoredRows.{StoredRows}

module _ {S T : Type 0} (g : Ghosts S) where
  -- the same loan of the same reader
  abbrev pub KeepsLoan : StoredRows S T g → StoredRows S T g → Type 0
  KeepsLoan old new =
      (new.rows.ghost_name ≡ old.rows.ghost_name)
      × (new.rows.now.conn.ghost_name ≡ old.rows.now.conn.ghost_name)

  module _ {X : Type 0} (show : X → Row) (P : X → Type 0) where
    -- one row more was asked for, of those that are still to come
    abbrev pub Asks : StoredRows S T g → StoredRows S T g → Result (Option X) Fault → Type 0
    Asks old new result =
        KeepsLoan old new × Advances g old.rows.now.conn.now new.rows.now.conn.now show P result

    -- a call gives this
    abbrev pub Gives : StoredRows S T g → Option X → StoredRows S T g → Type 0
    Gives old found new = Asks old new (Ok found)

    -- a call is refused for this
    abbrev pub Refuses : StoredRows S T g → Fault → StoredRows S T g → Type 0
    Refuses old why new = Asks old new (Err why)
