-- When the key of a new row is held.
use Rattle.std.specs.Prelude.{◌≡◌, ◌⊎◌, true, List}
use Rattle.sqlite.specs.Order.{Row}
use Rattle.sqlite.specs.Schema.{Schema}
use Rattle.sqlite.specs.Table.{Table}
use Rattle.sqlite.specs.Edit.{is_taken}
use Rattle.sqlite_schema.specs.declared.schema.Index.{Index}
use Rattle.sqlite_schema.specs.Rules.{guards, agree}
use Rattle.sqlite_rules.specs.Lists.{Has}

-- the two rows have one key under a unique index of the table
abbrev pub Shares : Schema → Table → Row → Row → Type 0
Shares schema table new other =
    (i : Index) × Has schema.indexes i × (guards i table ≡ true)
    × (agree i.order i.columns other i.columns new ≡ true)

-- a row has the number of the new one, or shares a unique key with it
abbrev pub IsHeldIn : Schema → Table → List Row → Row → Type 0
IsHeldIn schema table rows new =
    (is_taken rows new ≡ true) ⊎ ((other : Row) × Has rows other × Shares schema table new other)
