-- A later layout, as an example: that of this program's stores, with one table and one index more.
use Rattle.std.specs.Prelude.{◌++◌, [], ◌∷◌, codes}
use Rattle.sqlite.specs.Schema.{Schema}
use Rattle.sqlite.specs.Table.{Table}
use Rattle.sqlite_catalog.specs.Listing.{automatic}
use Rattle.sqlite_schema.specs.declared.schema.Index.{Index}
use Rattle.clear_rows.specs.Parts.{index, int, keyed}
use Rattle.clear_schema.specs.Schema.{Layout, all_indexes, schema_of, this_layout, wages_table}

abbrev pub refunds_table : Table
refunds_table =
    keyed (codes "refunds") 28 (1 ∷ 2 ∷ []) ([]) (
    int (codes "employer")
    ∷ int (codes "month")
    ∷ int (codes "cents")
    ∷ [])

abbrev pub by_gross : Index
by_gross = index (codes "wages_by_gross") wages_table (4 ∷ []) 30

-- this program's number still tells of it
abbrev pub more_layout : Layout
more_layout = record this_layout {
  further = refunds_table ∷ [];
  indexes = all_indexes ++ automatic refunds_table 0 (1 ∷ 2 ∷ []) 29 ∷ by_gross ∷ [];
}

-- or one of its own
abbrev pub later_layout : Layout
later_layout = record more_layout { number = 2 }

abbrev pub later_schema : Schema
later_schema = schema_of later_layout
