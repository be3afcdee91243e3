-- What each row of a layout says.
use Rattle.std.specs.Prelude.{◌≡◌, ℕ, List, [], false, map}
use Rattle.sqlite.specs.Table.{Table}
use Rattle.sqlite_schema.specs.declared.schema.Column.{Column}
use Rattle.sqlite_schema.specs.declared.schema.Index.{Index}
use Rattle.sqlite_value.specs.Keys.{plain}
use Rattle.clear_rows.specs.Parts.{blob, int, maybe_int, table, text}
use Rattle.clear_rows.specs.declared.laid.ColumnLayout.{ColumnLayout}
use Rattle.clear_rows.specs.declared.laid.ColumnLayout.TheVariants.{Blob, Int, MaybeInt, Text}
use Rattle.clear_rows.specs.declared.laid.KeyLayout.{KeyLayout}
use Rattle.clear_rows.specs.declared.laid.TableLayout.{TableLayout}
use Rattle.clear_rows.specs.declared.laid.IndexLayout.{IndexLayout}

abbrev pub column_of : ColumnLayout → Column
column_of (Int name) = int name.now
column_of (MaybeInt name) = maybe_int name.now
column_of (Text name) = text name.now
column_of (Blob name) = blob name.now

abbrev pub key_of : KeyLayout → List ℕ
key_of k = k.0.now

abbrev pub table_of : TableLayout → Table
table_of t =
    table t.name.now t.tree t.key t.primary.now (map key_of t.uniques.now)
    (map column_of t.columns.now)

abbrev pub index_of : IndexLayout → Index
index_of i = record {
  name = i.name.now;
  tree = i.tree;
  table = i.table;
  columns = i.columns.now;
  order = plain;
  is_unique = i.is_unique;
}

-- a table with no rule but its keys, and no value that is computed
pub record IsBare (t : Table) : Type 0 where
  pub checks : t.checks ≡ []
  pub references : t.references ≡ []
  pub computed : t.computed ≡ []
  pub stamp_places : t.stamps.places ≡ []
  pub stamp_terms : t.stamps.terms ≡ []
  pub stamp_formats : t.stamps.formats ≡ []
  pub uncounted : t.is_counted ≡ false

-- the table has the keys of the layout, each in the order of its bytes
pub record HasKeys (layout : TableLayout) (t : Table) : Type 0 where
  pub key : t.key ≡ layout.key
  pub primary : t.primary ≡ layout.primary.now
  pub uniques : t.uniques ≡ map key_of layout.uniques.now
  pub orders : t.orders ≡ map (λ (k : KeyLayout). plain) layout.uniques.now

-- the table is that of the row
pub record IsTable (layout : TableLayout) (t : Table) : Type 0 where
  pub name : t.name ≡ layout.name.now
  pub tree : t.tree ≡ layout.tree
  pub columns : t.columns ≡ map column_of layout.columns.now
  pub keys : HasKeys layout t
  pub bare : IsBare t
