-- Parts of a schema: columns of strict kinds, tables with no rule but their keys and where no NULL
-- may stand, and indexes that guard nothing.
use Rattle.std.specs.Prelude.{true, false, ℕ, Bool, List, [], ◌∷◌, Some, None, Option, map}
use Rattle.sqlite.specs.Collation.TheVariants.{Binary}
use Rattle.sqlite.specs.Kind.{Kind}
use Rattle.sqlite.specs.Kind.TheVariants.{Integer, Text, Blob}
use Rattle.sqlite.specs.declared.types.Value.TheVariants.{Null}
use Rattle.sqlite.specs.Table.{Table}
use Rattle.sqlite_schema.specs.declared.schema.Column.{Column}
use Rattle.sqlite_schema.specs.declared.schema.Index.{Index}
use Rattle.sqlite_value.specs.Keys.{plain}

-- a column of this name and kind, in which NULL may stand or not
abbrev pub column : List ℕ → Kind → Bool → Column
column name kind not_null = record {
  name = name;
  kind = kind;
  is_strict = true;
  not_null = not_null;
  default = Null;
  collation = Binary;
}

abbrev pub int : List ℕ → Column
int name = column name Integer true

abbrev pub maybe_int : List ℕ → Column
maybe_int name = column name Integer false

abbrev pub text : List ℕ → Column
text name = column name Text true

abbrev pub blob : List ℕ → Column
blob name = column name Blob true

-- a table in whose tree these columns are kept, with a number as its key or columns that stand once
abbrev pub table : List ℕ → ℕ → Option ℕ → List ℕ → List (List ℕ) → List Column → Table
table name tree key primary uniques columns = record {
  name = name;
  tree = tree;
  columns = columns;
  key = key;
  primary = primary;
  uniques = uniques;
  orders = map (λ (unique : List ℕ). plain) uniques;
  checks = [];
  references = [];
  computed = [];
  stamps = record { places = []; terms = []; formats = [] };
  is_counted = false;
}

-- a table whose first column is its number. Each row has one, but it is no value of the column: it
-- stands in front of the row, and so the column is listed as one in which NULL may stand
abbrev pub numbered : List ℕ → ℕ → List Column → Table
numbered name tree columns = table name tree (Some 0) (0 ∷ []) [] columns

-- a table whose key is these columns; a further list of columns stands once, too
abbrev pub keyed : List ℕ → ℕ → List ℕ → List (List ℕ) → List Column → Table
keyed name tree primary further columns = table name tree None primary (primary ∷ further) columns

-- an index of these columns of a table, in a tree of its own. It guards nothing, and makes rows
-- quick to find
abbrev pub index : List ℕ → Table → List ℕ → ℕ → Index
index name on columns tree = record {
  name = name;
  tree = tree;
  table = on.tree;
  columns = columns;
  order = plain;
  is_unique = false;
}
