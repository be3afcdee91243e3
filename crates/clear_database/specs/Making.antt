-- Making the tables and indexes of a store in an empty database, and their first rows.
use Rattle.std.specs.Prelude.{◌≡◌, ℕ, ℤ, List, [], map}
use Rattle.std.specs.List.{AllByRecursion}
use Rattle.sqlite.specs.Table.{Table}
use Rattle.sqlite.specs.Schema.{Schema}
use Rattle.sqlite.specs.Effect.{Database}
use Rattle.clear_money.specs.Rates.{Rate}
use Rattle.clear_schema.specs.Values.{month_number}
use Rattle.clear_database.specs.declared.make.TheConstants.{PARTS}

-- the database has this schema, and no row in any table
pub record IsMade (s : Schema) (db : Database) : Type 0 where
  pub schema : db.schema ≡ s
  pub empty : AllByRecursion (λ (t : Table). db.trees t.tree ≡ []) s.tables

-- the number under which a rate is stored
abbrev pub rate_number : Rate → ℤ
rate_number r = month_number r.first

-- the statements that make the tables and the indexes, in the order of their places
abbrev pub part_texts : List (List ℕ)
part_texts = map (λ text. text.now) PARTS
