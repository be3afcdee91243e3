-- Which databases an open is asked about.
use Rattle.std.specs.Prelude.{◌≡◌, ◌⊎◌, ℕ, negsuc, [], ◌∷◌}
use Rattle.sqlite.specs.declared.types.Value.TheVariants.{Null, Int}
use Rattle.sqlite.specs.Effect.{Database}
use Rattle.sqlite.specs.Order.{Row}
use Rattle.clear_schema.specs.Held.{HasMeta, TellsSchema}
use Rattle.clear_schema.specs.Values.{number}

-- no `meta` of ours stands first, as in an empty database or another program's, or it has no row
abbrev pub TellsNoNumber : Database → Type 0
TellsNoNumber db = (¬ HasMeta db.schema) ⊎ (db.trees 0 ≡ [])

-- the database tells the number of its schema, or none
abbrev pub TellsNumberOrNone : Database → Type 0
TellsNumberOrNone db = TellsNoNumber db ⊎ ((number : ℕ) × TellsSchema number db)

-- there is the table `meta`, but its number is below 0
abbrev pub IsBelowZero : Database → Type 0
IsBelowZero db =
    HasMeta db.schema
    × (n : ℕ) × (rest : Row) × (db.trees 0 ≡ (number 1 ∷ Null ∷ Int (negsuc n) ∷ rest) ∷ [])
