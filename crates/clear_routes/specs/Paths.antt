-- The paths of the office, as the one table lists them.
use Rattle.std.specs.Prelude.{◌≡◌, ◌⊎◌, ℕ, List, [], ◌∷◌, map}
use Rattle.clear_routes.specs.declared.table.TheConstants.{PATHS}
use Rattle.clear_routes.specs.declared.table.Row.{Row}

-- a path's text, and the kinds of its parameters with its methods
abbrev pub Path : Type 0
Path = List ℕ × Row

-- the rows of the table
unfoldable pub paths : List Path
paths = map (λ r. (r.0.now, record { kinds = r.1; methods = r.2 })) PATHS.now

-- the path is one of these
abbrev pub IsListed : List Path → Path → Type 0
IsListed [] path = ⊥
IsListed (p ∷ ps) path = (p ≡ path) ⊎ IsListed ps path
