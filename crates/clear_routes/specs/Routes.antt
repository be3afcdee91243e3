-- The routes: what a method and a target ask for.
use Rattle.std.specs.Prelude.{◌≡◌, ℕ, List, Some}
use Rattle.clear_wire.specs.declared.method.Method.{Method}
use Rattle.clear_routes.specs.Kinds.{kinds_in, AreOfKinds, spellings, parameters}
use Rattle.clear_routes.specs.Methods.{action_for}
use Rattle.clear_routes.specs.Paths.{Path, IsListed, paths}
use Rattle.clear_routes.specs.Written.{pattern, filled}
use Rattle.clear_routes.specs.declared.methods.Methods.{Methods}
use Rattle.clear_routes.specs.declared.parameters.Parameters.{Parameters}
use Rattle.clear_routes.specs.declared.route.Route.{Route}

-- the target of a path with these values for its parameters
abbrev pub target_of : Path → List ℕ → List ℕ
target_of path values = filled (pattern path.0) (spellings (kinds_in path.1.kinds) values)

-- the path is one of the table's, the values are of its kinds, and this is its target with them
pub record IsAt (path : Path) (values target : List ℕ) : Type 0 where
  pub listed : IsListed paths path
  pub range : AreOfKinds (kinds_in path.1.kinds) values
  pub written : target ≡ target_of path values

-- some path has this target
abbrev pub HasPath : List ℕ → Type 0
HasPath target = (path : Path) × (values : List ℕ) × IsAt path values target

-- a path with these methods has this target with these parameters
pub record IsPlace (methods : Methods) (found : Parameters) (target : List ℕ) : Type 0 where
  pub path : Path
  pub values : List ℕ
  pub at : IsAt path values target
  pub same_methods : path.1.methods ≡ methods
  pub same_parameters : parameters (kinds_in path.1.kinds) values ≡ found

-- a path has this target with the route's parameters, and its method asks for the route's action
pub record IsRoute (m : Method) (target : List ℕ) (route : Route) : Type 0 where
  pub methods : Methods
  pub place : IsPlace methods route.parameters target
  pub asked : action_for m methods ≡ Some route.action
