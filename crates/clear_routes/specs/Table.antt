-- The rows of the router over the paths. It serves proofs.
use Rattle.std.specs.Prelude.{◌≡◌, ℕ, List, [], fold, None, Result, Ok, Err}
use Rattle.std.specs.Borrow.{Bor}
use Rattle.matchit.specs.Rows.{RowsOf}
use Rattle.matchit.specs.Order.{placed}
use Rattle.matchit.specs.Route.{Scan, parse_route}
use Rattle.matchit.specs.Router.{RouteOf, route_from, nearest}
use Rattle.matchit.specs.declared.error.InsertError.{InsertError}
use Rattle.clear_routes.specs.Paths.{Path, paths}
use Rattle.clear_routes.specs.declared.kinds.Kinds.{Kinds}
use Rattle.clear_routes.specs.declared.methods.Methods.{Methods}
use Rattle.clear_routes.specs.declared.table.Row.{Row}

-- a row of the table, as the code has it, as a path
abbrev pub path_of : Bor (List ℕ) × Kinds × Methods → Path
path_of row = (row.0.now, record { kinds = row.1; methods = row.2 })

-- what a router over paths holds, in the order in which it looks
abbrev pub Rows : Type 0
Rows = RowsOf (RouteOf Row)

-- the rows with a path, if its text reads well
abbrev pub added_read : Result Scan InsertError → Row → Rows → Rows
added_read (Ok s) row rows = placed (s.pattern, route_from s row) rows
added_read (Err e) row rows = rows

-- the rows with a path of this text
abbrev pub added : Rows → Path → Rows
added rows path = added_read (parse_route path.0) path.1 rows

-- a path that reads well is at odds with none of the rows
abbrev pub IsNewRead : Result Scan InsertError → Rows → Type 0
IsNewRead (Ok s) rows = nearest s.pattern rows ≡ None
IsNewRead (Err e) rows = ⊥

-- a path of this text reads well, and is at odds with none of the rows
abbrev pub IsNew : Rows → Path → Type 0
IsNew rows path = IsNewRead (parse_route path.0) rows

-- the router's rows once all paths stand in it
unfoldable pub router_table : Rows
router_table = fold added [] paths
