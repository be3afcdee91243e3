use Rattle.std.proofs.Common.{◌≡◌, [], map, fold, take}
use Rattle.clear_routes.specs.Table.{path_of, added}
use Rattle.clear_routes.proofs.paths.router_over_paths.Given as goal

abbrev pub invariant-loop-text : goal.invariant-loop-text
invariant-loop-text l = l.router ≡ fold added [] (map path_of (take l.text-index l.text-items))
