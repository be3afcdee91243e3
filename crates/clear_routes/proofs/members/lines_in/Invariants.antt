use Rattle.std.proofs.Common.{◌≡◌, ◌++◌, drop}
use Rattle.std.specs.Option.{option_map}
use Rattle.serde_json.specs.View.{items_view}
use Rattle.clear_routes.specs.Members.{lines_in}
use Rattle.clear_routes.proofs.members.lines_in.Given as goal

abbrev pub invariant-loop-value : goal.invariant-loop-value
invariant-loop-value l =
    option_map (λ rest. l.lines.items ++ rest) (lines_in (items_view (drop l.value-index l.values)))
    ≡ lines_in (items_view l.values)
