use Rattle.std.proofs.Common.{◌≡◌, drop, map}
use Rattle.toml.specs.View.{view}
use Rattle.clear_check.specs.RateFound.{members_wrong}
use Rattle.clear_check.proofs.rates.second_look.first_wrong.Given as goal

abbrev pub invariant-loop-name : goal.invariant-loop-name
invariant-loop-name l =
    members_wrong (view l.row) (map (λ name. name.now) l.names) ≡ members_wrong (view l.row) (map (λ name. name.now) (drop l.name-index l.names))
