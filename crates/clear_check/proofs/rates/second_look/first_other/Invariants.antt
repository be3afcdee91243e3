use Rattle.std.proofs.Common.{◌≡◌, map}
use Rattle.toml.specs.View.{members_view}
use Rattle.clear_check.specs.RateFound.{first_other}
use Rattle.clear_check.proofs.rates.second_look.first_other.Given as goal

abbrev pub invariant-loop-name : goal.invariant-loop-name
invariant-loop-name l =
    let names = map (λ name. name.now) l.names in
    (goal.iterator-loop-name).can_next l.name-iterator × (goal.iterator-loop-name).is_finite l.name-iterator
    × (first_other names (members_view l.table.entries) ≡ first_other names (members_view l.name-iterator))
