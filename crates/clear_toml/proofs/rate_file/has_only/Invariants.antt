use Rattle.std.proofs.Common.{◌≡◌, map}
use Rattle.toml.specs.View.{members_view}
use Rattle.clear_toml.specs.WrittenRate.{has_only}
use Rattle.clear_toml.proofs.rate_file.has_only.Given as goal

abbrev pub invariant-loop-name : goal.invariant-loop-name
invariant-loop-name l =
    let names = map (λ name. name.now) l.names in
    (goal.iterator-loop-name).can_next l.name-iterator × (goal.iterator-loop-name).is_finite l.name-iterator
    × (has_only names (members_view l.name-iterator) ≡ has_only names (members_view l.table.entries))
