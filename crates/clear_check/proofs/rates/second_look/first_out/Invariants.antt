use Rattle.std.proofs.Common.{◌≡◌, drop, map}
use Rattle.toml.specs.View.{view}
use Rattle.clear_check.specs.RateFound.{numbers_wrong, ranged}
use Rattle.clear_check.proofs.rates.second_look.first_out.Given as goal

abbrev pub invariant-loop-range : goal.invariant-loop-range
invariant-loop-range l =
    numbers_wrong (view l.row) (map ranged l.ranges) ≡ numbers_wrong (view l.row) (map ranged (drop l.range-index l.ranges))
