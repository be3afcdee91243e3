use Rattle.std.proofs.Common.{take}
use Rattle.std.specs.List.{AllByRecursion}
use Rattle.clear_money.specs.Rates.{IsRate}
use Rattle.clear_values.proofs.ranges.rows_in_range.Given as goal

abbrev pub invariant-loop-row : goal.invariant-loop-row
invariant-loop-row l = AllByRecursion IsRate (take l.row-index l.rows)
