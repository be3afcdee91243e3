use Rattle.std.proofs.Common.{◌≡◌, ◌+◌, take}
use Rattle.clear_firms.proofs.rates.table_of.Given as goal

abbrev pub invariant-loop-row : goal.invariant-loop-row
invariant-loop-row l = l.table ≡ take (l.row-index + 1) l.rows
