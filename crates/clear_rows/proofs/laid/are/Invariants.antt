use Rattle.std.proofs.Common.{◌≡◌, ◌↔◌, length, map}
use Rattle.clear_rows.proofs.laid.are.Given as goal

abbrev pub invariant-loop-rows : goal.invariant-loop-rows
invariant-loop-rows g l = (l.parts ≡ map g.R.Row.says l.rows) ↔ (l.fn.parts ≡ map g.R.Row.says l.fn.rows)

abbrev pub decreases-loop-rows : goal.decreases-loop-rows
decreases-loop-rows g l = length l.rows
