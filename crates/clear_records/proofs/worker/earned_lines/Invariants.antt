use Rattle.std.proofs.Common.{◌≡◌, map, take}
use Rattle.clear_records.specs.Earned.{earned_told}
use Rattle.clear_records.proofs.worker.earned_lines.Given as goal

abbrev pub invariant-loop-row : goal.invariant-loop-row
invariant-loop-row l = l.lines.items ≡ map (earned_told l.rates) (take l.row-index l.rows)
