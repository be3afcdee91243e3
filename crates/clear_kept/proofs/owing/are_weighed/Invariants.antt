use Rattle.std.proofs.Common.{take}
use Rattle.std.specs.List.{All}
use Rattle.clear_kept.specs.Owing.{IsWeighedInRange}
use Rattle.clear_kept.proofs.owing.are_weighed.Given as goal

abbrev pub invariant-loop-row : goal.invariant-loop-row
invariant-loop-row l = All IsWeighedInRange (take l.row-index l.rows)
