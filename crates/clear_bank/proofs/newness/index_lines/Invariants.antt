use Rattle.std.proofs.Common.{take}
use Rattle.clear_bank.specs.Index.{Indexes}
use Rattle.clear_bank.proofs.newness.index_lines.Given as goal

abbrev pub invariant-loop-line : goal.invariant-loop-line
invariant-loop-line l = Indexes l.index (take l.line-index l.lines)
