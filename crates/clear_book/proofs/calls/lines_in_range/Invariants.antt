use Rattle.std.proofs.Common.{take}
use Rattle.std.specs.List.{AllByRecursion}
use Rattle.clear_book.specs.Calls.{IsWageLine}
use Rattle.clear_book.proofs.calls.lines_in_range.Given as goal

abbrev pub invariant-loop-line : goal.invariant-loop-line
invariant-loop-line l = AllByRecursion IsWageLine (take l.line-index l.lines)
