use Rattle.std.proofs.Common.{◌≡◌, ◌≤◌, take}
use Rattle.clear_book.specs.Lines.{suspense_count}
use Rattle.clear_rules.proofs.decide.import.counts.count_waiting.Given as goal

abbrev pub invariant-loop-row : goal.invariant-loop-row
invariant-loop-row l = (l.count ≡ suspense_count (take l.row-index l.rows)) × (l.count ≤ l.row-index)
