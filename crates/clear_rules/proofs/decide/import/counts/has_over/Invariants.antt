use Rattle.std.proofs.Common.{◌≡◌, take, false}
use Rattle.std.specs.List.{list_any}
use Rattle.clear_book.specs.Own.ImportBank.{is_over}
use Rattle.clear_book.specs.Lines.{credits_of_lines}
use Rattle.clear_rules.specs.Counts.{count_then}
use Rattle.clear_rules.proofs.decide.import.counts.has_over.Given as goal

abbrev pub invariant-loop-row : goal.invariant-loop-row
invariant-loop-row l = list_any (is_over (count_then l.index l.rows)) (credits_of_lines (take l.row-index l.rows)) ≡ false
