use Rattle.std.proofs.Common.{◌≡◌, map, take}
use Rattle.clear_book.specs.Allocated.{weighed_in}
use Rattle.clear_debts.proofs.owing.weigh_rows.Given as goal

abbrev pub invariant-loop-row : goal.invariant-loop-row
invariant-loop-row l = l.weighed.items ≡ map weighed_in (take l.row-index l.rows)
