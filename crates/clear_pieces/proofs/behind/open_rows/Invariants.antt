use Rattle.std.proofs.Common.{◌≡◌, map, take}
use Rattle.clear_pieces.specs.Behind.{open_row}
use Rattle.clear_pieces.proofs.behind.open_rows.Given as goal

abbrev pub invariant-loop-row : goal.invariant-loop-row
invariant-loop-row l = l.opened.items ≡ map open_row (take l.row-index l.rows)
