use Rattle.std.proofs.Common.{◌≡◌, take}
use Rattle.clear_pieces.specs.Behind.{paid_rows}
use Rattle.clear_pieces.proofs.behind.join.Given as goal

abbrev pub invariant-loop-place : goal.invariant-loop-place
invariant-loop-place l = l.rows.items ≡ take l.place (paid_rows l.kept l.paid)
