use Rattle.std.proofs.Common.{◌≡◌, take}
use Rattle.clear_pieces.specs.Firm.{rows_placed}
use Rattle.clear_pieces.proofs.pieces.rows_of.Given as goal

abbrev pub invariant-loop-piece : goal.invariant-loop-piece
invariant-loop-piece l = l.rows.items ≡ rows_placed l.credits (take l.piece-index l.placed)
