use Rattle.std.proofs.Common.{◌≡◌, map, take}
use Rattle.clear_kept.specs.Dated.{placed}
use Rattle.clear_kept.proofs.dated.place_pieces.Given as goal

abbrev pub invariant-loop-piece : goal.invariant-loop-piece
invariant-loop-piece l = l.rows.items ≡ map (placed l.credits) (take l.piece-index l.pieces)
