use Rattle.std.proofs.Common.{◌≡◌, ◌≤◌, take}
use Rattle.std.specs.List.{sum_by}
use Rattle.clear_account.specs.declared.entries.Piece.{Piece}
use Rattle.clear_account.proofs.places.pieces_ended.Given as goal

abbrev pub invariant-loop-piece : goal.invariant-loop-piece
invariant-loop-piece l = record {
  count : l.front.count ≡ l.piece-index;
  cents : l.front.cents ≡ sum_by (λ (x : Piece). x.cents) (take l.piece-index l.pieces);
  low : l.front.cents ≤ l.place;
}
