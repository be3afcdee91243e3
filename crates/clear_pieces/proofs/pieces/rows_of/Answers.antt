use Rattle.std.proofs.Common.{◌∙◌, ◌<◌, ◌∷◌, [], ◌++◌, List, length, ap}
use Rattle.clear_account.proofs.AccountLemmas.{All-read}
use Rattle.clear_kept.specs.declared.rows.PlacedPiece.{PlacedPiece}
use Rattle.clear_pieces.proofs.PieceLemmas.{placed_next}
use Rattle.clear_values.specs.declared.rows.PieceRow.{PieceRow}
use Rattle.clear_pieces.proofs.pieces.rows_of.Goals as goal

pub loop-piece-preserved : goal.loop-piece-preserved
loop-piece-preserved c =
    let credits = c.args.credits.now in
    let next = c.piece-item.result in
    let row = c.in_ok-row.row in
    c.in_ok-push.ensures.items
    ∙ ap (λ (rows : List PieceRow). rows ++ row ∷ []) c.loop-piece.invariant
    ∙ placed_next credits c.args.placed.now c.loop-piece.piece-index next c.index-credits-piece.result row c.loop-piece-test.true c.piece-item.is (All-read (λ (r : PlacedPiece). r.place < length credits) c.args.placed.now c.loop-piece.piece-index next c.requires c.loop-piece-test.true c.piece-item.is) c.index-credits-piece.is c.in_ok-row.ensures
