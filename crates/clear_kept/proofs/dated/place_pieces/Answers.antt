use Rattle.std.proofs.Common.{◌≡◌, ◌<◌, ◌++◌, ◌∷◌, [], length, map, sym, ap, ◌∙◌, subst}
use Rattle.std.specs.List.{All}
use Rattle.std.proofs.lemmas.List.{map_more, take_all}
use Rattle.clear_account.specs.declared.entries.Piece.{Piece}
use Rattle.clear_account.specs.Account.{HoldsSerial, credit_at}
use Rattle.clear_account.proofs.AccountLemmas.{All-read}
use Rattle.clear_kept.specs.declared.rows.PlacedPiece.{PlacedPiece}
use Rattle.clear_kept.specs.Dated.{placed}
use Rattle.clear_kept.proofs.DatedLemmas.{placed_is, placed_serials, placed_within}
use Rattle.clear_kept.proofs.dated.place_pieces.Goals as goal

pub find_serial-place-requires : goal.find_serial-place-requires
find_serial-place-requires c = All-read (λ (p : Piece). HoldsSerial c.args.credits.now p.serial) c.args.pieces.now c.loop-piece.piece-index c.piece-item.result c.requires.held c.loop-piece-test.true c.piece-item.is

pub loop-piece-preserved : goal.loop-piece-preserved
loop-piece-preserved c =
    c.in_ok-push.ensures.items
    ∙ (λ i. c.loop-piece.invariant i ++ placed_is c.args.credits.now c.find_serial-place.result c.index-credits-place.result c.piece-item.result _ _ c.requires.differ c.find_serial-place.ensures.within c.find_serial-place.ensures.found c.date_piece.ensures c.piece-item.is i ∷ [])
    ∙ sym (map_more (placed c.args.credits.now) c.args.pieces.now c.loop-piece.piece-index c.piece-item.result c.loop-piece-test.true)

pub returns-clause-within : goal.returns-clause-within
returns-clause-within c =
    subst (All (λ (r : PlacedPiece). r.place < length c.args.credits.now)) (sym (c.loop-piece.invariant ∙ ap (map (placed c.args.credits.now)) (take_all c.loop-piece.piece-index c.args.pieces.now c.loop-piece-test.false))) (placed_within c.args.credits.now c.args.pieces.now c.requires.differ c.requires.held)

pub returns-clause-serials : goal.returns-clause-serials
returns-clause-serials c =
    subst (All (λ (r : PlacedPiece). (credit_at c.args.credits.now r.place).serial ≡ r.piece.serial)) (sym (c.loop-piece.invariant ∙ ap (map (placed c.args.credits.now)) (take_all c.loop-piece.piece-index c.args.pieces.now c.loop-piece-test.false))) (placed_serials c.args.credits.now c.args.pieces.now c.requires.differ c.requires.held)
