use Rattle.clear_account.proofs.PieceLemmas.{one_piece}
use Rattle.clear_account.proofs.laws.law_one_piece.Goals as goal

pub returns : goal.returns
returns c = one_piece
