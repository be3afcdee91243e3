use Rattle.clear_laws.proofs.PiecesLemmas.{rows_right}
use Rattle.clear_laws.proofs.laws.law_pieces.Goals as goal

pub returns : goal.returns
returns c = rows_right
