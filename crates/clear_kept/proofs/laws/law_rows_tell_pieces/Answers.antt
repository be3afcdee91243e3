use Rattle.clear_kept.proofs.ToldLemmas.{rows_tell_pieces}
use Rattle.clear_kept.proofs.laws.law_rows_tell_pieces.Goals as goal

pub returns : goal.returns
returns c = rows_tell_pieces
