use Rattle.clear_account.proofs.LawLemmas.{pieces_sum}
use Rattle.clear_account.proofs.laws.law_pieces_sum.Goals as goal

pub returns : goal.returns
returns c = pieces_sum
