use Rattle.clear_account.proofs.LawLemmas.{weight_by_shares}
use Rattle.clear_account.proofs.laws.law_weight_by_pieces.Goals as goal

pub returns : goal.returns
returns c = weight_by_shares
