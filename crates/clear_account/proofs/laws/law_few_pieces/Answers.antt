use Rattle.clear_account.proofs.CountLemmas.{few_pieces}
use Rattle.clear_account.proofs.laws.law_few_pieces.Goals as goal

pub returns : goal.returns
returns c = few_pieces
