use Rattle.clear_kept.proofs.PutLemmas.{credit_put}
use Rattle.clear_kept.proofs.laws.law_credit_put.Goals as goal

pub returns : goal.returns
returns c = credit_put
