use Rattle.clear_kept.proofs.PutLemmas.{charge_put}
use Rattle.clear_kept.proofs.laws.law_charge_put.Goals as goal

pub returns : goal.returns
returns c = charge_put
