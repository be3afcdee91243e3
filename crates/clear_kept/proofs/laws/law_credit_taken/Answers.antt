use Rattle.clear_kept.proofs.PutLemmas.{credit_taken}
use Rattle.clear_kept.proofs.laws.law_credit_taken.Goals as goal

pub returns : goal.returns
returns c = credit_taken
