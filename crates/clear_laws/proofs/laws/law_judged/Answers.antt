use Rattle.clear_laws.proofs.FaultLemmas.{judged_within}
use Rattle.clear_laws.proofs.laws.law_judged.Goals as goal

pub returns : goal.returns
returns c = judged_within
