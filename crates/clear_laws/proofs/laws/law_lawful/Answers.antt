use Rattle.clear_laws.proofs.LimitsLemmas.{runs_lawful}
use Rattle.clear_laws.proofs.laws.law_lawful.Goals as goal

pub returns : goal.returns
returns c = runs_lawful
