use Rattle.clear_laws.proofs.LimitsLemmas.{lawful_rates}
use Rattle.clear_laws.proofs.laws.law_rates.Goals as goal

pub returns : goal.returns
returns c = λ b lawful. lawful_rates b.opening b.entries lawful
