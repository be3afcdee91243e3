use Rattle.clear_laws.proofs.ReachedLemmas.{reached}
use Rattle.clear_laws.proofs.laws.law_reached.Goals as goal

pub returns : goal.returns
returns c = λ b lawful. reached b.opening b.entries lawful
