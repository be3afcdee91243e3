use Rattle.clear_laws.proofs.RatesLemmas.{reported_rated}
use Rattle.clear_laws.proofs.laws.law_rated.Goals as goal

pub returns : goal.returns
returns c = λ b e m lawful there. reported_rated b.opening b.entries lawful e m there
