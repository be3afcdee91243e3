use Rattle.clear_laws.proofs.LawsLemmas.{lawful_small}
use Rattle.clear_laws.proofs.RatesStayLemmas.{rates_stay}
use Rattle.clear_laws.proofs.laws.law_1.Goals as goal

pub returns-clause-days : goal.returns-clause-days
returns-clause-days c = λ b lawful. (lawful_small b lawful).days

pub returns-clause-rates : goal.returns-clause-rates
returns-clause-rates c = λ b more e m lawful there. rates_stay b.opening more b.entries lawful e m there
