use Rattle.clear_laws.proofs.LimitsLemmas.{failed_runs}
use Rattle.clear_laws.proofs.laws.law_failed.Goals as goal

pub returns-clause-outcomes : goal.returns-clause-outcomes
returns-clause-outcomes c = λ end b calls outcomes last runs. (failed_runs end b calls outcomes last runs).0

pub returns-clause-book : goal.returns-clause-book
returns-clause-book c = λ end b calls outcomes last runs. (failed_runs end b calls outcomes last runs).1
