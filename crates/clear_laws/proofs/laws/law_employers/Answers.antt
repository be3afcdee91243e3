use Rattle.clear_laws.proofs.WorkersLemmas.{employers_right}
use Rattle.clear_laws.proofs.laws.law_employers.Goals as goal

pub returns : goal.returns
returns c = employers_right
