use Rattle.clear_laws.proofs.FirstLemmas.{first_stands}
use Rattle.clear_laws.proofs.laws.law_first_tables.Goals as goal

pub returns : goal.returns
returns c = first_stands
