use Rattle.clear_laws.proofs.LawsLemmas.{lawful_small}
use Rattle.clear_laws.proofs.laws.law_small.Goals as goal

pub returns : goal.returns
returns c = lawful_small
