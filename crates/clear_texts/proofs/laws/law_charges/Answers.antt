use Rattle.clear_texts.proofs.LawLemmas.{charges_law}
use Rattle.clear_texts.proofs.laws.law_charges.Goals as goal

pub returns : goal.returns
returns c = charges_law
