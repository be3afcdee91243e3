use Rattle.clear_laws.proofs.ChargesLemmas.{table_charges-charges_of}
use Rattle.clear_laws.proofs.laws.law_charges.Goals as goal

pub returns : goal.returns
returns c = λ b t e lawful stands. table_charges-charges_of b t lawful stands e
