use Rattle.clear_laws.proofs.EntitlementLemmas.{has_wages-is_employed}
use Rattle.clear_laws.proofs.laws.law_employed.Goals as goal

pub returns : goal.returns
returns c = λ b t e w lawful stands. has_wages-is_employed b lawful w t stands e
