use Rattle.clear_laws.proofs.EntitlementLemmas.{table_entitlement-entitlement_of}
use Rattle.clear_laws.proofs.laws.law_earned.Goals as goal

pub returns : goal.returns
returns c = λ b t w lawful stands. table_entitlement-entitlement_of b lawful w t stands
