use Rattle.clear_laws.proofs.ReleasedLemmas.{settlement_right}
use Rattle.clear_laws.proofs.laws.law_settlement.Goals as goal

pub returns : goal.returns
returns c = settlement_right
