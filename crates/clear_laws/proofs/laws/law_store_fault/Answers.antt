use Rattle.clear_laws.proofs.FaultLemmas.{other_fault}
use Rattle.clear_laws.proofs.laws.law_store_fault.Goals as goal

pub returns : goal.returns
returns c = other_fault
