use Rattle.clear_account.proofs.InterestLemmas.{interest_by_charge}
use Rattle.clear_account.proofs.laws.law_interest_by_charge.Goals as goal

pub returns : goal.returns
returns c = interest_by_charge
