use Rattle.clear_account.proofs.InterestLemmas.{interest_per_hundred}
use Rattle.clear_account.proofs.laws.law_interest_per_hundred.Goals as goal

pub returns : goal.returns
returns c = interest_per_hundred
