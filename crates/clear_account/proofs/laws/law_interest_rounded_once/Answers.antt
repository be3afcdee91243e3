use Rattle.clear_account.proofs.InterestLemmas.{interest_rounded_once}
use Rattle.clear_account.proofs.laws.law_interest_rounded_once.Goals as goal

pub returns : goal.returns
returns c = interest_rounded_once
