use Rattle.clear_account.proofs.LawLemmas.{shares_sum}
use Rattle.clear_account.proofs.laws.law_shares_sum.Goals as goal

pub returns : goal.returns
returns c = shares_sum
