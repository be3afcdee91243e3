use Rattle.clear_account.proofs.LawLemmas.{credits_kept}
use Rattle.clear_account.proofs.laws.law_credits_kept.Goals as goal

pub returns : goal.returns
returns c = credits_kept
