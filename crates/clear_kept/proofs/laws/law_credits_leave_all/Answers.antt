use Rattle.clear_kept.proofs.LawLemmas.{credits_leave_all}
use Rattle.clear_kept.proofs.laws.law_credits_leave_all.Goals as goal

pub returns : goal.returns
returns c = credits_leave_all
