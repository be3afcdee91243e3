use Rattle.clear_kept.proofs.LawLemmas.{credits_rewrite}
use Rattle.clear_kept.proofs.laws.law_credits_rewrite.Goals as goal

pub returns : goal.returns
returns c = credits_rewrite
