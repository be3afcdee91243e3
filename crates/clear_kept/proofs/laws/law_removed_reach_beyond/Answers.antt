use Rattle.clear_kept.proofs.LawLemmas.{removed_reach_beyond}
use Rattle.clear_kept.proofs.laws.law_removed_reach_beyond.Goals as goal

pub returns : goal.returns
returns c = removed_reach_beyond
