use Rattle.clear_kept.proofs.LawLemmas.{charge_leaves_all}
use Rattle.clear_kept.proofs.laws.law_charge_leaves_all.Goals as goal

pub returns : goal.returns
returns c = charge_leaves_all
