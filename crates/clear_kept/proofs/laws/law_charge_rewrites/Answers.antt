use Rattle.clear_kept.proofs.LawLemmas.{charge_rewrites}
use Rattle.clear_kept.proofs.laws.law_charge_rewrites.Goals as goal

pub returns : goal.returns
returns c = charge_rewrites
