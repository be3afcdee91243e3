use Rattle.clear_kept.proofs.LawLemmas.{charge_rows_stand}
use Rattle.clear_kept.proofs.laws.law_charge_rows_stand.Goals as goal

pub returns : goal.returns
returns c = charge_rows_stand
