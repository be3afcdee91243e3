use Rattle.clear_kept.proofs.LawLemmas.{credit_rows_stand}
use Rattle.clear_kept.proofs.laws.law_credit_rows_stand.Goals as goal

pub returns : goal.returns
returns c = credit_rows_stand
