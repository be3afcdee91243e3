use Rattle.clear_kept.proofs.ToldLemmas.{told_by_rows}
use Rattle.clear_kept.proofs.laws.law_told_by_rows.Goals as goal

pub returns : goal.returns
returns c = told_by_rows
