use Rattle.clear_kept.proofs.ArrearsLemmas.{arrears_from_rows}
use Rattle.clear_kept.proofs.laws.law_arrears_from_rows.Goals as goal

pub returns : goal.returns
returns c = arrears_from_rows
