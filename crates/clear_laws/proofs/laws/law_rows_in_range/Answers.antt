use Rattle.clear_laws.proofs.RowRangeLemmas.{rows_in_range}
use Rattle.clear_laws.proofs.laws.law_rows_in_range.Goals as goal

pub returns : goal.returns
returns c = rows_in_range
