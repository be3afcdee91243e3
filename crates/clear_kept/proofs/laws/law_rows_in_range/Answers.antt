use Rattle.clear_kept.proofs.OwingLemmas.{rows_in_range}
use Rattle.clear_kept.proofs.laws.law_rows_in_range.Goals as goal

pub returns : goal.returns
returns c = rows_in_range
