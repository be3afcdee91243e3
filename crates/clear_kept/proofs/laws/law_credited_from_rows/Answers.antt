use Rattle.clear_kept.proofs.OwingLemmas.{credited_from_rows}
use Rattle.clear_kept.proofs.laws.law_credited_from_rows.Goals as goal

pub returns : goal.returns
returns c = credited_from_rows
