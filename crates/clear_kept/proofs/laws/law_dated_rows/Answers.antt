use Rattle.clear_kept.proofs.DatedLemmas.{dated_rows}
use Rattle.clear_kept.proofs.laws.law_dated_rows.Goals as goal

pub returns : goal.returns
returns c = dated_rows
