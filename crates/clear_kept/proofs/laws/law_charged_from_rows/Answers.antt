use Rattle.clear_kept.proofs.OwingLemmas.{charged_from_rows}
use Rattle.clear_kept.proofs.laws.law_charged_from_rows.Goals as goal

pub returns : goal.returns
returns c = charged_from_rows
