use Rattle.clear_kept.proofs.OwingLemmas.{interest_from_rows}
use Rattle.clear_kept.proofs.laws.law_interest_from_rows.Goals as goal

pub returns : goal.returns
returns c = interest_from_rows
