use Rattle.clear_kept.proofs.OwingLemmas.{open_from_rows}
use Rattle.clear_kept.proofs.laws.law_open_from_rows.Goals as goal

pub returns : goal.returns
returns c = open_from_rows
