use Rattle.clear_kept.proofs.ToldLemmas.{weight_from_row}
use Rattle.clear_kept.proofs.laws.law_weight_from_row.Goals as goal

pub returns : goal.returns
returns c = weight_from_row
