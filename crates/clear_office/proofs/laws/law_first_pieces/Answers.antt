use Rattle.clear_office.proofs.OpenedLemmas.{first_represents}
use Rattle.clear_office.proofs.laws.law_first_pieces.Goals as goal

pub returns : goal.returns
returns c = record { represents = first_represents }
