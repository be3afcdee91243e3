use Rattle.std.proofs.Common.{refl}
use Rattle.clear_account.specs.Allocation.{right_pieces}
use Rattle.clear_laws.proofs.examples.law_pieces_of_an_earlier_payment.Goals as goal

pub returns : goal.returns
unfolding right_pieces
returns c = refl
