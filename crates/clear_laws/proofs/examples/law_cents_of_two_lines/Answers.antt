use Rattle.std.proofs.Common.{refl}
use Rattle.clear_account.specs.Allocation.{right_pieces}
use Rattle.clear_laws.proofs.examples.law_cents_of_two_lines.Goals as goal

pub returns-clause-pieces : goal.returns-clause-pieces
unfolding right_pieces
returns-clause-pieces c = refl
