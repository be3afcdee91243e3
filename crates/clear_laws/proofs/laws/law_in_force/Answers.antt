use Rattle.std.proofs.Common.{subst}
use Rattle.clear_laws.proofs.InForceLemmas.{IsRowInForce, row_in_force}
use Rattle.clear_laws.proofs.laws.law_in_force.Goals as goal

pub returns-clause-found : goal.returns-clause-found
returns-clause-found c = λ rates m r is. subst (IsRowInForce rates m) is (row_in_force rates m)

pub returns-clause-none : goal.returns-clause-none
returns-clause-none c = λ rates m is. subst (IsRowInForce rates m) is (row_in_force rates m)
