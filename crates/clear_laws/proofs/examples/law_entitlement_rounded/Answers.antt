use Rattle.std.proofs.Common.{◌*◌, ◌/◌, ap, refl}
use Rattle.clear_money.specs.Calendar.{months}
use Rattle.clear_laws.proofs.examples.law_entitlement_rounded.Goals as goal

pub returns-clause-line : goal.returns-clause-line
returns-clause-line c = λ r is. ap (λ rate. 35 * rate / 10000) is

pub returns-clause-lines : goal.returns-clause-lines
unfolding months
returns-clause-lines c = λ day reply. refl
