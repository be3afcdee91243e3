use Rattle.std.proofs.Common.{refl}
use Rattle.std.specs.Fmt.{digits}
use Rattle.clear_laws.proofs.examples.law_set_offs.Goals as goal

pub returns-clause-both : goal.returns-clause-both
unfolding digits
returns-clause-both c = λ day serial. refl

pub returns-clause-first : goal.returns-clause-first
unfolding digits
returns-clause-first c = λ made day reply. refl
