use Rattle.std.proofs.Common.{refl}
use Rattle.std.specs.Fmt.{digits}
use Rattle.clear_laws.proofs.examples.law_kept_bytes.Goals as goal

pub returns-clause-register : goal.returns-clause-register
unfolding digits
returns-clause-register c = refl

pub returns-clause-report : goal.returns-clause-report
unfolding digits
returns-clause-report c = refl

pub returns-clause-no_lines : goal.returns-clause-no_lines
unfolding digits
returns-clause-no_lines c = refl

pub returns-clause-correct : goal.returns-clause-correct
unfolding digits
returns-clause-correct c = refl

pub returns-clause-claim : goal.returns-clause-claim
unfolding digits
returns-clause-claim c = refl

pub returns-clause-withdraw : goal.returns-clause-withdraw
unfolding digits
returns-clause-withdraw c = refl

pub returns-clause-release : goal.returns-clause-release
unfolding digits
returns-clause-release c = refl

pub returns-clause-rate : goal.returns-clause-rate
unfolding digits
returns-clause-rate c = refl

pub returns-clause-end : goal.returns-clause-end
unfolding digits
returns-clause-end c = refl

pub returns-clause-assign : goal.returns-clause-assign
unfolding digits
returns-clause-assign c = refl
