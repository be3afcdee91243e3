use Rattle.std.proofs.Common.{refl}
use Rattle.std.specs.Fmt.{digits}
use Rattle.clear_book.specs.Documents.Amounts.{amount_text}
use Rattle.clear_laws.proofs.examples.law_amounts.Goals as goal

pub returns-clause-nothing : goal.returns-clause-nothing
unfolding amount_text digits
returns-clause-nothing c = refl

pub returns-clause-euros : goal.returns-clause-euros
unfolding amount_text digits
returns-clause-euros c = refl

pub returns-clause-wide : goal.returns-clause-wide
unfolding amount_text digits
returns-clause-wide c = refl

pub returns-clause-wider : goal.returns-clause-wider
unfolding amount_text digits
returns-clause-wider c = refl
