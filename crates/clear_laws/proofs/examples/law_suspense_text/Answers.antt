use Rattle.std.proofs.Common.{refl}
use Rattle.std.specs.Fmt.{digits}
use Rattle.clear_book.specs.Documents.Amounts.{amount_text}
use Rattle.clear_book.specs.Documents.Suspense.{suspense_day_line, suspense_line, suspense_text, suspense_total_lines}
use Rattle.clear_laws.proofs.examples.law_suspense_text.Goals as goal

pub returns : goal.returns
unfolding suspense_text suspense_day_line suspense_line suspense_total_lines amount_text digits
returns c = λ day value. refl
