use Rattle.std.proofs.Common.{refl}
use Rattle.std.specs.Fmt.{digits}
use Rattle.clear_book.specs.Documents.Amounts.{amount_text}
use Rattle.clear_book.specs.Documents.Lines.{charge_line, interest_paid_line, missing_line, payment_line}
use Rattle.clear_book.specs.Documents.Statement.{firm_lines, statement_text, sum_lines}
use Rattle.clear_laws.proofs.examples.law_statement_text.Goals as goal

pub returns : goal.returns
unfolding statement_text firm_lines charge_line payment_line interest_paid_line missing_line sum_lines amount_text digits
returns c = λ day due first second. refl
