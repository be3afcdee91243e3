use Rattle.std.proofs.Common.{refl}
use Rattle.std.specs.Fmt.{digits}
use Rattle.clear_book.specs.Documents.Amounts.{amount_text}
use Rattle.clear_book.specs.Documents.Payout.{list_line, payout_line, payout_text, total_lines}
use Rattle.clear_laws.proofs.examples.law_payout_text.Goals as goal

pub returns : goal.returns
unfolding payout_text list_line payout_line total_lines amount_text digits
returns c = λ day. refl
