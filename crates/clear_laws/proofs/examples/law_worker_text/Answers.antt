use Rattle.std.proofs.Common.{refl}
use Rattle.std.specs.Fmt.{digits}
use Rattle.clear_book.specs.Documents.Amounts.{amount_text}
use Rattle.clear_book.specs.Documents.Worker.{balance_line, claim_line, earned_line, worker_line, worker_text}
use Rattle.clear_laws.proofs.examples.law_worker_text.Goals as goal

pub returns : goal.returns
unfolding worker_text worker_line earned_line claim_line balance_line amount_text digits
returns c = λ day. refl
