use Rattle.std.proofs.Common.{◌++◌, ◌∙◌}
use Rattle.std.proofs.lemmas.Result.{err_from_is_err_and}
use Rattle.clear_book.specs.Documents.Worker.{worker_text}
use Rattle.clear_texts.proofs.documents.worker_document.Goals as goal

pub returns-in_err-account-clause-fault : goal.returns-in_err-account-clause-fault
returns-in_err-account-clause-fault c b lawful are =
    let p = err_from_is_err_and c.from_residual.result c.from_residual.ensures.1 in
    rw (p.1, p.2) (c.in_err-account.ensures.memory b lawful are)

pub returns-clause-text : goal.returns-clause-text
returns-clause-text c b lawful are =
    c.new.ensures ∙ c.in_ok-append_worker.ensures ∙ (λ i. c.new-text.ensures.bytes i ++ worker_text (c.in_ok-account.ensures.told b lawful are i))
