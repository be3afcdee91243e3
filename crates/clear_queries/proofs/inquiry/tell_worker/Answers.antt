use Rattle.std.proofs.Common.{◌∙◌, sym}
use Rattle.std.proofs.lemmas.Result.{err_from_is_err_and}
use Rattle.clear_queries.proofs.inquiry.tell_worker.Goals as goal

pub returns-in_err-document-clause-told : goal.returns-in_err-document-clause-told
returns-in_err-document-clause-told g c clean t has =
    let p = err_from_is_err_and c.from_residual-in_err-document.result c.from_residual-in_err-document.ensures.1 in
    rw (p.1, p.2) (λ b lawful weighed.
    let told = c.in_err-document.ensures.fault b lawful (c.in_ok-records.ensures.records clean t has b lawful weighed.stands) in
    (λ is. absurd (cc (sym told ∙ is)), λ is. absurd (cc (sym told ∙ is))))
