use Rattle.std.proofs.lemmas.Result.{err_from_is_err_and}
use Rattle.clear_laws.proofs.RowRangeLemmas.{rows_in_range}
use Rattle.clear_queries.proofs.CountsLemmas.{counts_fail}
use Rattle.clear_queries.proofs.inquiry.InquiryBody.run.Goals as goal

pub returns-in_err-counts-clause-failed : goal.returns-in_err-counts-clause-failed
returns-in_err-counts-clause-failed g c clean t has =
    let p = err_from_is_err_and c.from_residual.result c.from_residual.ensures.1 in
    rw (p.1, p.2) (λ fault is b lawful weighed. counts_fail t fault _ is (c.in_err-counts.ensures.looks.cause clean t has) (c.in_err-counts.ensures.looks.range clean t has) (rows_in_range b t lawful weighed.stands))
