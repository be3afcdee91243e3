use Rattle.std.proofs.lemmas.Result.{err_from_is_err_and}
use Rattle.clear_laws.proofs.RowRangeLemmas.{rows_in_range}
use Rattle.clear_queries.proofs.inquiry.tell_owed.Goals as goal

pub returns-in_err-find_member-clause-told : goal.returns-in_err-find_member-clause-told
returns-in_err-find_member-clause-told g c clean t has =
    let p = err_from_is_err_and c.from_residual.result c.from_residual.ensures.1 in
    rw (p.1, p.2) (λ b lawful weighed. c.in_err-find_member.ensures.fault clean t has (rows_in_range b t lawful weighed.stands))
