use Rattle.std.proofs.Common.{nat_le, ap}
use Rattle.std.proofs.lemmas.Result.{err_from_is_err_and}
use Rattle.clear_book.specs.Limits.{most_credits}
use Rattle.clear_views.proofs.assign.has_all_credits.Goals as goal

pub returns-clause-full : goal.returns-clause-full
returns-clause-full g c clean t has = ap (nat_le most_credits) (c.in_ok-count.ensures.looks.found clean t has)

pub returns-in_err-count-clause-fault : goal.returns-in_err-count-clause-fault
returns-in_err-count-clause-fault g c clean t has within =
    let p = err_from_is_err_and c.from_residual.result c.from_residual.ensures.1 in
    rw (p.1, p.2) ((c.in_err-count.ensures.looks.cause clean t has, c.in_err-count.ensures.looks.range clean t has))
