use Rattle.std.proofs.Common.{◌∙◌, sym, subst, rules}
use Rattle.std.proofs.lemmas.Result.{err_from_is_err_and}
use Rattle.clear_laws.proofs.RowRangeLemmas.{rows_in_range}
use Rattle.clear_schema.specs.Faults.{IsOfDisk}
use Rattle.clear_queries.proofs.inquiry.tell_document.Goals as goal

pub returns-clause-still : goal.returns-clause-still
returns-clause-still g c clean t has on =
    let kept = c.tell_rows-told.ensures.tells.kept clean t has in
    let before = kept.was_open on in
    let first = c.is_autocommit-before.ensures.settled (search rules) before in
    let last = c.is_autocommit-behind.ensures.settled (search rules) on in
    record { was_open = before; now_is = last ∙ kept.committed on ∙ sym first; committed_is = kept.committed on; settled = last }

pub returns-in_err-told-clause-still : goal.returns-in_err-told-clause-still
returns-in_err-told-clause-still g c clean t has on =
    let kept = c.tell_rows-told.ensures.tells.kept clean t has in
    let before = kept.was_open on in
    let first = c.is_autocommit-before.ensures.settled (search rules) before in
    let last = c.is_autocommit-behind.ensures.settled (search rules) on in
    record { was_open = before; now_is = last ∙ kept.committed on ∙ sym first; committed_is = kept.committed on; settled = last }

pub returns-in_err-told-clause-failed : goal.returns-in_err-told-clause-failed
returns-in_err-told-clause-failed g c clean t has =
    let p = err_from_is_err_and c.from_residual.result c.from_residual.ensures.1 in
    rw (p.1, p.2) (λ told fault is b lawful represents. subst IsOfDisk (cc is) (c.in_err-told.ensures.tells.cause clean t has (rows_in_range b t lawful represents.stands) (told b lawful represents)))
