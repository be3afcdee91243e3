use Rattle.std.proofs.Common.{[], ◌∷◌, sym}
use Rattle.std.proofs.lemmas.Result.{err_from_is_err_and}
use Rattle.clear_book.specs.RowRanges.{IsListRow}
use Rattle.clear_book.specs.Tables.{list_key}
use Rattle.clear_laws.proofs.RowRangeLemmas.{rows_in_range}
use Rattle.clear_debts.proofs.FaultLemmas.{found_in_range}
use Rattle.clear_queries.proofs.ListLemmas.{list_found, list_right}
use Rattle.clear_queries.proofs.inquiry.look_for_list.Goals as goal

pub returns-in-Some-clause-told : goal.returns-in-Some-clause-told
returns-in-Some-clause-told g c clean t has day = (
  λ b lawful represents. tt,
  λ b lawful represents. list_found b t c.args.list represents.stands day c.in-Some.row (sym (rw c.in-Some.is at c.in_ok-row.ensures.looks.found clean t has)),
  list_right t c.args.list c.in-Some.row (sym (rw c.in-Some.is at c.in_ok-row.ensures.looks.found clean t has)),
  tt,
)

pub returns-in_err-row-clause-told : goal.returns-in_err-row-clause-told
returns-in_err-row-clause-told g c clean t has day =
    let p = err_from_is_err_and c.from_residual.result c.from_residual.ensures.1 in
    rw (p.1, p.2) (λ b lawful weighed. found_in_range list_key IsListRow t.lists (c.args.list ∷ []) c.in_err-row.field-0.0 (c.in_err-row.ensures.looks.cause clean t has) (c.in_err-row.ensures.looks.range clean t has) (rows_in_range b t lawful weighed.stands).lists)
