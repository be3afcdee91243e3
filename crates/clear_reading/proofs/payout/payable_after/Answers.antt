use Rattle.std.proofs.Common.{[], ◌∷◌}
use Rattle.std.proofs.lemmas.Result.{err_from_is_err_and}
use Rattle.clear_values.specs.RowRanges.{IsListRow}
use Rattle.clear_values.specs.Tables.{list_key}
use Rattle.clear_debts.proofs.FaultLemmas.{found_in_range}
use Rattle.clear_reading.proofs.payout.payable_after.Goals as goal

pub returns-in_err-list-clause-fault : goal.returns-in_err-list-clause-fault
returns-in_err-list-clause-fault g c clean t has good few =
    let p = err_from_is_err_and c.from_residual.result c.from_residual.ensures.1 in
    rw (p.1, p.2) (found_in_range list_key IsListRow t.lists (c.args.last ∷ []) c.in_err-list.field-0.0 (c.in_err-list.ensures.looks.cause clean t has) (c.in_err-list.ensures.looks.range clean t has) good.lists)
