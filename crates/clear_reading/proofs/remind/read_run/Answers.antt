use Rattle.std.proofs.Common.{[], ◌∷◌}
use Rattle.std.proofs.lemmas.Result.{err_from_is_err_and}
use Rattle.clear_book.specs.RowRanges.{IsRunRow}
use Rattle.clear_book.specs.Tables.{run_key}
use Rattle.clear_debts.proofs.FaultLemmas.{found_in_range}
use Rattle.clear_reading.proofs.remind.read_run.Goals as goal

pub returns-in_err-run-clause-fault : goal.returns-in_err-run-clause-fault
returns-in_err-run-clause-fault g c clean t has within =
    let p = err_from_is_err_and c.from_residual.result c.from_residual.ensures.1 in
    rw (p.1, p.2) (found_in_range run_key IsRunRow t.runs (c.args.row.now.run ∷ []) c.in_err-run.field-0.0 (c.in_err-run.ensures.looks.cause clean t has) (c.in_err-run.ensures.looks.range clean t has) within.runs)
