use Rattle.std.proofs.Common.{◌==◌}
use Rattle.std.proofs.lemmas.Result.{err_from_is_err_and}
use Rattle.clear_book.specs.RowRanges.{IsReportRow}
use Rattle.clear_book.specs.declared.rows.ReportRow.{ReportRow}
use Rattle.clear_debts.proofs.FaultLemmas.{last_in_range}
use Rattle.clear_views.proofs.end.last_month.Goals as goal

pub returns-in_err-row-clause-fault : goal.returns-in_err-row-clause-fault
returns-in_err-row-clause-fault g c clean t has within =
    let p = err_from_is_err_and c.from_residual.result c.from_residual.ensures.1 in
    rw (p.1, p.2) (last_in_range IsReportRow (λ (row : ReportRow). row.employer == c.args.employer) t.reports c.in_err-row.field-0.0 (c.in_err-row.ensures.looks.cause clean t has) (c.in_err-row.ensures.looks.range clean t has) within.reports)
