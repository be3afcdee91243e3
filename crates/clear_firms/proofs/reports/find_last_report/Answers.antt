use Rattle.std.proofs.Common.{◌==◌, filter, take}
use Rattle.clear_values.specs.RowRanges.{IsReportRow}
use Rattle.clear_columns.proofs.LastLemmas.{from_last, last_of}
use Rattle.clear_firms.proofs.ReportTable.{answers_last}
use Rattle.clear_schema.specs.Values.{report_shown}
use Rattle.clear_schema.proofs.FrameLemmas.{finds}
use Rattle.clear_firms.proofs.reports.find_last_report.Goals as goal

pub returns-clause-looks : goal.returns-clause-looks
returns-clause-looks g c =
    let e = c.args.no in
    finds g.S.Store c.args.tx.now.conn.now c.find.new.tx.conn.now report_shown IsReportRow _ _ c.find.result (λ t. take 1 (from_last (filter (λ row. row.employer == e) t.reports))) _ (λ t. last_of (filter (λ row. row.employer == e) t.reports))
    (λ t has. answers_last g.S.Store t _ has e) (rw c.employer.ensures at c.find.ensures.looks)
