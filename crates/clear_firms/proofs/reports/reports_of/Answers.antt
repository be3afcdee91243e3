use Rattle.clear_values.specs.RowRanges.{IsReportRow}
use Rattle.clear_schema.proofs.FrameLemmas.{lists}
use Rattle.clear_schema.specs.Values.{report_shown}
use Rattle.clear_firms.proofs.ReportTable.{answers_of}
use Rattle.clear_firms.proofs.reports.reports_of.Goals as goal

pub returns-clause-looks : goal.returns-clause-looks
returns-clause-looks g c = lists g.S.Store c.args.tx.now.conn.now c.list.new.tx.conn.now report_shown IsReportRow _ _ c.list.result _ (λ t has. answers_of g.S.Store t _ has c.args.no) (rw c.employer.ensures at c.list.ensures.looks)
