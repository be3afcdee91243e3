use Rattle.std.proofs.Common.{rules}
use Rattle.clear_values.specs.RowRanges.{IsReportRow}
use Rattle.clear_schema.specs.Values.{report_shown}
use Rattle.clear_reading.proofs.TellingLemmas.{nothing_added, tells_tables}
use Rattle.clear_reading.proofs.row_counts.count_reports.Goals as goal

pub returns-in-Ok-clause-tells : goal.returns-in-Ok-clause-tells
returns-in-Ok-clause-tells g c =
    tells_tables g.S.Store _ report_shown c.args.conn.now c.in-Ok.rows.conn.now c.count_rows.new.rows.conn.now _ _ _ _ _ c.count_rows.result (search rules) c.in-Ok.ensures.begun c.count_rows.ensures.tells
    (λ t ranges right. nothing_added IsReportRow t.reports ranges.reports)
