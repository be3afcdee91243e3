use Rattle.std.proofs.Common.{[], ◌∷◌, refl}
use Rattle.clear_values.specs.RowRanges.{IsReportRow}
use Rattle.clear_columns.proofs.KeyedTable.{finds_one}
use Rattle.clear_schema.specs.Values.{report_shown}
use Rattle.clear_firms.specs.Shown.{month_given}
use Rattle.clear_firms.proofs.ReportTable.{reports, get_says, of_month}
use Rattle.clear_firms.proofs.reports.find_report.Goals as goal

pub returns-clause-looks : goal.returns-clause-looks
returns-clause-looks g c =
    let e = c.args.no in
    let m = c.args.at in
    finds_one reports g.S.Store c.args.tx.now.conn.now c.find.new.tx.conn.now (month_given e m) report_shown (e ∷ m ∷ []) (of_month e m []) get_says (λ _. refl) IsReportRow c.find.result (rw c.month_values.ensures at c.find.ensures.looks)
