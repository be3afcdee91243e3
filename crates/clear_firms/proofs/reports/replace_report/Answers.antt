use Rattle.std.proofs.Common.{◌≤◌, [], ◌∷◌, refl, rules}
use Rattle.clear_values.specs.Limits.{most_versions}
use Rattle.clear_values.specs.Tables.{report_key}
use Rattle.clear_schema.specs.Values.{number, report_shown}
use Rattle.clear_columns.proofs.KeyLemmas.{becomes}
use Rattle.clear_columns.proofs.KeyedTable.{few, sets_as}
use Rattle.clear_firms.proofs.ReportTable.{is_of, is_that, of_month, reports, update_says, with_version}
use Rattle.clear_firms.proofs.reports.replace_report.Goals as goal

pub returns-clause-writes : goal.returns-clause-writes
returns-clause-writes g c =
    let row = c.args.row in
    let within : (1 ≤ c.args.row.version) × (c.args.row.version ≤ most_versions) = search rules in
    sets_as reports g.S.Store c.args.tx.now.conn.now c.put.new.tx.conn.now update_says (report_shown row) (is_of row.employer row.month) (with_version row.version) (λ _. refl) ((λ y r same. same), tt) (of_month row.employer row.month (number row.version ∷ [])) (λ _. refl) (λ t db has. few reports t db has (report_key row))
    _ (λ t has. becomes report_key t.reports row (with_version row.version) (is_that row) has.reports.rises) c.put.result _ within (rw c.report_values.ensures at c.put.ensures.runs)
