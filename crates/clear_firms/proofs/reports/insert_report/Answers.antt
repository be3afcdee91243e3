use Rattle.std.proofs.Common.{◌≤◌, refl, rules}
use Rattle.clear_values.specs.Limits.{most_versions}
use Rattle.clear_columns.proofs.KeyedTable.{puts}
use Rattle.clear_firms.proofs.ReportTable.{insert_says, reports}
use Rattle.clear_firms.proofs.reports.insert_report.Goals as goal

pub returns-clause-writes : goal.returns-clause-writes
returns-clause-writes g c =
    let within : (1 ≤ c.args.row.version) × (c.args.row.version ≤ most_versions) = search rules in
    puts reports g.S.Store c.args.tx.now.conn.now c.put.new.tx.conn.now insert_says c.args.row refl c.put.result _ within (rw c.report_values.ensures at c.put.ensures.runs)
