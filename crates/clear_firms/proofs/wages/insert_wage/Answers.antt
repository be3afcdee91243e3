use Rattle.std.proofs.Common.{◌≤◌, refl, rules}
use Rattle.clear_values.specs.Limits.{most_gross}
use Rattle.clear_columns.proofs.KeyedTable.{puts}
use Rattle.clear_firms.proofs.WageTable.{insert_says, wages}
use Rattle.clear_firms.proofs.wages.insert_wage.Goals as goal

pub returns-clause-writes : goal.returns-clause-writes
returns-clause-writes g c =
    let within : c.args.row.gross ≤ most_gross = search rules in
    puts wages g.S.Store c.args.tx.now.conn.now c.put.new.tx.conn.now insert_says c.args.row refl c.put.result _ within (rw c.wage_values.ensures at c.put.ensures.runs)
