use Rattle.std.proofs.Common.{refl, rules}
use Rattle.clear_values.specs.RowRanges.{IsRunRow}
use Rattle.clear_ledger.proofs.RunTable.{insert_says, runs}
use Rattle.clear_columns.proofs.NumberedTable.{puts}
use Rattle.clear_ledger.proofs.runs.insert_run.Goals as goal

pub returns-clause-writes : goal.returns-clause-writes
returns-clause-writes g c =
    let within : IsRunRow c.args.row.now = search rules in
    puts runs g.S.Store c.args.tx.now.conn.now c.put.new.tx.conn.now insert_says c.args.row.now refl (λ xs. tt) c.put.result _ within (rw c.run_values.ensures at c.put.ensures.runs)
