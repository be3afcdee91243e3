use Rattle.std.proofs.Common.{refl, rules}
use Rattle.clear_values.specs.RowRanges.{IsSerial}
use Rattle.clear_ledger.proofs.CreditTable.{credits, insert_says}
use Rattle.clear_columns.proofs.KeyedTable.{puts}
use Rattle.clear_ledger.proofs.credits.insert_credit.Goals as goal

pub returns-clause-writes : goal.returns-clause-writes
returns-clause-writes g c =
    let within : IsSerial c.args.row.now.serial = search rules in
    puts credits g.S.Store c.args.tx.now.conn.now c.put.new.tx.conn.now insert_says c.args.row.now refl c.put.result _ within (rw c.credit_values.ensures at c.put.ensures.runs)
