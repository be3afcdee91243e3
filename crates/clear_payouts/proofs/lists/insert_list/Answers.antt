use Rattle.std.proofs.Common.{refl, rules}
use Rattle.clear_values.specs.RowRanges.{IsListRow}
use Rattle.clear_payouts.proofs.ListTable.{insert_says, lists}
use Rattle.clear_columns.proofs.NumberedTable.{puts}
use Rattle.clear_payouts.proofs.lists.insert_list.Goals as goal

pub returns-clause-writes : goal.returns-clause-writes
returns-clause-writes g c =
    let within : IsListRow c.args.row.now = search rules in
    puts lists g.S.Store c.args.tx.now.conn.now c.put.new.tx.conn.now insert_says c.args.row.now refl (λ xs. tt) c.put.result _ within (rw c.list_values.ensures at c.put.ensures.runs)
