use Rattle.std.proofs.Common.{refl, rules}
use Rattle.clear_columns.proofs.KeyedTable.{puts}
use Rattle.clear_firms.specs.Amounts.{AreInRange}
use Rattle.clear_firms.proofs.ChargeTable.{charges, insert_says}
use Rattle.clear_firms.proofs.charges.insert_charge.Goals as goal

pub returns-clause-writes : goal.returns-clause-writes
returns-clause-writes g c =
    let within : AreInRange c.args.row = search rules in
    puts charges g.S.Store c.args.tx.now.conn.now c.put.new.tx.conn.now insert_says c.args.row refl c.put.result _ within (rw c.charge_values.ensures at c.put.ensures.runs)
