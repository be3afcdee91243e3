use Rattle.std.proofs.Common.{refl}
use Rattle.clear_columns.proofs.KeyedTable.{drops}
use Rattle.clear_firms.specs.Shown.{month_given}
use Rattle.clear_firms.proofs.WageTable.{delete_says, is_of, of_month, wages}
use Rattle.clear_firms.proofs.wages.delete_wages.Goals as goal

pub returns-clause-writes : goal.returns-clause-writes
returns-clause-writes g c =
    let e = c.args.no in
    let m = c.args.at in
    drops wages g.S.Store c.args.tx.now.conn.now c.put.new.tx.conn.now delete_says (month_given e m) (is_of e m) (of_month e m) (λ _. refl) c.put.result _ tt (rw c.month_values.ensures at c.put.ensures.runs)
