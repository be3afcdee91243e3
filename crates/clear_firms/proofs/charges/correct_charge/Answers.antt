use Rattle.std.proofs.Common.{arith, not, refl, rules}
use Rattle.clear_values.specs.Tables.{charge_key, keeps_contribution}
use Rattle.clear_columns.proofs.KeyLemmas.{corrects}
use Rattle.clear_columns.proofs.ListLemmas.{fewer_pass}
use Rattle.clear_columns.proofs.KeyedTable.{few, sets_as}
use Rattle.clear_firms.specs.Amounts.{AreInRange}
use Rattle.clear_schema.specs.Values.{charge_shown}
use Rattle.clear_firms.proofs.ChargeTable.{charges, correct_says, is_of, is_that, is_to_change, of_other, with_amounts}
use Rattle.clear_firms.proofs.charges.correct_charge.Goals as goal

pub returns-clause-writes : goal.returns-clause-writes
returns-clause-writes g c =
    let row = c.args.row in
    let within : AreInRange c.args.row = search rules in
    sets_as charges g.S.Store c.args.tx.now.conn.now c.put.new.tx.conn.now correct_says (charge_shown row) (is_to_change row) (with_amounts row) (λ _. refl) ((λ y r same. same), tt) (of_other row) (λ _. refl)
    (λ t db has. let fewer = fewer_pass (is_of row.employer row.month) (λ x. not (keeps_contribution row x)) t.charges in let one = few charges t db has (charge_key row) in omega (arith, fewer, one))
    _ (λ t has. corrects charge_key t.charges row (keeps_contribution row) (with_amounts row) (λ _. refl) (is_that row) has.charges.rises) c.put.result _ within (rw c.charge_values.ensures at c.put.ensures.runs)
