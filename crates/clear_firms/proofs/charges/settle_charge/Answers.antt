use Rattle.std.proofs.Common.{[], ◌∷◌, refl, rules}
use Rattle.clear_values.specs.Tables.{charge_key}
use Rattle.clear_schema.specs.Values.{charge_shown, number}
use Rattle.clear_columns.proofs.KeyLemmas.{becomes}
use Rattle.clear_columns.proofs.KeyedTable.{few, sets_as}
use Rattle.clear_firms.specs.Amounts.{AreInRange}
use Rattle.clear_firms.proofs.ChargeTable.{charges, is_of, is_that, of_month, settle_says, with_amounts}
use Rattle.clear_firms.proofs.charges.settle_charge.Goals as goal

pub returns-clause-writes : goal.returns-clause-writes
returns-clause-writes g c =
    let row = c.args.row in
    let within : AreInRange c.args.row = search rules in
    sets_as charges g.S.Store c.args.tx.now.conn.now c.put.new.tx.conn.now settle_says (charge_shown row) (is_of row.employer row.month) (with_amounts row) (λ _. refl) ((λ y r same. same), tt)
    (of_month row.employer row.month (number row.due ∷ number row.cents ∷ number row.left ∷ number row.weight ∷ [])) (λ _. refl) (λ t db has. few charges t db has (charge_key row))
    _ (λ t has. becomes charge_key t.charges row (with_amounts row) (is_that row) has.charges.rises) c.put.result _ within (rw c.charge_values.ensures at c.put.ensures.runs)
