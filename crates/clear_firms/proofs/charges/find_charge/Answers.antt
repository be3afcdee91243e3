use Rattle.std.proofs.Common.{[], ◌∷◌, refl}
use Rattle.clear_values.specs.RowRanges.{IsKeptCharge}
use Rattle.clear_columns.proofs.KeyedTable.{finds_one}
use Rattle.clear_schema.specs.Values.{charge_shown}
use Rattle.clear_firms.specs.Shown.{month_given}
use Rattle.clear_firms.proofs.ChargeTable.{charges, get_says, of_month}
use Rattle.clear_firms.proofs.charges.find_charge.Goals as goal

pub returns-clause-looks : goal.returns-clause-looks
returns-clause-looks g c =
    let e = c.args.no in
    let m = c.args.at in
    finds_one charges g.S.Store c.args.tx.now.conn.now c.find.new.tx.conn.now (month_given e m) charge_shown (e ∷ m ∷ []) (of_month e m []) get_says (λ _. refl) IsKeptCharge c.find.result (rw c.month_values.ensures at c.find.ensures.looks)
