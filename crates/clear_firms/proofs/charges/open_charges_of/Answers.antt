use Rattle.clear_values.specs.RowRanges.{IsKeptCharge}
use Rattle.clear_schema.proofs.FrameLemmas.{lists}
use Rattle.clear_schema.specs.Values.{charge_shown}
use Rattle.clear_firms.proofs.ChargeTable.{answers_open}
use Rattle.clear_firms.proofs.charges.open_charges_of.Goals as goal

pub returns-clause-looks : goal.returns-clause-looks
returns-clause-looks g c = lists g.S.Store c.args.tx.now.conn.now c.list.new.tx.conn.now charge_shown IsKeptCharge _ _ c.list.result _ (λ t has. answers_open g.S.Store t _ has c.args.no) (rw c.employer.ensures at c.list.ensures.looks)
