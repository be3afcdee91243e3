use Rattle.clear_values.specs.RowRanges.{IsCreditRow}
use Rattle.clear_schema.specs.Values.{credit_shown}
use Rattle.clear_ledger.proofs.CreditTable.{answers_of_day}
use Rattle.clear_schema.proofs.FrameLemmas.{lists}
use Rattle.clear_ledger.proofs.credits.credits_of_day.Goals as goal

pub returns-clause-looks : goal.returns-clause-looks
returns-clause-looks g c =
    lists g.S.Store c.args.tx.now.conn.now c.list.new.tx.conn.now credit_shown IsCreditRow _ _ c.list.result _ (λ t has. answers_of_day g.S.Store t _ c.args.employer c.args.purpose c.args.of c.args.serial has) (rw (c.employer.ensures, c.purpose.ensures, c.day.ensures, c.number.ensures) at c.list.ensures.looks)
