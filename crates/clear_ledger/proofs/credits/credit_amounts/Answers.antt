use Rattle.clear_money.specs.Numbers.{IsAmount}
use Rattle.clear_ledger.specs.Shown.{number_shown}
use Rattle.clear_ledger.proofs.CreditTable.{answers_amounts}
use Rattle.clear_schema.proofs.FrameLemmas.{lists}
use Rattle.clear_ledger.proofs.credits.credit_amounts.Goals as goal

pub returns-clause-looks : goal.returns-clause-looks
returns-clause-looks g c =
    lists g.S.Store c.args.tx.now.conn.now c.list.new.tx.conn.now number_shown IsAmount _ _ c.list.result _ (λ t has. answers_amounts g.S.Store t _ c.args.employer c.args.purpose has) (rw (c.employer.ensures, c.purpose.ensures) at c.list.ensures.looks)
