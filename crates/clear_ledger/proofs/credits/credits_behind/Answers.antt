use Rattle.std.proofs.Common.{◌+◌}
use Rattle.clear_values.specs.RowRanges.{IsCreditRow}
use Rattle.clear_schema.specs.Values.{credit_shown}
use Rattle.clear_ledger.proofs.CreditTable.{answers_since}
use Rattle.clear_schema.proofs.FrameLemmas.{lists}
use Rattle.clear_ledger.proofs.credits.credits_behind.Goals as goal

pub returns-clause-looks : goal.returns-clause-looks
returns-clause-looks g c =
    lists g.S.Store c.args.tx.now.conn.now c.list.new.tx.conn.now credit_shown IsCreditRow _ _ c.list.result _ (λ t has. answers_since g.S.Store t _ c.args.employer c.args.purpose (c.args.before + 1) has) (rw (c.employer.ensures, c.purpose.ensures, c.number.ensures, c.number_behind-next.ensures.value) at c.list.ensures.looks)
