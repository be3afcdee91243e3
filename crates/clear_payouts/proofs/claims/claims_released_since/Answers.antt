use Rattle.clear_values.specs.RowRanges.{IsClaimRow}
use Rattle.clear_payouts.proofs.ClaimTable.{answers_since}
use Rattle.clear_schema.specs.Values.{claim_shown}
use Rattle.clear_schema.proofs.FrameLemmas.{lists}
use Rattle.clear_payouts.proofs.claims.claims_released_since.Goals as goal

pub returns-clause-looks : goal.returns-clause-looks
returns-clause-looks g c =
    lists g.S.Store c.args.tx.now.conn.now c.list.new.tx.conn.now claim_shown IsClaimRow _ _ c.list.result _ (λ t has. answers_since g.S.Store t _ has c.args.since) (rw c.day.ensures at c.list.ensures.looks)
