use Rattle.std.proofs.Common.{refl}
use Rattle.clear_values.specs.RowRanges.{IsClaimRow}
use Rattle.clear_columns.proofs.NumberedTable.{finds_one}
use Rattle.clear_payouts.proofs.ClaimTable.{get_says, claims}
use Rattle.clear_payouts.proofs.claims.find_claim.Goals as goal

pub returns-clause-looks : goal.returns-clause-looks
returns-clause-looks g c = finds_one claims g.S.Store get_says c.args.claim (λ _. refl) c.args.tx.now.conn.now c.find.new.tx.conn.now IsClaimRow c.find.result (rw c.claim_no.ensures at c.find.ensures.looks)
