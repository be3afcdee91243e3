use Rattle.std.proofs.Common.{refl, rules}
use Rattle.clear_values.specs.RowRanges.{IsClaimRow}
use Rattle.clear_columns.proofs.NumberedTable.{replaces}
use Rattle.clear_payouts.proofs.ClaimTable.{claims, update_says}
use Rattle.clear_payouts.proofs.claims.replace_claim.Goals as goal

pub returns-clause-writes : goal.returns-clause-writes
returns-clause-writes g c =
    let row = c.args.row.now in
    let within : IsClaimRow row = search rules in
    replaces claims row _ refl (λ n. record row { claim = n }) (λ _. refl) refl g.S.Store c.args.tx.now.conn.now c.put.new.tx.conn.now update_says (λ _. refl) (λ _. tt) c.put.result _ within (rw c.claim_values.ensures at c.put.ensures.runs)
