use Rattle.std.proofs.Common.{refl, rules}
use Rattle.clear_values.specs.RowRanges.{IsClaimRow}
use Rattle.clear_payouts.proofs.ClaimTable.{claims, insert_says}
use Rattle.clear_columns.proofs.NumberedTable.{puts}
use Rattle.clear_payouts.proofs.claims.insert_claim.Goals as goal

pub returns-clause-writes : goal.returns-clause-writes
returns-clause-writes g c =
    let within : IsClaimRow c.args.row.now = search rules in
    puts claims g.S.Store c.args.tx.now.conn.now c.put.new.tx.conn.now insert_says c.args.row.now refl (λ xs. tt) c.put.result _ within (rw c.claim_values.ensures at c.put.ensures.runs)
