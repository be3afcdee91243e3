use Rattle.std.proofs.Common.{filter, refl}
use Rattle.clear_columns.proofs.ReadingLemmas.{begins_on}
use Rattle.clear_payouts.proofs.ClaimTable.{answers_on}
use Rattle.clear_values.specs.Payouts.{is_on}
use Rattle.clear_schema.specs.Values.{claim_shown}
use Rattle.clear_payouts.proofs.claims.read_listed.Goals as goal

pub returns : goal.returns
returns g c =
    let it = begins_on g.S.Store c.args.conn.now _ _ _ _ claim_shown (λ t. filter (λ row. is_on c.args.on row.state) t.claims) (λ t has. answers_on g.S.Store t _ has c.args.on) c.begin_rows.result c.begin_rows.follows.holds-at-none (rw c.list_no.ensures at c.begin_rows.ensures.begun) in
    ((refl, c.begin_rows.follows.holds, it.0), record { refused = tt; same_reference = c.begin_rows.ensures.same_reference; begun = it.1 })
