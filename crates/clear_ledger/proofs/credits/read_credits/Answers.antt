use Rattle.std.proofs.Common.{filter, refl}
use Rattle.clear_values.specs.Credits.{is_credit_of}
use Rattle.clear_columns.proofs.ReadingLemmas.{begins_on}
use Rattle.clear_ledger.proofs.CreditTable.{answers}
use Rattle.clear_schema.specs.Values.{credit_shown}
use Rattle.clear_ledger.proofs.credits.read_credits.Goals as goal

pub returns : goal.returns
returns g c =
    let it = begins_on g.S.Store c.args.conn.now _ _ _ _ credit_shown (λ t. filter (is_credit_of c.args.employer c.args.purpose) t.credits) (λ t has. answers g.S.Store t _ c.args.employer c.args.purpose has) c.begin_rows.result c.begin_rows.follows.holds-at-none (rw (c.employer.ensures, c.purpose.ensures) at c.begin_rows.ensures.begun) in
    ((refl, c.begin_rows.follows.holds, it.0), record { refused = tt; same_reference = c.begin_rows.ensures.same_reference; begun = it.1 })
