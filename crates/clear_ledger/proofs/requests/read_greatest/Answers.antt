use Rattle.std.proofs.Common.{refl}
use Rattle.clear_columns.proofs.ReadingLemmas.{begins_on}
use Rattle.std.specs.Option.{option_to_list}
use Rattle.clear_ledger.proofs.RequestTable.{answers_greatest}
use Rattle.clear_ledger.specs.Kept.{greatest_number}
use Rattle.clear_ledger.specs.Shown.{number_shown}
use Rattle.clear_ledger.proofs.requests.read_greatest.Goals as goal

pub returns : goal.returns
returns g c =
    let it = begins_on g.S.Store c.args.conn.now _ _ _ _ number_shown (λ t. option_to_list (greatest_number c.args.caller t.requests)) (λ t has. answers_greatest g.S.Store t _ has c.args.caller) c.begin_rows.result c.begin_rows.follows.holds-at-none (rw c.caller.ensures at c.begin_rows.ensures.begun) in
    ((refl, c.begin_rows.follows.holds, it.0), record { refused = tt; same_reference = c.begin_rows.ensures.same_reference; begun = it.1 })
