use Rattle.std.proofs.Common.{filter, refl}
use Rattle.clear_columns.proofs.ReadingLemmas.{begins_on}
use Rattle.clear_values.specs.Credits.{is_in_suspense}
use Rattle.clear_values.specs.Keyed.{in_key_order}
use Rattle.clear_values.specs.Tables.{serial_key}
use Rattle.clear_ledger.proofs.BankTable.{answers_by_serial}
use Rattle.clear_schema.specs.Values.{bank_shown}
use Rattle.clear_ledger.proofs.bank.read_suspense.Goals as goal

pub returns : goal.returns
returns g c =
    let it = begins_on g.S.Store c.args.conn.now _ _ _ _ bank_shown (λ t. in_key_order serial_key (filter is_in_suspense t.bank)) (λ t has. answers_by_serial g.S.Store t _ has) c.begin_rows.result c.begin_rows.follows.holds-at-none c.begin_rows.ensures.begun in
    ((refl, c.begin_rows.follows.holds, it.0), record { refused = tt; same_reference = c.begin_rows.ensures.same_reference; begun = it.1 })
