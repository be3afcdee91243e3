use Rattle.std.proofs.Common.{refl}
use Rattle.clear_columns.proofs.ReadingLemmas.{begins_on}
use Rattle.clear_ledger.proofs.BankTable.{answers_all}
use Rattle.clear_schema.specs.Values.{bank_shown}
use Rattle.clear_ledger.proofs.bank.read_lines.Goals as goal

pub returns : goal.returns
returns g c =
    let it = begins_on g.S.Store c.args.conn.now _ _ _ _ bank_shown (λ t. t.bank) (λ t has. answers_all g.S.Store t _ has) c.begin_rows.result c.begin_rows.follows.holds-at-none c.begin_rows.ensures.begun in
    ((refl, c.begin_rows.follows.holds, it.0), record { refused = tt; same_reference = c.begin_rows.ensures.same_reference; begun = it.1 })
