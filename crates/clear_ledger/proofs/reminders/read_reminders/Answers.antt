use Rattle.std.proofs.Common.{◌==◌, filter, refl}
use Rattle.clear_columns.proofs.ReadingLemmas.{begins_on}
use Rattle.clear_ledger.proofs.ReminderTable.{answers_of}
use Rattle.clear_schema.specs.Values.{reminder_shown}
use Rattle.clear_ledger.proofs.reminders.read_reminders.Goals as goal

pub returns : goal.returns
returns g c =
    let it = begins_on g.S.Store c.args.conn.now _ _ _ _ reminder_shown (λ t. filter (λ row. row.run == c.args.run) t.reminders) (λ t has. answers_of g.S.Store t _ has c.args.run) c.begin_rows.result c.begin_rows.follows.holds-at-none (rw c.run_no.ensures at c.begin_rows.ensures.begun) in
    ((refl, c.begin_rows.follows.holds, it.0), record { refused = tt; same_reference = c.begin_rows.ensures.same_reference; begun = it.1 })
