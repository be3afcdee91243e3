use Rattle.std.proofs.Common.{◌==◌, filter, take}
use Rattle.clear_values.specs.RowRanges.{IsReminderRow}
use Rattle.clear_columns.proofs.LastLemmas.{from_last, last_of}
use Rattle.clear_ledger.proofs.ReminderTable.{answers_last}
use Rattle.clear_schema.specs.Values.{reminder_shown}
use Rattle.clear_schema.proofs.FrameLemmas.{finds}
use Rattle.clear_ledger.proofs.reminders.last_reminder.Goals as goal

pub returns-clause-looks : goal.returns-clause-looks
returns-clause-looks g c =
    let e = c.args.employer in
    finds g.S.Store c.args.tx.now.conn.now c.find.new.tx.conn.now reminder_shown IsReminderRow _ _ c.find.result (λ t. take 1 (from_last (filter (λ row. row.employer == e) t.reminders))) _ (λ t. last_of (filter (λ row. row.employer == e) t.reminders))
    (λ t has. answers_last g.S.Store t _ has e) (rw c.employer.ensures at c.find.ensures.looks)
