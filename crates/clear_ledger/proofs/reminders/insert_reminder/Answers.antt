use Rattle.std.proofs.Common.{refl, rules}
use Rattle.clear_values.specs.RowRanges.{IsReminderRow}
use Rattle.clear_ledger.proofs.ReminderTable.{insert_says, reminders}
use Rattle.clear_columns.proofs.KeyedTable.{puts}
use Rattle.clear_ledger.proofs.reminders.insert_reminder.Goals as goal

pub returns-clause-writes : goal.returns-clause-writes
returns-clause-writes g c =
    let within : IsReminderRow c.args.row.now = search rules in
    puts reminders g.S.Store c.args.tx.now.conn.now c.put.new.tx.conn.now insert_says c.args.row.now refl c.put.result _ within (rw c.reminder_values.ensures at c.put.ensures.runs)
