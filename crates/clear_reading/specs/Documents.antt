-- The rows of the tables that documents tell, and their texts over these.
use Rattle.std.specs.Prelude.{◌==◌, ℕ, List, filter}
use Rattle.clear_values.specs.Credits.{is_in_suspense}
use Rattle.clear_values.specs.declared.rows.BankRow.{BankRow}
use Rattle.clear_values.specs.declared.rows.ClaimRow.{ClaimRow}
use Rattle.clear_values.specs.declared.rows.ListRow.{ListRow}
use Rattle.clear_values.specs.declared.rows.ReminderRow.{ReminderRow}
use Rattle.clear_values.specs.declared.rows.RunRow.{RunRow}
use Rattle.clear_values.specs.Keyed.{in_key_order}
use Rattle.clear_values.specs.Tables.{Tables, serial_key}
use Rattle.clear_book.specs.Documents.Payout.{payout_text}
use Rattle.clear_book.specs.Documents.Reminders.{reminders_text}
use Rattle.clear_book.specs.Documents.Suspense.{suspense_text}
use Rattle.clear_book.specs.Workers.{is_on}

-- the claims on the payout list of a number
abbrev pub listed : ℕ → Tables → List ClaimRow
listed list t = filter (λ claim. is_on list claim.state) t.claims

-- the text of the list, over these
abbrev pub list_over : ListRow → Tables → List ℕ
list_over list t = payout_text list (listed list.list t)

-- the reminders of the reminder run of a number
abbrev pub reminded : ℕ → Tables → List ReminderRow
reminded run t = filter (λ row. row.run == run) t.reminders

-- the text of the run, over these
abbrev pub run_over : RunRow → Tables → List ℕ
run_over run t = reminders_text run (reminded run.run t)

-- the lines in suspense, in the order of their serials
abbrev pub suspended : Tables → List BankRow
suspended t = in_key_order serial_key (filter is_in_suspense t.bank)

-- the text of these lines on a day
abbrev pub suspense_over : ℕ → Tables → List ℕ
suspense_over day t = suspense_text day (suspended t)
