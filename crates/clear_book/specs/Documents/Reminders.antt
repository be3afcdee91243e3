-- A reminder run: the firms that it reminded, by their numbers, with what was overdue of each then.
use Rattle.std.specs.Prelude.{ℕ, List, ◌++◌, codes}
use Rattle.std.specs.Fmt.{decimal}
use Rattle.std.specs.List.{flat_map}
use Rattle.clear_money.specs.Texts.{day_text}
use Rattle.clear_values.specs.declared.rows.ReminderRow.{ReminderRow}
use Rattle.clear_values.specs.declared.rows.RunRow.{RunRow}
use Rattle.clear_book.specs.Documents.Amounts.{amount_text}
use Rattle.clear_book.specs.Documents.Lines.{month_or_dash}

-- the line on the run: its number and its day
unfoldable pub run_line : RunRow → List ℕ
run_line run = codes "reminders " ++ decimal run.run ++ codes " " ++ day_text run.day ++ codes "\n"

-- the line of a firm: its number, the level, how many months are missing and the first of them, and
-- what is in arrears of contributions and of interest
unfoldable pub reminder_line : ReminderRow → List ℕ
reminder_line row =
    codes "employer " ++ decimal row.employer
    ++ codes " level " ++ decimal row.level
    ++ codes " missing " ++ decimal row.missing
    ++ codes " " ++ month_or_dash row.first
    ++ codes " " ++ amount_text row.arrears
    ++ codes " " ++ amount_text row.interest
    ++ codes "\n"

-- the line on how many firms they are
unfoldable pub firms_line : RunRow → List ℕ
firms_line run = codes "firms " ++ decimal run.firms ++ codes "\n"

-- the text of a run with its reminders
unfoldable pub reminders_text : RunRow → List ReminderRow → List ℕ
reminders_text run rows = run_line run ++ flat_map reminder_line rows ++ firms_line run
