-- Reminders: which firms are in default, at which level one is due, and what each run of a book
-- reminded of.
use Rattle.std.specs.Prelude.{ℕ, ◌+◌, List, [], ◌∷◌, ◌++◌, Option, Some, None, Bool, ◌||◌, ◌==◌}
use Rattle.std.specs.Prelude.{if◌then◌else◌, filter, length, min, nat_le, nat_lt, option_and_then}
use Rattle.std.specs.List.{filter_map, last_or}
use Rattle.std.specs.Option.{option_map}
use Rattle.clear_values.specs.declared.replies.Reply.{Reply}
use Rattle.clear_values.specs.declared.replies.Reply.TheVariants.{Reminded}
use Rattle.clear_values.specs.declared.rows.ReminderRow.{ReminderRow}
use Rattle.clear_values.specs.declared.rows.RunRow.{RunRow}
use Rattle.clear_values.specs.Keyed.{find_row}
use Rattle.clear_values.specs.Limits.{most_level}
use Rattle.clear_values.specs.Tables.{run_key}
use Rattle.clear_book.specs.declared.calls.Command.{Command}
use Rattle.clear_book.specs.declared.calls.Command.TheVariants.{RemindRun}
use Rattle.clear_book.specs.Accounts.{arrears, interest_arrears, missing}
use Rattle.clear_book.specs.Book.{Book, Entry, RateTable}
use Rattle.clear_book.specs.Workers.{employers_of}

-- ---- levels

-- the reminder that a firm last had: its level, and the day of its run
pub record LastReminder : Type 0 where
  pub level : ℕ
  pub day : ℕ

-- the level that is due on a day after it: none before the fourteenth day, then the next one, up to
-- the highest, and after more than 60 days the first one again
abbrev pub level_after : LastReminder → ℕ → Option ℕ
level_after last t =
    if nat_lt t (last.day + 14) then None
    else if nat_le t (last.day + 60) then Some (min (last.level + 1) most_level)
    else Some 1

-- the level that is due, if one is: the first one where there was no reminder
abbrev pub level_due : Option LastReminder → ℕ → Option ℕ
level_due None t = Some 1
level_due (Some last) t = level_after last t

-- ---- default

-- what is overdue of a firm on a day: the months without a report, rising, and what is in arrears
-- of contributions and of interest, in cents
pub record Overdue : Type 0 where
  pub months : List ℕ
  pub owed : ℕ
  pub interest : ℕ

-- what is overdue of an employer on a day
abbrev pub overdue_on : Book → ℕ → ℕ → Overdue
overdue_on b t e =
    record {
      months = missing b e t;
      owed = arrears b e t;
      interest = interest_arrears b e t;
    }

-- the firm is in default: a month is missing, or something is in arrears
abbrev pub is_in_default : Overdue → Bool
is_in_default overdue =
    nat_lt 0 (length overdue.months) || nat_lt 0 overdue.owed || nat_lt 0 overdue.interest

-- the first of months, if there is one
abbrev pub first_of_months : List ℕ → Option ℕ
first_of_months [] = None
first_of_months (m ∷ more) = Some m

-- the reminder of a level to a firm in a run, with what is overdue then
abbrev pub reminder : ℕ → ℕ → Overdue → ℕ → ReminderRow
reminder run e overdue level =
    record {
      run = run;
      employer = e;
      level = level;
      missing = length overdue.months;
      first = first_of_months overdue.months;
      arrears = overdue.owed;
      interest = overdue.interest;
    }

-- the reminder to a firm in a run on a day, if one is due: the firm is in default, and a level is due
abbrev pub reminder_due : ℕ → ℕ → Overdue → Option LastReminder → ℕ → Option ReminderRow
reminder_due run e overdue last t =
    if is_in_default overdue then option_map (reminder run e overdue) (level_due last t) else None

-- ---- runs

-- the run that a reply on a day tells of
abbrev pub runs_in : ℕ → Reply → List RunRow
runs_in t (Reminded run firms) = record { run = run; day = t; firms = firms } ∷ []
runs_in t reply = []

-- the run that a command is, on its day and with the reply to it
abbrev pub runs_by : ℕ → Reply → Command → List RunRow
runs_by t reply RemindRun = runs_in t reply
runs_by t reply command = []

-- the reminder runs, in the order in which they were made
abbrev pub runs_of : List Entry → List RunRow
runs_of [] = []
runs_of (x ∷ xs) = runs_of xs ++ runs_by x.day x.reply x.command

-- the run of a number, if there is one
abbrev pub run_of : List Entry → ℕ → Option RunRow
run_of xs number = find_row run_key (runs_of xs) (number ∷ [])

-- ---- reminders

-- what a later run goes by of a reminder: its level, and the day of its run
abbrev pub as_last : List RunRow → ReminderRow → Option LastReminder
as_last runs row =
    option_map (λ run. record { level = row.level; day = run.day })
    (find_row run_key runs (row.run ∷ []))

-- the reminders to a firm
abbrev pub reminders_to : ℕ → List ReminderRow → List ReminderRow
reminders_to e rows = filter (λ row. row.employer == e) rows

-- the last reminder to a firm among rows, if there is one
abbrev pub last_among : List RunRow → List ReminderRow → ℕ → Option LastReminder
last_among runs rows e = option_and_then (as_last runs) (last_or None (reminders_to e rows))

-- the reminders that a run on a day gives to the firms of a book, by their numbers, where these were
-- given before it
abbrev pub reminders_after : Book → List ReminderRow → ℕ → List ReminderRow
reminders_after b given t =
    filter_map (λ e. reminder_due (length (runs_of b.entries) + 1) e (overdue_on b t e)
    (last_among (runs_of b.entries) given e) t) (employers_of b.entries)

-- the reminders that a command gives on a day
abbrev pub reminders_by : Book → List ReminderRow → ℕ → Command → List ReminderRow
reminders_by b given t RemindRun = reminders_after b given t
reminders_by b given t command = []

-- the reminders that entries behind opening rates give, each run's on the book before it
abbrev pub reminders_behind : RateTable → List Entry → List ReminderRow
reminders_behind table [] = []
reminders_behind table (x ∷ xs) =
    reminders_behind table xs
    ++ reminders_by (record { opening = table; entries = xs }) (reminders_behind table xs) x.day
    x.command

-- the reminders of a book, by run, then employer
abbrev pub reminders_of : Book → List ReminderRow
reminders_of b = reminders_behind b.opening b.entries

-- the last reminder to a firm, if there was one
abbrev pub last_reminder : Book → ℕ → Option LastReminder
last_reminder b e = last_among (runs_of b.entries) (reminders_of b) e

-- the reminders that a run on a day would give
abbrev pub reminders_due : Book → ℕ → List ReminderRow
reminders_due b t = reminders_after b (reminders_of b) t

-- the reminders of a run, by employer
abbrev pub reminders_in : Book → ℕ → List ReminderRow
reminders_in b run = filter (λ row. row.run == run) (reminders_of b)
