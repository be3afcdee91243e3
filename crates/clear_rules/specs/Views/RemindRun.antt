-- What a reminder run is judged by, and what it changes.
use Rattle.std.specs.Prelude.{◌≡◌, ℕ, ◌+◌, List, Option, None, Bool, ◌||◌}
use Rattle.std.specs.Prelude.{if◌then◌else◌, length, map, nat_lt}
use Rattle.std.specs.List.{filter_map}
use Rattle.std.specs.Option.{option_map}
use Rattle.clear_book.specs.declared.rows.Change.{Change}
use Rattle.clear_book.specs.declared.rows.Change.TheVariants.{AddRun}
use Rattle.clear_book.specs.declared.rows.ReminderRow.{ReminderRow}
use Rattle.clear_book.specs.Accounts.{arrears, interest_arrears, missing}
use Rattle.clear_book.specs.Book.{Book}
use Rattle.clear_book.specs.Reminders.{LastReminder, first_of_months, last_reminder, level_due}
use Rattle.clear_book.specs.Reminders.{runs_of}
use Rattle.clear_book.specs.Workers.{employers_of}
use Rattle.clear_rules.specs.declared.decide.remind.LastReminder.{LastReminder as LastSeen}
use Rattle.clear_rules.specs.declared.decide.remind.OverdueFirm.{OverdueFirm}
use Rattle.clear_rules.specs.declared.decide.remind.RemindView.{RemindView}

-- ---- what is viewed

-- a last reminder, as it is viewed
abbrev pub last_viewed : LastReminder → LastSeen
last_viewed last = record { level = last.level; day = last.day }

-- and the one that is viewed
abbrev pub last_seen : LastSeen → LastReminder
last_seen last = record { level = last.level; day = last.day }

-- what the book says of a firm on a day
abbrev pub firm_on_day : Book → ℕ → ℕ → OverdueFirm
firm_on_day b t e =
    record {
      employer = e;
      missing_count = length (missing b e t);
      first_missing = first_of_months (missing b e t);
      arrears = arrears b e t;
      interest_arrears = interest_arrears b e t;
      last = option_map last_viewed (last_reminder b e);
    }

-- the view is what the book says of each of its firms on a day, and the number behind the last one
-- that was given to a run
pub record IsRemindView (b : Book) (t : ℕ) (view : RemindView) : Type 0 where
  pub firms_are : view.firms.items ≡ map (firm_on_day b t) (employers_of b.entries)
  pub next_is : view.next ≡ length (runs_of b.entries) + 1

-- ---- what is due by a view

-- a firm is in default: a month misses its report, or something is in arrears
abbrev pub has_overdue : OverdueFirm → Bool
has_overdue firm =
    nat_lt 0 firm.missing_count || nat_lt 0 firm.arrears || nat_lt 0 firm.interest_arrears

-- the reminder of a level to a firm in a run, with what it has overdue
abbrev pub row_at : ℕ → OverdueFirm → ℕ → ReminderRow
row_at run firm level =
    record {
      run = run;
      employer = firm.employer;
      level = level;
      missing = firm.missing_count;
      first = firm.first_missing;
      arrears = firm.arrears;
      interest = firm.interest_arrears;
    }

-- the level of it that is due on a day, if one is
abbrev pub level_on : ℕ → OverdueFirm → Option ℕ
level_on t firm = level_due (option_map last_seen firm.last) t

-- the reminder to a firm in a run on a day, if one is due: it is in default, and a level is due
abbrev pub firm_due : ℕ → ℕ → OverdueFirm → Option ReminderRow
firm_due run t firm =
    if has_overdue firm then option_map (row_at run firm) (level_on t firm) else None

-- the reminders that are due on a day
abbrev pub rows_due : ℕ → RemindView → List ReminderRow
rows_due t view = filter_map (firm_due view.next t) view.firms.items

-- the change adds the run of a day with just the reminders that are due
abbrev pub Reminds : ℕ → RemindView → Change → Type 0
Reminds t view change =
    change ≡ AddRun (record { run = view.next; day = t; firms = length (rows_due t view) })
    (rows_due t view)
