-- RemindRun: each firm to which a reminder is due is reminded, in the next run.
use Rattle.std.specs.Prelude.{ℕ, ◌+◌, List, Option, not, length, nat_lt}
use Rattle.clear_values.specs.declared.replies.Reply.{Reply}
use Rattle.clear_values.specs.declared.replies.Reply.TheVariants.{Reminded}
use Rattle.clear_values.specs.declared.rows.ReminderRow.{ReminderRow}
use Rattle.clear_book.specs.declared.rules.Rule.{Rule}
use Rattle.clear_book.specs.declared.rules.Rule.TheVariants.{NothingToRemind}
use Rattle.clear_book.specs.Checks.{when}

-- the own rule, from the reminders that are due
abbrev pub own_remind : List ReminderRow → Option Rule
own_remind due = when (not (nat_lt 0 (length due))) NothingToRemind

-- the reply: the number behind the last one that was given, and how many firms are reminded
abbrev pub remind_reply : ℕ → List ReminderRow → Reply
remind_reply last due = Reminded (last + 1) (length due)
