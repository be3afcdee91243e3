-- The reminder runs of a lawful book are in range, and so is the reply to the next one.
use Rattle.std.proofs.Common.{◌≡◌, ℕ, ◌+◌, ◌≤◌, List, [], ◌∷◌, length, None, not, false, nat_le, nat_lt, subst, arith, length-append}
use Rattle.std.proofs.lemmas.Bool.Decides.{nat_tests}
use Rattle.std.specs.List.{AllByRecursion}
use Rattle.clear_money.specs.Calendar.{IsDay}
use Rattle.clear_bank.proofs.LengthLemmas.{filter_map-few}
use Rattle.clear_values.specs.declared.replies.Reply.{Reply}
use Rattle.clear_values.specs.declared.replies.Reply.TheVariants.{Reminded}
use Rattle.clear_values.specs.declared.rows.ReminderRow.{ReminderRow}
use Rattle.clear_values.specs.RowRanges.{IsReply, IsRunRow}
use Rattle.clear_book.specs.declared.calls.Command.{Command}
use Rattle.clear_book.specs.declared.calls.Command.TheVariants.{RemindRun}
use Rattle.clear_book.specs.declared.rules.Rule.TheVariants.{NothingToRemind}
use Rattle.clear_book.specs.Book.{Book, Entry, RateTable}
use Rattle.clear_book.specs.Judge.{own_rule, reply_to}
use Rattle.clear_book.specs.Machine.{AreJudged, IsLawful}
use Rattle.clear_book.specs.Own.RemindRun.{own_remind, remind_reply}
use Rattle.clear_book.specs.Reminders.{last_among, overdue_on, reminder_due, reminders_due, reminders_of, runs_by, runs_in, runs_of}
use Rattle.clear_book.specs.Workers.{employers_of}
use Rattle.clear_values.proofs.ListLemmas.{both}
use Rattle.clear_laws.proofs.ChecksLemmas.{when-none}
use Rattle.clear_laws.proofs.ClaimsLemmas.{room_for}
use Rattle.clear_laws.proofs.EntitlementLemmas.{lawful_employers}
use Rattle.clear_laws.proofs.JudgeLemmas.{unrefused}
use Rattle.clear_laws.proofs.LimitsLemmas.{lawful_entries}
use Rattle.clear_laws.proofs.WorkersLemmas.{employers_right}

-- ---- there are at most as many runs as requests

one_at_most : (t : ℕ) (reply : Reply) (command : Command) → length (runs_by t reply command) ≤ 1
one_at_most t reply RemindRun = told reply
  where
    told : (r : Reply) → length (runs_in t r) ≤ 1
    told (Reminded run firms) = omega arith
    told r = omega arith
one_at_most t reply command = omega arith

pub runs_more : (x : Entry) (xs : List Entry) → length (runs_of (x ∷ xs)) ≤ length (runs_of xs) + 1
runs_more x xs = omega (arith, length-append (runs_of xs) (runs_by x.day x.reply x.command), one_at_most x.day x.reply x.command)

pub runs_few : (xs : List Entry) → length (runs_of xs) ≤ length xs
runs_few [] = omega arith
runs_few (x ∷ xs) = omega (arith, runs_more x xs, runs_few xs)

-- and so many in a lawful book
pub last_run-in-range : (b : Book) → IsLawful b → length (runs_of b.entries) ≤ 50000000
last_run-in-range b lawful = omega (arith, runs_few b.entries, lawful_entries b.opening b.entries lawful)

-- ---- a run more

-- there are no more reminders than firms
few_due : (b : Book) (t : ℕ) → length (reminders_due b t) ≤ length (employers_of b.entries)
few_due b t = filter_map-few (λ e. reminder_due (length (runs_of b.entries) + 1) e (overdue_on b t e) (last_among (runs_of b.entries) (reminders_of b) e) t) (employers_of b.entries)

-- some firm is reminded, where the rule does not apply
pub some_due : (due : List ReminderRow) → own_remind due ≡ None → 1 ≤ length due
some_due due own = told (length due) (when-none (not (nat_lt 0 (length due))) NothingToRemind own)
  where
    told : (n : ℕ) → not (nat_lt 0 n) ≡ false → 1 ≤ n
    told n h = grind (arith, nat_tests)

-- the reply to a run that no rule refuses is in range
pub run-reply-in-range : (b : Book) (t : ℕ) → IsLawful b → nat_le 50000000 (length b.entries) ≡ false → own_remind (reminders_due b t) ≡ None → IsReply (remind_reply (length (runs_of b.entries)) (reminders_due b t))
run-reply-in-range b t lawful room own =
    let firms : length (employers_of b.entries) ≤ 10000 = omega (arith, (employers_right b lawful).count, lawful_employers b.opening b.entries lawful) in
    ((omega arith, room_for (length (runs_of b.entries)) (length b.entries) (runs_few b.entries) room), some_due (reminders_due b t) own, omega (arith, few_due b t, firms))

-- the run that a reply tells of is in range with it
run-of-reply : (t : ℕ) (reply : Reply) → IsDay t → IsReply reply → AllByRecursion IsRunRow (runs_in t reply)
run-of-reply t (Reminded run firms) day h = (record { run = h.0; day = day; some = h.1; firms = h.2 }, tt)
run-of-reply t reply day h = tt

run-by : (b : Book) (t : ℕ) (reply : Reply) (command : Command) → IsLawful b → nat_le 50000000 (length b.entries) ≡ false → own_rule b t command ≡ None → reply_to b t command ≡ reply → IsDay t → AllByRecursion IsRunRow (runs_by t reply command)
run-by b t reply RemindRun lawful room own replied day = run-of-reply t reply day (subst IsReply replied (run-reply-in-range b t lawful room own))
run-by b t reply command lawful room own replied day = tt

-- so all runs of a lawful book are
pub runs_in_range : (rates : RateTable) (xs : List Entry) → AreJudged rates xs → AllByRecursion IsRunRow (runs_of xs)
runs_in_range rates [] h = tt
runs_in_range rates (x ∷ xs) h =
    let b : Book = record { opening = rates; entries = xs } in
    let said = unrefused b x.caller x.number x.day x.command x.reply h.2 in
    both IsRunRow (runs_of xs) (runs_by x.day x.reply x.command) (runs_in_range rates xs h.0)
    (run-by b x.day x.reply x.command h.0 said.room said.unruled said.replied h.1.2)
