-- What is due by the view of a book is what is due by the book.
use Rattle.std.proofs.Common.{◌≡◌, ℕ, List, [], ◌∷◌, length, map, Option, Some, None, true, false, not, nat_lt, ◌==◌, cond, refl, sym, ap, ◌∙◌, arith}
use Rattle.std.proofs.lemmas.Bool.Decides.{nat_tests}
use Rattle.std.specs.List.{cons_option, filter_map}
use Rattle.std.specs.Option.{option_map}
use Rattle.clear_book.specs.Book.{Book}
use Rattle.clear_book.specs.declared.rows.ReminderRow.{ReminderRow}
use Rattle.clear_book.specs.declared.rules.Rule.TheVariants.{NothingToRemind}
use Rattle.clear_book.specs.Checks.{when}
use Rattle.clear_book.specs.Own.RemindRun.{own_remind}
use Rattle.clear_book.specs.Reminders.{LastReminder, is_in_default, last_reminder, level_due, overdue_on, reminder, reminder_due, reminders_due}
use Rattle.clear_book.specs.Workers.{employers_of}
use Rattle.clear_rules.specs.Views.RemindRun.{IsRemindView, firm_due, firm_on_day, last_seen, last_viewed}
use Rattle.clear_rules.specs.declared.decide.remind.OverdueFirm.{OverdueFirm}
use Rattle.clear_rules.specs.declared.decide.remind.RemindView.{RemindView}

last_known : (last : Option LastReminder) → option_map last_seen (option_map last_viewed last) ≡ last
last_known None = refl
last_known (Some last) = refl

module _ (b : Book) (t : ℕ) (n : ℕ) where
  due_of : (e : ℕ) → firm_due n t (firm_on_day b t e) ≡ reminder_due n e (overdue_on b t e) (last_reminder b e) t
  due_of e = ap (λ last. cond (is_in_default (overdue_on b t e)) (option_map (reminder n e (overdue_on b t e)) (level_due last t)) None) (last_known (last_reminder b e))

  all_due : (es : List ℕ) → filter_map (firm_due n t) (map (firm_on_day b t) es) ≡ filter_map (λ e. reminder_due n e (overdue_on b t e) (last_reminder b e) t) es
  all_due [] = refl
  all_due (e ∷ es) = λ i. cons_option (due_of e i) (all_due es i)

-- these are the rows that are due by the view
pub due_of_book : (b : Book) (t : ℕ) (view : RemindView) → IsRemindView b t view → (rows : List ReminderRow) (firms : List OverdueFirm) → rows ≡ filter_map (firm_due view.next t) firms → firms ≡ view.firms.items → rows ≡ reminders_due b t
due_of_book b t view is rows firms due same =
    due
    ∙ ap (filter_map (firm_due view.next t)) (same ∙ is.firms_are)
    ∙ all_due b t view.next (employers_of b.entries)
    ∙ ap (λ n. filter_map (λ e. reminder_due n e (overdue_on b t e) (last_reminder b e) t) (employers_of b.entries)) is.next_is

-- ---- the own rule, where so many are due

none_of : (n : ℕ) → not (nat_lt 0 n) ≡ (n == 0)
none_of n = grind (arith, nat_tests)

rule_of : (due : List ReminderRow) (n : ℕ) → n ≡ length due → own_remind due ≡ when (n == 0) NothingToRemind
rule_of due n many = ap (λ test. when test NothingToRemind) (none_of (length due) ∙ ap (λ n. n == 0) (sym many))

pub nothing_due : (due : List ReminderRow) (n : ℕ) → n ≡ length due → true ≡ (n == 0) → own_remind due ≡ Some NothingToRemind
nothing_due due n many empty = rule_of due n many ∙ ap (λ test. when test NothingToRemind) (sym empty)

pub something_due : (due : List ReminderRow) (n : ℕ) → n ≡ length due → false ≡ (n == 0) → own_remind due ≡ None
something_due due n many some = rule_of due n many ∙ ap (λ test. when test NothingToRemind) (sym some)
