use Rattle.std.proofs.Common.{◌≡◌, ◌∙◌, List, length, None, Some, inr, ap, subst}
use Rattle.clear_book.specs.declared.outcomes.Reply.TheVariants.{Reminded}
use Rattle.clear_book.specs.declared.rows.ReminderRow.{ReminderRow}
use Rattle.clear_book.specs.declared.rules.Rule.TheVariants.{NothingToRemind}
use Rattle.clear_book.specs.Own.RemindRun.{own_remind}
use Rattle.clear_laws.proofs.RemindTablesLemmas.{run_takes}
use Rattle.clear_rules.proofs.RemindLemmas.{due_of_book, nothing_due, something_due}
use Rattle.clear_rules.proofs.decide.remind.decide_remind.Goals as goal

pub returns-then-is_empty-clause-judged : goal.returns-then-is_empty-clause-judged
returns-then-is_empty-clause-judged c b is =
    let due = due_of_book b c.args.day c.args.view.now is c.in_ok-rows.rows.items _ c.in_ok-rows.ensures c.deref.ensures.value in
    inr (subst (λ (rows : List ReminderRow). own_remind rows ≡ Some NothingToRemind) due (nothing_due c.in_ok-rows.rows.items _ c.in_ok-rows.rows.ok.0 c.if-is_empty.ensures))

pub returns-clause-judged : goal.returns-clause-judged
returns-clause-judged c b is =
    let due = due_of_book b c.args.day c.args.view.now is c.in_ok-rows.rows.items _ c.in_ok-rows.ensures c.deref.ensures.value in (
      subst (λ (rows : List ReminderRow). own_remind rows ≡ None) due (something_due c.in_ok-rows.rows.items _ c.in_ok-rows.rows.ok.0 c.if-is_empty.ensures),
      (λ i. Reminded (is.next_is i) ((c.len-firms.ensures ∙ c.in_ok-rows.rows.ok.0 ∙ ap length due) i)),
    )

pub returns-clause-change : goal.returns-clause-change
returns-clause-change c b is =
    let due = due_of_book b c.args.day c.args.view.now is c.in_ok-rows.rows.items _ c.in_ok-rows.ensures c.deref.ensures.value in
    rw (c.new.ensures, c.len-firms.ensures ∙ c.in_ok-rows.rows.ok.0) (λ t caller number lawful stands judged.
    run_takes b t stands caller number c.args.day lawful _ judged c.args.view.now.next c.in_ok-rows.rows.items is.next_is due)
