use Rattle.std.proofs.Common.{Vec, Global, ◌∙◌, ◌++◌, [], sym, ap}
use Rattle.std.proofs.lemmas.List.{append-nil}
use Rattle.std.specs.List.{cons_option}
use Rattle.clear_book.specs.declared.rows.ReminderRow.{ReminderRow}
use Rattle.clear_rules.proofs.FilterMapLemmas.{found_more}
use Rattle.clear_rules.specs.Views.RemindRun.{firm_due}
use Rattle.clear_rules.proofs.decide.remind.due_rows.Goals as goal
use Rattle.clear_rules.proofs.decide.remind.due_rows.Goals.{in-Some+in_ok-push, in_default}

pub loop-firm-preserved : goal.loop-firm-preserved
loop-firm-preserved c =
    found_more (firm_due c.args.run c.args.day) c.args.firms.now c.loop-firm.firm-index c.firm-item.result c.loop-firm.rows.items c.match-firm_due.rows.items c.firm_due.result
    c.loop-firm-test.true c.firm-item.is c.loop-firm.invariant c.firm_due.ensures
    (elim c.match-firm_due.branch [
      | in-Some+in_ok-push w ↦
          ap (λ (rows : Vec ReminderRow Global). rows.items) w.rows-is
          ∙ w.in_ok-push.ensures.items
          ∙ ap (λ row. c.loop-firm.rows.items ++ cons_option row []) (sym w.in-Some.is)
      | in_default w ↦
          ap (λ (rows : Vec ReminderRow Global). rows.items) w.rows-is
          ∙ sym (append-nil c.loop-firm.rows.items)
          ∙ ap (λ row. c.loop-firm.rows.items ++ cons_option row []) (sym w.in_default.is)
    ])
