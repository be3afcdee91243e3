use Rattle.std.proofs.Common.{◌∙◌}
use Rattle.clear_store.proofs.CreditLemmas.{credits_of_lines-none, credits_of_lines-some}
use Rattle.clear_store.proofs.new_credits.credits_of_rows.Goals.{in-Some+in_ok-of_line+in_ok-push, in_default}
use Rattle.clear_store.proofs.new_credits.credits_of_rows.Goals as goal

pub loop-row-preserved : goal.loop-row-preserved
loop-row-preserved c =
    let rows = c.args.rows.now in
    let at = c.loop-row.row-index in
    let row = c.row-item.result in
    elim c.match-row.branch [
      | in-Some+in_ok-of_line+in_ok-push w ↦ (λ i. (w.credits-is i).items) ∙ w.in_ok-push.ensures.items ∙ credits_of_lines-some rows at row c.loop-row-test.true c.row-item.is w.in-Some.employer w.in_ok-of_line.field-0 c.loop-row.credits.items w.in-Some.is w.in_ok-of_line.ensures c.loop-row.invariant
      | in_default w ↦ (λ i. (w.credits-is i).items) ∙ c.loop-row.invariant ∙ credits_of_lines-none rows at row c.loop-row-test.true c.row-item.is w.in_default.is
    ]
