use Rattle.std.proofs.Common.{◌≡◌, ◌≤◌, ◌∙◌, ℕ, List, length, refl, ap, subst}
use Rattle.std.specs.List.{slice_get}
use Rattle.clear_debts.proofs.OverdueLemmas.{months_found, overdue_is}
use Rattle.clear_debts.proofs.overdue.overdue_on.Goals as goal

pub returns-clause-overdue : goal.returns-clause-overdue
returns-clause-overdue c b are amounts_are =
    let day = c.args.day in
    let rates = c.args.rates.now in
    let firm = c.args.member.now in
    let charges = c.args.charges.now in
    overdue_is b day rates firm charges are _ c.in_ok-months.months.items c.args.paid.now c.in_ok-sum.sum amounts_are c.in_ok-sum.ensures.value
    (months_found b day rates firm charges are c.rows.result.now c.in_ok-months.months.items c.rows.ensures.value c.in_ok-months.ensures)
    (subst (λ (months : List ℕ). length months ≤ 2400 → c.month_count.result ≡ length months) c.deref.ensures.value c.month_count.ensures)
    (c.copied.ensures ∙ c.first.ensures.value ∙ ap (λ (months : List ℕ). slice_get months 0) c.deref-2.ensures.value)
    c.arrears.ensures c.interest_arrears.ensures refl
