use Rattle.std.proofs.Common.{◌-◌, ◌∙◌, ℕ, List, ap}
use Rattle.clear_book.specs.declared.outcomes.Answer.TheVariants.{Owed}
use Rattle.clear_book.specs.Tables.{table_credits}
use Rattle.clear_kept.specs.declared.rows.WeighedCharge.{WeighedCharge}
use Rattle.clear_debts.specs.Owing.{credited_by, owed_with}
use Rattle.clear_debts.proofs.OwedLemmas.{owed_told}
use Rattle.clear_debts.proofs.owed.owed.Goals as goal

pub returns-clause-answer : goal.returns-clause-answer
returns-clause-answer g c clean t has b lawful stands =
    let found = c.in_ok-firm.ensures.account clean t has b lawful stands in
    owed_told b t lawful stands c.args.employer c.args.day c.in_ok-firm.firm.charges c.in_ok-firm.firm.credited _ _ _ found.0 found.1 c.charged.ensures c.arrears.ensures (c.saturating_sub.ensures ∙ ap (λ (n : ℕ). c.in_ok-firm.firm.credited - n) c.charged-2.ensures)

pub returns-clause-kept : goal.returns-clause-kept
returns-clause-kept g c clean t has =
    let firm = c.in_ok-firm.firm in
    let rows = c.in_ok-firm.ensures.kept clean t has in
    let paid = c.in_ok-firm.ensures.credited clean t has ∙ ap (λ (kept : List WeighedCharge). credited_by kept (table_credits t c.args.employer)) rows in
    let over = c.saturating_sub.ensures ∙ ap (λ (n : ℕ). firm.credited - n) c.charged-2.ensures in
    (λ i. Owed (c.charged.ensures i) firm.credited (c.arrears.ensures i) (over i)) ∙ (λ i. owed_with (rows i) (paid i) c.args.day)
