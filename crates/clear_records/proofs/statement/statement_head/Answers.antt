use Rattle.std.proofs.Common.{ℕ, List, filter, map, refl, ap, sym, subst, ◌∙◌}
use Rattle.clear_kept.specs.declared.rows.WeighedCharge.{WeighedCharge}
use Rattle.clear_account.specs.Account.{credited}
use Rattle.clear_book.specs.Accounts.{months, row_credit}
use Rattle.clear_book.specs.Own.Statement.{whole_payment}
use Rattle.clear_book.specs.declared.rows.CreditRow.{CreditRow}
use Rattle.clear_records.specs.Records.{ChargesRise}
use Rattle.clear_records.specs.Told.{interest_owed, is_missing_in}
use Rattle.clear_records.proofs.RecordLemmas.{head_is}
use Rattle.clear_records.proofs.statement.statement_head.Goals as goal

pub returns-clause-head : goal.returns-clause-head
returns-clause-head c b e are =
    let r = c.args.records.now in
    head_is b e c.args.day c.args.records.now are c.interest_arrears-interest.result c.in_ok-firm_account.field-0 _ _ _ _
    (c.interest_arrears-interest.ensures ∙ ap (λ (paid : ℕ). interest_owed r.rates r.charges paid c.args.day) (c.in-Some.ensures.value ∙ ap (λ (credits : List CreditRow). credited (map row_credit credits)) c.as_slice-credits.ensures.value))
    c.in_ok-firm_account.ensures (c.in_ok-charges.ensures are.months_rise) (c.in_ok-interest_credits.ensures.payments ∙ ap (map whole_payment) c.as_slice-credits.ensures.value)
    (c.in_ok-missing.ensures (subst ChargesRise (sym c.rows-rows.ensures.value) are.charges_rise) ∙ ap (λ (rows : List WeighedCharge). filter (is_missing_in r.member r.rates rows c.args.day) months) c.rows-rows.ensures.value)
    refl refl refl refl
