use Rattle.std.proofs.Common.{◌≡◌, ◌∙◌, List, None, Some, subst, sym}
use Rattle.std.proofs.lemmas.Result.{err_from_is_err_and}
use Rattle.std.specs.List.{last_or}
use Rattle.clear_money.specs.Rates.{IsRate, Rate}
use Rattle.clear_debts.proofs.FaultLemmas.{last_row_in_range}
use Rattle.clear_views.proofs.RateLemmas.{first_of_last, none_left}
use Rattle.clear_views.proofs.add_rate.add_rate_view.Goals as goal

pub returns-in_err-row-clause-fault : goal.returns-in_err-row-clause-fault
returns-in_err-row-clause-fault g c clean t has within =
    let p = err_from_is_err_and c.from_residual.result c.from_residual.ensures.1 in
    rw (p.1, p.2) (last_row_in_range IsRate t.rates c.in_err-row.field-0.0 (c.in_err-row.ensures.looks.cause clean t has) (c.in_err-row.ensures.looks.range clean t has) within.rates.ranges)

pub returns-in-Some-clause-last : goal.returns-in-Some-clause-last
returns-in-Some-clause-last g c clean t has = c.first.ensures ∙ first_of_last t.rates c.in-Some.row (sym c.in-Some.is ∙ c.in_ok-row.ensures.looks.found clean t has)

pub returns-in-Some-clause-none : goal.returns-in-Some-clause-none
returns-in-Some-clause-none g c clean t has empty =
    let found : Some c.in-Some.row ≡ last_or None t.rates = sym c.in-Some.is ∙ c.in_ok-row.ensures.looks.found clean t has in
    let none : Some c.in-Some.row ≡ None = subst (λ (rates : List Rate). Some c.in-Some.row ≡ last_or None rates) empty found in
    absurd cc

pub returns-in-None-clause-fault : goal.returns-in-None-clause-fault
returns-in-None-clause-fault g c clean t has within = absurd (none_left t.rates (sym c.in-None.is ∙ c.in_ok-row.ensures.looks.found clean t has) within.rates.some)

pub returns-in_err-row-clause-cause : goal.returns-in_err-row-clause-cause
returns-in_err-row-clause-cause g c clean t has =
    let p = err_from_is_err_and c.from_residual.result c.from_residual.ensures.1 in
    rw (p.1, p.2) (c.in_err-row.ensures.looks.cause clean t has)
