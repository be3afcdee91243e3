use Rattle.std.proofs.Common.{◌∙◌, nat_le}
use Rattle.std.proofs.lemmas.Result.{IfOk-weaker}
use Rattle.clear_money.specs.Rates.{IsRate, Rate}
use Rattle.clear_debts.proofs.FaultLemmas.{last_look_in_range}
use Rattle.clear_firms.proofs.RateTable.{in_force}
use Rattle.clear_views.proofs.lookups.rate_for.Goals as goal

pub returns-clause-row : goal.returns-clause-row
returns-clause-row g c clean t has =
    IfOk-weaker c.find_rate.result _ _ (λ row is. is ∙ in_force t _ c.args.month has) (c.find_rate.ensures.looks.found clean t has)

pub returns-clause-fault : goal.returns-clause-fault
returns-clause-fault g c clean t has within =
    let looks = c.find_rate.ensures.looks in
    last_look_in_range IsRate (λ (rate : Rate). nat_le rate.first c.args.month) t.rates c.find_rate.result (looks.cause clean t has) (looks.range clean t has) within.rates.ranges
