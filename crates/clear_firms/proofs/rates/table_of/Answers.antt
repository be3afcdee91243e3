use Rattle.std.proofs.Common.{◌≤◌, subst}
use Rattle.clear_money.specs.Rates.{last_first}
use Rattle.clear_firms.proofs.RateTable.{too_early}
use Rattle.clear_firms.proofs.rates.table_of.Goals as goal

pub returns-in-Err-RateOrder-clause-range : goal.returns-in-Err-RateOrder-clause-range
returns-in-Err-RateOrder-clause-range c told rates =
    let early : c.row-item.result.first ≤ last_first c.loop-row.table = c.push.ensures.order.0 cc in
    too_early c.args.rows.now c.in-Some.parts.1.now c.in-Some.parts.0.now c.row-item.result c.loop-row.row-index c.in-Some.ensures.cases.0 c.loop-row-test.true c.row-item.is
    (subst (λ rs. c.row-item.result.first ≤ last_first rs) c.loop-row.invariant early) rates
