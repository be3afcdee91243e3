use Rattle.clear_money.specs.Rates.{IsRate}
use Rattle.clear_values.proofs.ListLemmas.{all_more}
use Rattle.clear_values.proofs.ranges.rows_in_range.Goals as goal

pub loop-row-preserved : goal.loop-row-preserved
loop-row-preserved c =
    all_more IsRate c.args.rows.now c.loop-row.row-index c.row-item.result c.loop-row-test.true c.row-item.is c.loop-row.invariant c.rate_in_range.ensures
