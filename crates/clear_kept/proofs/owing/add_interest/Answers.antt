use Rattle.std.proofs.Common.{arith}
use Rattle.clear_kept.proofs.OwingLemmas.{interest_more}
use Rattle.clear_kept.proofs.owing.add_interest.Goals as goal

pub loop-row-preserved : goal.loop-row-preserved
loop-row-preserved c = record {
  range = omega (arith, c.loop-row.invariant.range, c.interest_of-total.ensures.range);
  value = interest_more c.args.rates.now c.args.day c.loop-row.row-index c.loop-row.total c.interest_of-total.result c.row-item.result c.args.rows.now c.loop-row-test.true c.row-item.is c.loop-row.invariant.value c.interest_of-total.ensures.value;
}
