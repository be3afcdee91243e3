use Rattle.std.proofs.Common.{arith}
use Rattle.clear_account.specs.Interest.{interest_on}
use Rattle.clear_account.proofs.StretchLemmas.{sum_by-range_more}
use Rattle.clear_account.proofs.owed.interest.Goals as goal

pub loop-index-preserved : goal.loop-index-preserved
loop-index-preserved g c = record {
  range = omega (arith, c.interest_of_charge-total.ensures.range);
  value = omega (arith, c.loop-index.invariant.value, c.interest_of_charge-total.ensures.value, sum_by-range_more (λ i. interest_on c.args.rates.now (g.K.Keeper.charges c.args.keeper.now) (g.K.Keeper.credits c.args.keeper.now) i c.args.day) c.loop-index.index);
}
