use Rattle.std.proofs.Common.{◌≡◌, ◌*◌, ◌≤◌}
use Rattle.std.specs.List.{range_with_len, sum_by}
use Rattle.clear_account.specs.Interest.{interest_on}
use Rattle.clear_account.proofs.owed.interest.Given as goal

abbrev pub invariant-loop-index : goal.invariant-loop-index
invariant-loop-index g l = record {
  range : l.total ≤ 1206000000000 * l.index;
  value : l.total ≡ sum_by (λ i. interest_on l.rates (g.K.Keeper.charges l.keeper) (g.K.Keeper.credits l.keeper) i l.day) (range_with_len 0 l.index);
}
