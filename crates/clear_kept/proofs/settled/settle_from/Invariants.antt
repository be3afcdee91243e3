use Rattle.std.proofs.Common.{◌≡◌, ◌-◌, map}
use Rattle.std.specs.List.{range_with_len}
use Rattle.clear_account.specs.Account.{charged_up_to}
use Rattle.clear_account.specs.Walk.{Stands}
use Rattle.clear_kept.specs.Weighed.{weighed_charge}
use Rattle.clear_kept.proofs.settled.settle_from.Given as goal

abbrev pub invariant-loop-place : goal.invariant-loop-place
invariant-loop-place l = record {
  stands : Stands l.credits l.walk;
  charged : l.walk.charged ≡ charged_up_to l.charges l.place;
  rows : l.rows.items ≡ map (λ i. weighed_charge l.charges l.credits i) (range_with_len l.fn.front.count (l.place - l.fn.front.count));
}
