use Rattle.std.proofs.Common.{◌≡◌, take}
use Rattle.std.specs.List.{sum_by}
use Rattle.clear_account.specs.Walk.{late_cents}
use Rattle.clear_account.proofs.settled.weigh_shares.Given as goal

abbrev pub invariant-loop-share : goal.invariant-loop-share
invariant-loop-share l = l.weight ≡ sum_by (λ s. late_cents l.credits l.due s) (take l.share-index l.shares)
