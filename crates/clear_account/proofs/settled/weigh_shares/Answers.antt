use Rattle.std.proofs.Common.{◌≡◌, ◌+◌, take, arith}
use Rattle.std.specs.List.{sum_by}
use Rattle.clear_account.specs.Walk.{late_cents}
use Rattle.clear_account.proofs.SettledLemmas.{late_cents-low, late_cents-more}
use Rattle.clear_account.proofs.settled.weigh_shares.Goals as goal

more : (c : goal.After-weigh_part-weight) → c.loop-share.weight + c.weigh_part-weight.result ≡ sum_by (late_cents c.args.credits.now c.args.due) (take (c.loop-share.share-index + 1) c.args.shares.now)
more c =
    late_cents-more c.args.credits.now c.args.due c.loop-share.share-index c.loop-share.weight c.weigh_part-weight.result c.index-credits-share.result c.args.shares.now
    c.loop-share-test.true (c.requires.places c.loop-share.share-index (record { place = 0; cents = 0 }) c.loop-share-test.true) c.weigh_part-weight.ensures c.loop-share.invariant

pub overflow_add-weight : goal.overflow_add-weight
overflow_add-weight c =
    omega (arith, more c, late_cents-low c.args.credits.now c.args.due (c.loop-share.share-index + 1) c.args.shares.now c.requires.cents)

pub loop-share-preserved : goal.loop-share-preserved
loop-share-preserved c = more c
