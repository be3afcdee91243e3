use Rattle.std.proofs.Common.{refl, subst, arith}
use Rattle.std.specs.List.{All}
use Rattle.std.proofs.lemmas.List.{take_all}
use Rattle.clear_account.proofs.FrontLemmas.{All-take_more}
use Rattle.clear_kept.specs.Owing.{IsWeighedInRange}
use Rattle.clear_kept.proofs.owing.are_weighed.Goals as goal

pub loop-row-preserved : goal.loop-row-preserved
loop-row-preserved c = All-take_more IsWeighedInRange c.args.rows.now c.loop-row.row-index c.row-item.result c.loop-row-test.true c.row-item.is (c.if-not-is_weighed.ensures.0 refl) c.loop-row.invariant

pub returns : goal.returns
returns c = (λ _. subst (All IsWeighedInRange) (take_all c.loop-row.row-index c.args.rows.now (omega arith)) c.loop-row.invariant, λ _. refl)
