use Rattle.std.proofs.Common.{ap, refl, sym, ◌∙◌, ◌++◌, drop, arith}
use Rattle.clear_account.proofs.SettledLemmas.{shares_between-walk, shares_from, shares_from-skip, share_last, share_none}
use Rattle.clear_account.proofs.settled.find_shares.Goals as goal

pub loop-walk-init : goal.loop-walk-init
loop-walk-init c = record {
  charged = refl;
  place = c.requires.stands.place;
  credited = c.requires.stands.credited;
  behind = omega (arith, c.requires.stands.behind);
  right =
      ap (λ xs. xs ++ shares_from c.args.walk.now.charged c.args.end c.args.walk.now.credited c.args.walk.now.place (drop c.args.walk.now.place c.args.credits.now)) c.new-shares.ensures.items
      ∙ sym (shares_from-skip c.args.walk.now.charged c.args.end 0 0 c.args.walk.now.place c.args.walk.now.credited c.args.walk.now.place c.args.credits.now c.requires.stands.place (omega (arith, c.requires.stands.credited)) (omega arith) c.requires.stands.behind);
}

pub returns-then-end-credit_end-clause-shares : goal.returns-then-end-credit_end-clause-shares
returns-then-end-credit_end-clause-shares c =
    share_last c.loop-walk.shares.items c.add_share.new.shares.items _ c.args.walk.now.charged c.args.end c.loop-walk.walk.credited c.cents.result c.common-cents.result c.loop-walk.walk.place c.index-credits-walk.result c.args.credits.now
    c.loop-walk-test.true c.index-credits-walk.is c.cents.ensures.value c.common-cents.ensures c.in_ok-add_share.ensures c.loop-walk.invariant.right c.if-end-credit_end.true
    ∙ sym (shares_between-walk c.args.walk.now.charged c.args.end c.args.credits.now)

pub returns-clause-shares : goal.returns-clause-shares
returns-clause-shares c =
    share_none c.loop-walk.shares.items _ c.args.walk.now.charged c.args.end c.loop-walk.walk.credited c.loop-walk.walk.place c.args.credits.now c.loop-walk-test.false c.loop-walk.invariant.right
    ∙ sym (shares_between-walk c.args.walk.now.charged c.args.end c.args.credits.now)
