use Rattle.std.proofs.Common.{◌≤◌, arith, inl, inr, sym, ◌∙◌}
use Rattle.clear_account.specs.declared.entries.Charge.{Charge}
use Rattle.clear_account.proofs.AccountLemmas.{All-read}
use Rattle.clear_account.proofs.QueueLemmas.{turn_charge, turn_credit, no_more}
use Rattle.clear_account.proofs.WalkLemmas.{pieces_behind-walk}
use Rattle.clear_account.proofs.refill.walk.Goals as goal
use Rattle.clear_account.proofs.refill.walk.Goals.{then-queues-test+else-j-credits, else-queues-test}

pub queues-preserved-then-charge_end-credit_end : goal.queues-preserved-then-charge_end-credit_end
queues-preserved-then-charge_end-credit_end c =
    let small : c.index-charges-i.result.cents ≤ 5000000000 = All-read (λ (d : Charge). d.cents ≤ 5000000000) c.args.charges.now c.queues.i _ c.requires.owed c.queues-test.true c.index-charges-i.is in
    record {
      charges = omega arith;
      credits = omega arith;
      owed = omega arith;
      paid = omega arith;
      turns = omega arith;
      count = omega (arith, c.in_ok-add_piece.ensures.one);
      fewer = λ h. omega arith;
      right =
          turn_charge c.queues.pieces.items c.queues.charge_start c.queues.credit_start c.queues.i c.queues.j c.args.charges.now c.args.credits.now _
          c.index-charges-i.result c.index-credits-j.result c.cents.result c.saturating_sub.result _ (omega arith) (omega arith)
          c.index-charges-i.is c.index-credits-j.is c.cents.ensures.value (omega arith) c.in_ok-add_piece.ensures.items c.queues.invariant.right c.if-charge_end-credit_end.true;
    }

pub queues-preserved : goal.queues-preserved
queues-preserved c = record {
  charges = omega arith;
  credits = omega arith;
  owed = omega arith;
  paid = omega (arith, c.cents.ensures.range);
  turns = omega arith;
  count = omega (arith, c.in_ok-add_piece.ensures.one);
  fewer = λ h. omega arith;
  right =
      turn_credit c.queues.pieces.items c.queues.charge_start c.queues.credit_start c.queues.i c.queues.j c.args.charges.now c.args.credits.now _
      c.index-charges-i.result c.index-credits-j.result c.cents.result c.saturating_sub.result _ (omega arith) (omega arith)
      c.index-charges-i.is c.index-credits-j.is c.cents.ensures.value (omega arith) c.in_ok-add_piece.ensures.items c.queues.invariant.right c.if-charge_end-credit_end.false;
}

pub returns-clause-right : goal.returns-clause-right
returns-clause-right c =
    no_more c.queues.pieces.items c.queues.charge_start c.queues.credit_start c.queues.i c.queues.j c.args.charges.now c.args.credits.now _
    (elim c.queues-test.branch [ then-queues-test+else-j-credits w ↦ inr (omega arith) | else-queues-test w ↦ inl (omega arith) ])
    c.queues.invariant.right
    ∙ sym (pieces_behind-walk c.args.charged c.args.credited c.args.charges.now c.args.credits.now)
