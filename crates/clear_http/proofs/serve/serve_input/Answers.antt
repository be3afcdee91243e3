use Rattle.std.proofs.Common.{length, refl, ap, ◌∙◌, arith}
use Rattle.clear_wire.specs.Counted.{inner}
use Rattle.clear_http.proofs.PlaceLemmas.{stands_at_end, stands_so}
use Rattle.clear_http.proofs.ServeLemmas.{progress_none, progress_more, progress_over, progress_break, progress_whole}
use Rattle.clear_http.proofs.serve.serve_input.Goals as goal

pub turns-init : goal.turns-init
turns-init g c = record { progress = progress_none (g.H.Responder.responds c.args.responder.now) _ _ _; held = λ few. few; borrow = refl; counts = refl; reader = refl; writer = refl; few = omega arith }

pub turns-preserved : goal.turns-preserved
turns-preserved g c =
    let falls = rw c.in-Ok-Some.field-0-is at c.in-Ok-Some.ensures.falls in
    record {
      progress = progress_more (g.H.Responder.responds c.args.responder.now) _ _ _ _ _ _ _ _ c.turns.invariant.progress c.turns-test.true _ _ c.in-Ok-Some.behind _ (rw c.in-Ok-Some.field-0-is at c.in-Ok-Some.ensures.answered);
      held = λ few. c.in-Ok-Some.ensures.held (c.turns.invariant.held few);
      borrow = c.in-Ok-Some.ensures.borrow ∙ c.turns.invariant.borrow;
      counts = omega (arith, c.in-Ok-Some.ensures.counts, c.turns.invariant.counts);
      reader = c.in-Ok-Some.ensures.reader (λ h. cc) ∙ c.turns.invariant.reader;
      writer = c.in-Ok-Some.ensures.writer (λ h. cc) ∙ c.turns.invariant.writer;
      few = omega (arith, falls, c.turns.invariant.few);
    }

pub returns-in-Ok-None-clause-served : goal.returns-in-Ok-None-clause-served
returns-in-Ok-None-clause-served g c =
    let over = rw c.in-Ok-None.field-0-is at c.in-Ok-None.ensures.over in
    progress_over (g.H.Responder.responds c.args.responder.now) _ _ _ _ _ _ _ _ c.turns.invariant.progress c.turns-test.true _ _ _ over.0 over.1 (ap (λ w. g.W.Write.contents (inner w)) over.2)

pub returns-in-Ok-None-clause-place : goal.returns-in-Ok-None-clause-place
returns-in-Ok-None-clause-place g c none =
    let over = rw c.in-Ok-None.field-0-is at c.in-Ok-None.ensures.over in
    let so_far = c.turns.invariant.progress in
    stands_at_end _ so_far.items _ _ _ _ so_far.count so_far.cuts over.0

pub returns-clause-place : goal.returns-clause-place
returns-clause-place g c none =
    let so_far = c.turns.invariant.progress in
    stands_so _ so_far.items _ _ _ _ so_far.count so_far.cuts (c.turns.invariant.held (λ going. omega (arith, ap length none)))

pub returns-in-Err-clause-fault : goal.returns-in-Err-clause-fault
returns-in-Err-clause-fault g c = progress_break (g.H.Responder.responds c.args.responder.now) _ _ _ _ _ _ _ _ c.turns.invariant.progress c.turns-test.true _ _ c.in-Err.ensures.fault

pub returns-in-Err-clause-whole : goal.returns-in-Err-clause-whole
returns-in-Err-clause-whole g c of_reader =
    let same = c.in-Err.ensures.unread of_reader in
    progress_whole (g.H.Responder.responds c.args.responder.now) _ _ _ _ _ _ _ _ c.turns.invariant.progress c.turns-test.true _ _ same.0 (ap (λ w. g.W.Write.contents (inner w)) same.1)
