use Rattle.std.proofs.Common.{◌≡◌, ◌+◌, ◌∙◌, [], Ok, Err, take, refl}
use Rattle.std.proofs.lemmas.Result.{err_from_is_err_and}
use Rattle.sqlite.specs.Held.{state}
use Rattle.clear_rows.proofs.Inside.{survives_both, survives_none}
use Rattle.clear_debts.proofs.ReadLemmas.{was_clean}
use Rattle.clear_views.proofs.StillLemmas.{reads_else, reads_fault, reads_memory, reads_none, reads_then}
use Rattle.clear_rules.proofs.FilterMapLemmas.{found_more}
use Rattle.clear_views.proofs.import.each.found_each.Goals as goal

pub loop-item-init : goal.loop-item-init
loop-item-init g c = record {
  same_reference = refl;
  reads = λ clean t has. reads_none g.S.Store t (take 0 c.args.items.now ≡ []) _ c.new-all.result _ refl c.new-all.ensures.items;
  survives = survives_none (state g.S.Store c.args.tx.now.conn.now);
}

pub returns-in_err-found-clause-same_reference : goal.returns-in_err-found-clause-same_reference
returns-in_err-found-clause-same_reference g c = c.ask.ensures.same_reference ∙ c.loop-item.invariant.same_reference

pub returns-in_err-found-clause-reads : goal.returns-in_err-found-clause-reads
returns-in_err-found-clause-reads g c =
    let p = err_from_is_err_and c.from_residual.result c.from_residual.ensures.1 in
    rw (p.1, p.2) (record {
      each = λ clean t has.
          reads_then g.S.Store t (take c.loop-item.item-index c.args.items.now ≡ []) ⊥ (c.args.items.now ≡ []) c.args.tx.now.conn.now c.loop-item.tx.conn.now c.ask.new.tx.conn.now _ (Err c.in_err-found.field-0.0) _ _ (λ _ no. absurd no) has
          (c.loop-item.invariant.reads (was_clean _ _ c.ask.ensures.reads.survives clean) t has)
          (λ still. reads_fault g.S.Store t ⊥ ⊥ _ _ c.in_err-found.field-0.0 _ _ (c.in_err-found.ensures.reads.each clean t still));
      survives = survives_both _ _ _ c.loop-item.invariant.survives c.ask.ensures.reads.survives;
    })

pub returns-in_err-push_found-clause-same_reference : goal.returns-in_err-push_found-clause-same_reference
returns-in_err-push_found-clause-same_reference g c = c.ask.ensures.same_reference ∙ c.loop-item.invariant.same_reference

pub returns-in_err-push_found-clause-reads : goal.returns-in_err-push_found-clause-reads
returns-in_err-push_found-clause-reads g c =
    let p = err_from_is_err_and c.from_residual-in_err-push_found.result c.from_residual-in_err-push_found.ensures.1 in
    rw (p.1, p.2) (record {
      each = λ clean t has.
          let step =
          reads_then g.S.Store t (take c.loop-item.item-index c.args.items.now ≡ []) ⊥ (c.args.items.now ≡ []) c.args.tx.now.conn.now c.loop-item.tx.conn.now c.ask.new.tx.conn.now _ (Ok c.in_ok-found.found) _ _ (λ _ no. absurd no) has
          (c.loop-item.invariant.reads (was_clean _ _ c.ask.ensures.reads.survives clean) t has)
          (λ still. c.in_ok-found.ensures.reads.each clean t still) in
          reads_memory g.S.Store t _ _ _ c.in_err-push_found.field-0.0 _ c.in_err-push_found.ensures.memory step.kept;
      survives = survives_both _ _ _ c.loop-item.invariant.survives c.ask.ensures.reads.survives;
    })

pub loop-item-preserved : goal.loop-item-preserved
loop-item-preserved g c = record {
  same_reference = c.ask.ensures.same_reference ∙ c.loop-item.invariant.same_reference;
  reads = λ clean t has.
      let so_far = c.loop-item.invariant.reads (was_clean _ _ c.ask.ensures.reads.survives clean) t has in
      let step =
      reads_then g.S.Store t (take c.loop-item.item-index c.args.items.now ≡ []) ⊥ (take (c.loop-item.item-index + 1) c.args.items.now ≡ []) c.args.tx.now.conn.now c.loop-item.tx.conn.now c.ask.new.tx.conn.now _ (Ok c.in_ok-found.found) _ _ (λ _ no. absurd no) has
      so_far
      (λ still. c.in_ok-found.ensures.reads.each clean t still) in
      reads_else g.S.Store t (take (c.loop-item.item-index + 1) c.args.items.now ≡ []) (take (c.loop-item.item-index + 1) c.args.items.now ≡ []) _ _ c.in_ok-found.found c.push_found.new.items _ _ (λ p. p)
      (found_more (g.A.Asked.answer c.args.asked.now t) c.args.items.now c.loop-item.item-index c.item-item.result c.loop-item.all.items c.push_found.new.items.items c.in_ok-found.found c.loop-item-test.true c.item-item.is so_far.found step.found c.in_ok-push_found.ensures.added)
      step;
  survives = survives_both _ _ _ c.loop-item.invariant.survives c.ask.ensures.reads.survives;
}
