use Rattle.std.proofs.Common.{rules, arith, refl, ◌∙◌}
use Rattle.sqlite.specs.Held.{state}
use Rattle.sqlite.specs.State.{HasCleanDisk}
use Rattle.clear_rows.proofs.Inside.{survives_none, survives_both, keeps_none, keeps_both}
use Rattle.clear_schema.proofs.Causes.{of_disk}
use Rattle.clear_database.proofs.MakeLemmas.{all_made, breaks_next, makes_next, some_made, sound_next}
use Rattle.clear_database.proofs.make.make_parts.Goals as goal

pub loop-text-init : goal.loop-text-init
loop-text-init g c = record {
  same_reference = refl;
  made = λ clean none. record { schema = none; empty = tt };
  sound = λ clean none some. absurd (omega (arith, some));
  kept = λ clean. keeps_none (state g.S.Store c.args.tx.now.conn.now);
  goes_on = λ clean some. absurd (omega (arith, some));
  survives = survives_none (state g.S.Store c.args.tx.now.conn.now);
}

pub loop-text-preserved : goal.loop-text-preserved
loop-text-preserved g c =
    let it = c.loop-text.invariant in
    let first = state g.S.Store c.args.tx.now.conn.now in
    let mid = state g.S.Store c.loop-text.tx.conn.now in
    let last = state g.S.Store c.put.new.tx.conn.now in
    let before : HasCleanDisk last → HasCleanDisk mid = λ clean. omega (arith, c.put.ensures.runs.survives.clean) in
    record {
      same_reference = c.put.ensures.same_reference ∙ it.same_reference;
      made = λ clean none. makes_next c.args.texts.now c.requires c.loop-text.text-index _ c.loop-text-test.true mid last (it.made (before clean) none) (c.in_ok-put.ensures.runs.done clean);
      sound = λ clean none some. sound_next c.args.texts.now c.requires c.loop-text.text-index _ c.loop-text-test.true mid last (it.made (before clean) none) (c.in_ok-put.ensures.runs.done clean);
      kept = λ clean. keeps_both first mid last (it.kept (before clean)) (c.put.ensures.runs.kept clean);
      goes_on = λ clean some. c.in_ok-put.ensures.runs.goes_on clean;
      survives = survives_both first mid last it.survives c.put.ensures.runs.survives;
    }

pub returns-in_err-put-clause-same_reference : goal.returns-in_err-put-clause-same_reference
returns-in_err-put-clause-same_reference g c = c.put.ensures.same_reference ∙ c.loop-text.invariant.same_reference

pub returns-in_err-put-clause-cause : goal.returns-in_err-put-clause-cause
returns-in_err-put-clause-cause g c clean none =
    let it = c.loop-text.invariant in
    let mid = state g.S.Store c.loop-text.tx.conn.now in
    let last = state g.S.Store c.put.new.tx.conn.now in
    let late : HasCleanDisk last = clean in
    let before : HasCleanDisk mid = omega (arith, c.put.ensures.runs.survives.clean) in
    let fault = of_disk c.put.result (c.put.ensures.runs.broke late) c.put.ensures.runs.no_row (breaks_next c.args.texts.now c.requires c.loop-text.text-index _ c.loop-text-test.true mid last (it.made before none)) in
    search (rules, fault)

pub returns-in_err-put-clause-kept : goal.returns-in_err-put-clause-kept
returns-in_err-put-clause-kept g c clean =
    let before : HasCleanDisk (state g.S.Store c.loop-text.tx.conn.now) = omega (arith, c.put.ensures.runs.survives.clean) in
    keeps_both (state g.S.Store c.args.tx.now.conn.now) (state g.S.Store c.loop-text.tx.conn.now) (state g.S.Store c.put.new.tx.conn.now) (c.loop-text.invariant.kept before) (c.put.ensures.runs.kept clean)

pub returns-in_err-put-clause-survives : goal.returns-in_err-put-clause-survives
returns-in_err-put-clause-survives g c =
    survives_both (state g.S.Store c.args.tx.now.conn.now) (state g.S.Store c.loop-text.tx.conn.now) (state g.S.Store c.put.new.tx.conn.now) c.loop-text.invariant.survives c.put.ensures.runs.survives

pub returns-clause-made : goal.returns-clause-made
returns-clause-made g c clean none =
    all_made c.args.texts.now c.requires c.loop-text.text-index c.loop-text-test.false (state g.S.Store c.loop-text.tx.conn.now).now (c.loop-text.invariant.made clean none)

pub returns-clause-sound : goal.returns-clause-sound
returns-clause-sound g c clean none =
    c.loop-text.invariant.sound clean none (some_made c.args.texts.now c.requires c.loop-text.text-index c.loop-text-test.false)

pub returns-clause-goes_on : goal.returns-clause-goes_on
returns-clause-goes_on g c clean =
    c.loop-text.invariant.goes_on clean (some_made c.args.texts.now c.requires c.loop-text.text-index c.loop-text-test.false)
