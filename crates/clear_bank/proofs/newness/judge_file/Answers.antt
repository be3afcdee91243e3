use Rattle.std.proofs.Common.{ap, sym, ◌∙◌}
use Rattle.std.specs.Option.{option_copied}
use Rattle.clear_bank.specs.Newness.{lines_before}
use Rattle.clear_bank.proofs.NewnessLemmas.{judging-start, judging-new, judging-repeat, judging-conflict}
use Rattle.clear_bank.proofs.newness.judge_file.Goals as goal
use Rattle.clear_bank.proofs.newness.judge_file.Goals.{in-None+in_ok-push-in-None, in-Some}

pub loop-place-init : goal.loop-place-init
loop-place-init c = judging-start c.args.known.now c.args.lines.now c.in_ok-index.index c.new-new.result.items c.in_ok-index.ensures c.new-new.ensures.items

pub returns-in-Some-2 : goal.returns-in-Some-2
returns-in-Some-2 c =
    let h = c.loop-place.invariant in
    let found = sym (c.in_ok-enter.ensures.earlier (lines_before c.args.known.now c.args.lines.now c.loop-place.place) h.indexed) ∙ ap option_copied c.in-Some.is in
    judging-conflict c.args.known.now c.args.lines.now c.loop-place.place c.index-lines-place.result c.loop-place-test.true c.index-lines-place.is
    c.loop-place.index c.enter.new.index c.loop-place.new.items c.loop-place.repeats h c.in-Some.earlier.now found (sym c.has_content_of.ensures ∙ c.if-has_content_of.false)

pub loop-place-preserved : goal.loop-place-preserved
loop-place-preserved c =
    let h = c.loop-place.invariant in
    let before = lines_before c.args.known.now c.args.lines.now c.loop-place.place in
    let earlier = c.in_ok-enter.ensures.earlier before h.indexed in
    let more = c.in_ok-enter.ensures.index before h.indexed in
    elim c.match-branch-3.branch [
      | in-None+in_ok-push-in-None w ↦
          let found = sym earlier ∙ ap option_copied w.in-None.is in
          let next = judging-new c.args.known.now c.args.lines.now c.loop-place.place c.index-lines-place.result c.loop-place-test.true c.index-lines-place.is
          c.loop-place.index c.enter.new.index c.loop-place.new.items c.loop-place.repeats h more found in
          rw (w.new-is, w.in_ok-push-in-None.ensures.items, w.repeats-is) next
      | in-Some w ↦
          let found = sym earlier ∙ ap option_copied w.in-Some.is in
          let next = judging-repeat c.args.known.now c.args.lines.now c.loop-place.place c.index-lines-place.result c.loop-place-test.true c.index-lines-place.is
          c.loop-place.index c.enter.new.index c.loop-place.new.items c.loop-place.repeats h w.in-Some.earlier.now more found (sym w.has_content_of.ensures ∙ w.if-has_content_of.true) in
          rw (w.new-is, w.repeats-is) next
    ]
