use Rattle.std.proofs.Common.{◌≡◌, ◌+◌, ◌≤◌, length, ◌∙◌, ap, sym, List, add-zero, arith}
use Rattle.toml.proofs.Views.{Entry}
use Rattle.toml.specs.View.{members_view}
use Rattle.clear_check.proofs.CallerCheckLemmas.{clerks_in, clerks_in-keys, clerks_in-le, counted_one}
use Rattle.clear_check.proofs.callers.count_clerks.Goals as goal

pub returns : goal.returns
returns c = λ keys e.
    let all = c.loop-value.invariant.2 ∙ clerks_in-keys (members_view c.args.document.now.entries) keys e in
    let none : clerks_in (members_view c.loop-value.value-iterator) ≡ 0 = ap (λ (es : List Entry). clerks_in (members_view es)) c.in-None.ensures.steps.0 in
    sym (add-zero c.loop-value.clerks) ∙ ap (λ n. c.loop-value.clerks + n) (sym none) ∙ all

counted : (c : goal.Then-is_clerk) → c.loop-value.clerks + 1 + clerks_in (members_view c.next.new.self) ≡ clerks_in (members_view c.args.document.now.entries)
counted c = counted_one c.loop-value.clerks c.args.document.now.entries c.loop-value.value-iterator c.next.new.self _ _ _ c.loop-value.invariant.2 c.in-Some.ensures.steps c.if-is_clerk.ensures

pub overflow_add-clerks : goal.overflow_add-clerks
overflow_add-clerks c =
    let most : clerks_in (members_view c.args.document.now.entries) ≤ length c.args.document.now.entries = clerks_in-le c.args.document.now.entries in
    omega (arith, counted c, most, c.len-most.ensures.len, c.len-most.ensures.small)

pub loop-value-preserved : goal.loop-value-preserved
loop-value-preserved c =
    let step = counted_one c.loop-value.clerks c.args.document.now.entries c.loop-value.value-iterator c.next.new.self _ _ _ c.loop-value.invariant.2 c.in-Some.ensures.steps c.if-is_clerk.ensures in
    (tt, tt, ap (λ n. n + clerks_in (members_view c.next.new.self)) (sym (add-zero c.loop-value.clerks)) ∙ step)

pub loop-value-preserved-then-is_clerk : goal.loop-value-preserved-then-is_clerk
loop-value-preserved-then-is_clerk c = (tt, tt, counted c)
