use Rattle.std.proofs.Common.{◌∙◌, subst, sym}
use Rattle.std.specs.BTreeSet as set
use Rattle.std.specs.Ordering.{nat_cmp}
use Rattle.clear_views.specs.Imports.{firm_key, is_among}
use Rattle.clear_book.specs.Keyed.{AreOnce}
use Rattle.clear_views.proofs.FirmLemmas.{all_named, new_named, new_once, new_seen, none_named, old_named, old_seen}
use Rattle.clear_views.proofs.import.firms.named_firms.Goals.{in-Some+in_ok-insert+then-branch+in_ok-push, in-Some+in_ok-insert+else-branch, in_default}
use Rattle.clear_views.proofs.import.firms.named_firms.Goals as goal

pub loop-line-preserved : goal.loop-line-preserved
loop-line-preserved c = elim c.match-line.branch [
  | in-Some+in_ok-insert+then-branch+in_ok-push w ↦ record {
    seen = λ e. (λ i. set.contains nat_cmp (w.seen-is i) e) ∙ new_seen c.args.lines.now c.loop-line.line-index c.line-item.result c.loop-line-test.true c.line-item.is (set.contains nat_cmp c.loop-line.seen) c.loop-line.firms.items c.loop-line.invariant.seen c.loop-line.invariant.named w.in-Some.employer w.in-Some.is (set.contains nat_cmp w.insert.new.self) w.in_ok-insert.ensures.updates.0 c.match-line.firms.items ((λ i. (w.firms-is i).items) ∙ w.in_ok-push.ensures.items) e;
    named = new_named c.args.lines.now c.loop-line.line-index c.line-item.result c.loop-line-test.true c.line-item.is (set.contains nat_cmp c.loop-line.seen) c.loop-line.firms.items c.loop-line.invariant.seen c.loop-line.invariant.named w.in-Some.employer w.in-Some.is c.match-line.firms.items ((λ i. (w.firms-is i).items) ∙ w.in_ok-push.ensures.items);
    once = new_once (set.contains nat_cmp c.loop-line.seen) c.loop-line.firms.items c.loop-line.invariant.seen w.in-Some.employer w.in_ok-insert.field-0 w.in_ok-insert.ensures.added w.if-branch.true c.loop-line.invariant.once c.match-line.firms.items ((λ i. (w.firms-is i).items) ∙ w.in_ok-push.ensures.items);
  }
  | in-Some+in_ok-insert+else-branch w ↦ record {
    seen = λ e. (λ i. set.contains nat_cmp (w.seen-is i) e) ∙ old_seen c.args.lines.now c.loop-line.line-index c.line-item.result c.loop-line-test.true c.line-item.is (set.contains nat_cmp c.loop-line.seen) c.loop-line.firms.items c.loop-line.invariant.seen c.loop-line.invariant.named w.in-Some.employer w.in-Some.is (set.contains nat_cmp w.insert.new.self) w.in_ok-insert.ensures.updates.0 w.in_ok-insert.field-0 w.in_ok-insert.ensures.added w.if-branch.false e ∙ (λ i. is_among e (sym w.firms-is i).items);
    named = λ e. (λ i. is_among e (w.firms-is i).items) ∙ old_named c.args.lines.now c.loop-line.line-index c.line-item.result c.loop-line-test.true c.line-item.is (set.contains nat_cmp c.loop-line.seen) c.loop-line.firms.items c.loop-line.invariant.seen c.loop-line.invariant.named w.in-Some.employer w.in-Some.is (set.contains nat_cmp w.insert.new.self) w.in_ok-insert.ensures.updates.0 w.in_ok-insert.field-0 w.in_ok-insert.ensures.added w.if-branch.false e;
    once = subst (AreOnce firm_key) (λ i. (sym w.firms-is i).items) c.loop-line.invariant.once;
  }
  | in_default w ↦ record {
    seen = λ e. (λ i. set.contains nat_cmp (w.seen-is i) e) ∙ c.loop-line.invariant.seen e ∙ (λ i. is_among e (sym w.firms-is i).items);
    named = λ e. (λ i. is_among e (w.firms-is i).items) ∙ none_named c.args.lines.now c.loop-line.line-index c.line-item.result c.loop-line-test.true c.line-item.is (set.contains nat_cmp c.loop-line.seen) c.loop-line.firms.items c.loop-line.invariant.seen c.loop-line.invariant.named w.in_default.is e;
    once = subst (AreOnce firm_key) (λ i. (sym w.firms-is i).items) c.loop-line.invariant.once;
  }
]

pub returns-clause-named : goal.returns-clause-named
returns-clause-named c = all_named c.args.lines.now c.loop-line.line-index c.loop-line.firms.items c.loop-line-test.false c.loop-line.invariant.named
