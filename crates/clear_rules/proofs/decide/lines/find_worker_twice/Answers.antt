use Rattle.std.proofs.Common.{arith}
use Rattle.std.specs.BTreeSet as set
use Rattle.std.specs.Ordering.{nat_cmp}
use Rattle.clear_rules.proofs.ReportLemmas.{seen_twice, seen_once, seen_more, twice_none}
use Rattle.clear_rules.proofs.decide.lines.find_worker_twice.Goals as goal

pub returns-then-not-branch : goal.returns-then-not-branch
returns-then-not-branch c =
    seen_twice c.args.lines.now c.loop-line.line-index c.line-item.result (omega arith) c.line-item.is
    (set.contains nat_cmp c.loop-line.seen) c.loop-line.invariant.seen c.loop-line.invariant.so_far
    c.in_ok-insert.field-0 c.in_ok-insert.ensures.added c.if-not-branch.true

pub loop-line-preserved : goal.loop-line-preserved
loop-line-preserved c = record {
  so_far =
      seen_once c.args.lines.now c.loop-line.line-index c.line-item.result (omega arith) c.line-item.is
      (set.contains nat_cmp c.loop-line.seen) c.loop-line.invariant.seen c.loop-line.invariant.so_far
      c.in_ok-insert.field-0 c.in_ok-insert.ensures.added c.if-not-branch.false;
  seen =
      seen_more c.args.lines.now c.loop-line.line-index c.line-item.result (omega arith) c.line-item.is
      (set.contains nat_cmp c.loop-line.seen) c.loop-line.invariant.seen c.loop-line.invariant.so_far
      c.in_ok-insert.field-0 c.in_ok-insert.ensures.added
      (set.contains nat_cmp c.insert.new.self) c.in_ok-insert.ensures.updates.0;
}

pub returns : goal.returns
returns c = twice_none c.args.lines.now c.loop-line.line-index c.loop-line-test.false c.loop-line.invariant.so_far
