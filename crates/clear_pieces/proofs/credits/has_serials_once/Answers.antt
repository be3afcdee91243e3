use Rattle.std.specs.BTreeSet as set
use Rattle.std.specs.Ordering.{nat_cmp}
use Rattle.clear_pieces.proofs.SerialLemmas.{serial_twice, serial_new, serials_seen}
use Rattle.clear_pieces.proofs.credits.has_serials_once.Goals as goal

pub returns-then-not-branch : goal.returns-then-not-branch
returns-then-not-branch c = (
  λ no. absurd (cc),
  λ once. absurd (serial_twice c.args.rows.now c.loop-row.row-index c.row-item.result c.loop-row-test.true c.row-item.is
      (set.contains nat_cmp c.loop-row.seen) c.loop-row.invariant.seen c.in_ok-insert.field-0 c.in_ok-insert.ensures.added c.if-not-branch.true once),
)

pub loop-row-preserved : goal.loop-row-preserved
loop-row-preserved c = record {
  once =
      serial_new c.args.rows.now c.loop-row.row-index c.row-item.result c.loop-row-test.true c.row-item.is
      (set.contains nat_cmp c.loop-row.seen) c.loop-row.invariant.seen c.in_ok-insert.field-0 c.in_ok-insert.ensures.added c.if-not-branch.false
      c.loop-row.invariant.once;
  seen =
      serials_seen c.args.rows.now c.loop-row.row-index c.row-item.result c.loop-row-test.true c.row-item.is
      (set.contains nat_cmp c.loop-row.seen) c.loop-row.invariant.seen c.in_ok-insert.field-0 c.in_ok-insert.ensures.added
      (set.contains nat_cmp c.insert.new.self) c.in_ok-insert.ensures.updates.0;
}
