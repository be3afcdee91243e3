use Rattle.std.specs.BTreeMap.{get}
use Rattle.std.specs.Ordering.{nat_cmp}
use Rattle.clear_pieces.proofs.FirstLemmas.{first_of_next}
use Rattle.clear_pieces.proofs.keep.new_credits.Goals as goal

pub loop-row-preserved : goal.loop-row-preserved
loop-row-preserved c =
    first_of_next (get nat_cmp c.loop-row.firms) (get nat_cmp c.enter.new.firms) c.args.news.now c.loop-row.row-index c.row-item.result c.loop-row-test.true c.row-item.is
    c.loop-row.invariant c.in_ok-enter.ensures
