use Rattle.std.proofs.Common.{take}
use Rattle.std.specs.BTreeMap.{get}
use Rattle.std.specs.Ordering.{nat_cmp}
use Rattle.clear_pieces.specs.Keeping.{AreFirst}
use Rattle.clear_pieces.proofs.keep.new_credits.Given as goal

abbrev pub invariant-loop-row : goal.invariant-loop-row
invariant-loop-row l = AreFirst (get nat_cmp l.firms) (take l.row-index l.news)
