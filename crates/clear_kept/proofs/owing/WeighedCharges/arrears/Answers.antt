use Rattle.std.proofs.Common.{ap, arith}
use Rattle.clear_kept.specs.Owing.{open_in}
use Rattle.clear_kept.proofs.OwingLemmas.{open_below}
use Rattle.clear_kept.proofs.owing.WeighedCharges.arrears.Goals as goal

pub add_due-requires : goal.add_due-requires
add_due-requires c = omega (arith, open_below c.self.inside.rows.items c.self.invariant, ap open_in c.as_slice.ensures.value)
