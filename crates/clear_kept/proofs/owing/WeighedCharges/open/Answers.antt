use Rattle.std.proofs.Common.{ap, arith}
use Rattle.clear_kept.specs.Owing.{open_in}
use Rattle.clear_kept.proofs.OwingLemmas.{open_below}
use Rattle.clear_kept.proofs.owing.WeighedCharges.open.Goals as goal

pub add_open-requires : goal.add_open-requires
add_open-requires c = omega (arith, open_below c.self.inside.rows.items c.self.invariant, ap open_in c.as_slice.ensures.value)
