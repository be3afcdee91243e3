use Rattle.std.proofs.Common.{ap, arith}
use Rattle.clear_kept.specs.Owing.{charged_in}
use Rattle.clear_kept.proofs.OwingLemmas.{charged_below}
use Rattle.clear_kept.proofs.owing.WeighedCharges.charged.Goals as goal

pub add_charges-requires : goal.add_charges-requires
add_charges-requires c = omega (arith, charged_below c.self.inside.rows.items c.self.invariant, ap charged_in c.as_slice.ensures.value)
