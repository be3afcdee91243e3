use Rattle.std.proofs.Common.{arith}
use Rattle.clear_account.proofs.AccountLemmas.{charged-le}
use Rattle.clear_account.proofs.plain.PlainKeeper.charged.Goals as goal

pub add_charges-requires : goal.add_charges-requires
add_charges-requires c = rw c.as_slice.ensures.value (omega (arith, charged-le c.self.inside.charges.items c.self.inside.credits.items c.self.invariant))
