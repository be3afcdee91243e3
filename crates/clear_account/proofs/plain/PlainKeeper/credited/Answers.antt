use Rattle.std.proofs.Common.{arith}
use Rattle.clear_account.proofs.AccountLemmas.{credited-le}
use Rattle.clear_account.proofs.plain.PlainKeeper.credited.Goals as goal

pub add_credits-requires : goal.add_credits-requires
add_credits-requires c = rw c.as_slice.ensures.value (omega (arith, credited-le c.self.inside.charges.items c.self.inside.credits.items c.self.invariant))
