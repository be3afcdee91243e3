use Rattle.std.proofs.Common.{arith}
use Rattle.clear_account.proofs.AccountLemmas.{few_charges}
use Rattle.clear_account.proofs.plain.PlainKeeper.charge_count.Goals as goal

pub returns-clause-range : goal.returns-clause-range
returns-clause-range c = omega (arith, few_charges c.self.inside.charges.items c.self.inside.credits.items c.self.invariant)
