use Rattle.std.proofs.Common.{sym, subst, arith}
use Rattle.clear_account.specs.Account.{Account, HoldsSerial}
use Rattle.clear_account.proofs.AccountLemmas.{IsAccount-with_credit}
use Rattle.clear_account.proofs.plain.PlainKeeper.add_credit.Goals as goal

pub invariant_of-self-2 : goal.invariant_of-self-2
invariant_of-self-2 c =
    rw c.in_ok-put_credit.ensures.ok (IsAccount-with_credit c.args.credit c.self.inside.charges.items c.self.inside.credits.items (omega arith, omega arith) (subst (λ (a : Account). ¬ HoldsSerial a.credits c.args.credit.serial) (sym c.self.view_is) c.requires) (omega arith) c.self.invariant)
