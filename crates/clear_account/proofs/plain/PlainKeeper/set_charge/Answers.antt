use Rattle.std.proofs.Common.{arith}
use Rattle.clear_account.specs.Account.{IsCharge}
use Rattle.clear_account.proofs.AccountLemmas.{IsAccount-with_charge}
use Rattle.clear_account.proofs.plain.PlainKeeper.set_charge.Goals as goal

pub invariant_of-self-2 : goal.invariant_of-self-2
invariant_of-self-2 c =
    let one : IsCharge c.args.charge = record { month = (omega arith, omega arith); due = c.requires.due; cents = c.requires.cents } in
    rw c.in_ok-put_charge.ensures.ok (IsAccount-with_charge c.args.charge c.self.inside.charges.items c.self.inside.credits.items one c.self.invariant)
