use Rattle.std.proofs.Common.{◌<◌, List, length, sym, ap, subst, ◌∙◌, arith}
use Rattle.clear_account.specs.declared.entries.Charge.{Charge}
use Rattle.clear_account.specs.declared.entries.Credit.{Credit}
use Rattle.clear_account.specs.Account.{HoldsSerial, IsAccount}
use Rattle.clear_account.proofs.AccountLemmas.{IsAccount-with_credit}
use Rattle.clear_account.specs.Kept.{KeptAccount}
use Rattle.clear_account.proofs.kept.KeptKeeper.add_credit.Goals as goal

pub rework_credit-requires-clause-after : goal.rework_credit-requires-clause-after
rework_credit-requires-clause-after c =
    let fresh : ¬ HoldsSerial c.all_credits-2.result.now c.args.credit.serial =
    subst (λ (ks : List Credit). ¬ HoldsSerial ks c.args.credit.serial) (sym c.all_credits-2.ensures) (subst (λ (a : KeptAccount). ¬ HoldsSerial a.credits c.args.credit.serial) (sym c.self.view_is) c.requires) in
    let room : length c.all_credits-2.result.now < 100000 = omega (arith, ap (λ (ks : List Credit). length ks) (c.all_credits-2.ensures ∙ sym c.all_credits.ensures), c.if-all_credits-ge-MAX_CREDITS.false) in
    IsAccount-with_credit c.args.credit c.all_charges.result.now c.all_credits-2.result.now (omega arith, omega arith) fresh room
    (subst (λ (cs : List Charge). IsAccount cs c.all_credits-2.result.now) (sym c.all_charges.ensures.value) (subst (λ (ks : List Credit). IsAccount c.self.inside.account.charges ks) (sym c.all_credits-2.ensures) c.all_charges.ensures.account))

pub add_credit-requires : goal.add_credit-requires
add_credit-requires c = subst (λ (a : KeptAccount). ¬ HoldsSerial a.credits c.args.credit.serial) (sym c.self.view_is) c.requires
