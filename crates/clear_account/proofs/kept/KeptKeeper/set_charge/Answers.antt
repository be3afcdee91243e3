use Rattle.std.proofs.Common.{List, sym, subst, arith}
use Rattle.clear_account.specs.declared.entries.Charge.{Charge}
use Rattle.clear_account.specs.declared.entries.Credit.{Credit}
use Rattle.clear_account.specs.Account.{IsAccount, IsCharge}
use Rattle.clear_account.proofs.AccountLemmas.{IsAccount-with_charge}
use Rattle.clear_account.proofs.kept.KeptKeeper.set_charge.Goals as goal

pub rework_charge-requires-clause-after : goal.rework_charge-requires-clause-after
rework_charge-requires-clause-after c =
    let one : IsCharge c.args.charge = record { month = (omega arith, omega arith); due = c.requires.due; cents = c.requires.cents } in
    IsAccount-with_charge c.args.charge c.all_charges.result.now c.all_credits.result.now one
    (subst (λ (cs : List Charge). IsAccount cs c.all_credits.result.now) (sym c.all_charges.ensures.value) (subst (λ (ks : List Credit). IsAccount c.self.inside.account.charges ks) (sym c.all_credits.ensures) c.all_charges.ensures.account))
