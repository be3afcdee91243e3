use Rattle.std.proofs.Common.{length, sym, ap, ◌∙◌, arith}
use Rattle.std.proofs.lemmas.List.{length-take}
use Rattle.clear_account.specs.Account.{charged}
use Rattle.clear_account.proofs.AccountLemmas.{charged-le, credited-le}
use Rattle.clear_kept.proofs.PutLemmas.{front_charges}
use Rattle.clear_kept.proofs.start.start_of_charge.Goals as goal

pub charges_before-rows-requires-clause-small : goal.charges_before-rows-requires-clause-small
charges_before-rows-requires-clause-small c = omega (arith, charged-le c.args.charges.now c.args.credits.now c.requires)

pub charges_ended-requires : goal.charges_ended-requires
charges_ended-requires c = omega (arith, charged-le c.args.charges.now c.args.credits.now c.requires)

pub credits_ended-requires : goal.credits_ended-requires
credits_ended-requires c = omega (arith, credited-le c.args.charges.now c.args.credits.now c.requires)

pub returns-clause-place : goal.returns-clause-place
returns-clause-place c =
    c.charges_before-rows.ensures.cents
    ∙ ap charged (sym (front_charges c.args.month c.charges_before-rows.result.count c.args.charges.now c.charges_before-rows.ensures.before c.charges_before-rows.ensures.from))

pub returns-clause-rows : goal.returns-clause-rows
returns-clause-rows c =
    omega (arith, ap length (front_charges c.args.month c.charges_before-rows.result.count c.args.charges.now c.charges_before-rows.ensures.before c.charges_before-rows.ensures.from), length-take c.charges_before-rows.result.count c.args.charges.now, c.charges_before-rows.ensures.within)
