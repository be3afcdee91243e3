use Rattle.std.proofs.Common.{sym, ap, ◌∙◌, arith}
use Rattle.clear_account.specs.declared.entries.Credit.{Credit}
use Rattle.clear_account.specs.Account.{comes_before, credited}
use Rattle.clear_account.proofs.AccountLemmas.{charged-le, credited-le}
use Rattle.clear_account.proofs.PlaceLemmas.{filter_front}
use Rattle.clear_kept.proofs.start.start_of_credits.Goals as goal

pub credits_before-before-requires-clause-small : goal.credits_before-before-requires-clause-small
credits_before-before-requires-clause-small c = omega (arith, credited-le c.args.charges.now c.args.credits.now c.requires)

pub charges_ended-owed-requires : goal.charges_ended-owed-requires
charges_ended-owed-requires c = omega (arith, charged-le c.args.charges.now c.args.credits.now c.requires)

pub credits_ended-requires : goal.credits_ended-requires
credits_ended-requires c = omega (arith, credited-le c.args.charges.now c.args.credits.now c.requires)

pub returns-clause-place : goal.returns-clause-place
returns-clause-place c =
    c.credits_before-before.ensures.cents
    ∙ ap credited (sym (filter_front (λ (l : Credit). comes_before l c.args.first.now) c.credits_before-before.result.count c.args.credits.now c.credits_before-before.ensures.before c.credits_before-before.ensures.from))
