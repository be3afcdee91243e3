use Rattle.std.proofs.Common.{◌≤◌, List, sym, subst}
use Rattle.std.specs.List.{All}
use Rattle.clear_account.specs.declared.entries.Credit.{Credit}
use Rattle.clear_account.specs.Account.{Account, last_day}
use Rattle.clear_account.proofs.AccountLemmas.{up_to_last_day}
use Rattle.clear_account.proofs.plain.PlainKeeper.weight_of.Goals as goal

pub weigh-requires-clause-day : goal.weigh-requires-clause-day
weigh-requires-clause-day c =
    subst (λ (ks : List Credit). All (λ k. k.day ≤ c.args.day) ks) (sym c.as_slice-3.ensures.value)
    (up_to_last_day c.self.inside.credits.items c.args.day c.self.invariant.credits_rise (subst (λ (a : Account). last_day a.credits ≤ c.args.day) (sym c.self.view_is) c.requires))
