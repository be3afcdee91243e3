use Rattle.std.proofs.Common.{◌≡◌, true, false, List, take, drop, subst, ◌∙◌}
use Rattle.std.specs.List.{All}
use Rattle.clear_account.specs.Account.{comes_before}
use Rattle.clear_account.specs.declared.entries.Credit.{Credit}
use Rattle.clear_account.proofs.AccountLemmas.{with_credit_new}
use Rattle.clear_account.proofs.lists.put_credit.Goals as goal

pub returns-clause-ok : goal.returns-clause-ok
returns-clause-ok c =
    c.in_ok-insert.ensures.items
    ∙ with_credit_new c.args.credit c.credits_before-place.result c.args.credits.now.items
    (subst (λ (ks : List Credit). All (λ k. comes_before k c.args.credit ≡ true) (take c.credits_before-place.result ks)) c.as_slice.ensures.value c.credits_before-place.ensures.before)
    (subst (λ (ks : List Credit). All (λ k. comes_before k c.args.credit ≡ false) (drop c.credits_before-place.result ks)) c.as_slice.ensures.value c.credits_before-place.ensures.from)
    c.requires.fresh
