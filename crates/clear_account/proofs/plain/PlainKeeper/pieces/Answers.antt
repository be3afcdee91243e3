use Rattle.std.proofs.Common.{◌≤◌, List, length, sym, ap, subst, ◌∙◌}
use Rattle.std.proofs.lemmas.Result.{IfOk-weaker}
use Rattle.clear_account.specs.declared.entries.Charge.{Charge}
use Rattle.clear_account.specs.Account.{Account}
use Rattle.clear_account.specs.Allocation.{right_pieces}
use Rattle.clear_account.proofs.AccountLemmas.{few_charges}
use Rattle.clear_account.proofs.WalkLemmas.{pieces_behind-none}
use Rattle.clear_account.proofs.plain.PlainKeeper.pieces.Goals as goal

pub refill-requires-clause-charges : goal.refill-requires-clause-charges
refill-requires-clause-charges c =
    subst (λ (cs : List Charge). length cs ≤ 2400) (sym c.as_slice.ensures.value) (few_charges c.self.inside.charges.items c.self.inside.credits.items c.self.invariant)

pub returns-clause-right : goal.returns-clause-right
returns-clause-right c =
    IfOk-weaker c.refill.result _ _
    (λ pieces is. is ∙ pieces_behind-none c.as_slice.result.now c.as_slice-2.result.now ∙ (λ i. right_pieces (c.as_slice.ensures.value i) (c.as_slice-2.ensures.value i)) ∙ ap (λ (a : Account). right_pieces a.charges a.credits) c.self.view_is)
    c.refill.ensures.right
