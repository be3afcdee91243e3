use Rattle.std.proofs.Common.{sym, ap, ◌∙◌}
use Rattle.clear_account.specs.Account.{Account}
use Rattle.clear_account.specs.Allocation.{right_pieces}
use Rattle.clear_account.proofs.kept.Kept.new.Goals as goal

pub invariant_of-result : goal.invariant_of-result
unfolding right_pieces
invariant_of-result c = c.new-2.ensures.items ∙ sym (ap (λ (a : Account). right_pieces a.charges a.credits) c.new.ensures)
