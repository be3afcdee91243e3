use Rattle.std.proofs.Common.{◌≡◌, ◌∷◌, take}
use Rattle.std.specs.List.{filter}
use Rattle.clear_account.specs.Account.{comes_before}
use Rattle.clear_account.proofs.rework.paid_from.Given as goal

abbrev pub invariant-loop-other : goal.invariant-loop-other
invariant-loop-other l = l.paid.items ≡ l.credit ∷ filter (λ k. comes_before l.credit k) (take l.other-index l.credits)
