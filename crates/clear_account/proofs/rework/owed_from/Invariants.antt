use Rattle.std.proofs.Common.{◌≡◌, ◌∷◌, nat_lt, take}
use Rattle.std.specs.List.{filter}
use Rattle.clear_account.proofs.rework.owed_from.Given as goal

abbrev pub invariant-loop-other : goal.invariant-loop-other
invariant-loop-other l = l.owed.items ≡ l.charge ∷ filter (λ d. nat_lt l.charge.month d.month) (take l.other-index l.charges)
