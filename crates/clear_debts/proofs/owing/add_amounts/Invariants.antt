use Rattle.std.proofs.Common.{◌≡◌, ◌≤◌, ◌*◌, take}
use Rattle.std.specs.List.{sum}
use Rattle.clear_debts.proofs.owing.add_amounts.Given as goal

abbrev pub invariant-loop-amount : goal.invariant-loop-amount
invariant-loop-amount l = (l.sum ≡ sum (take l.amount-index l.amounts)) × (l.sum ≤ l.amount-index * 100000000000)
