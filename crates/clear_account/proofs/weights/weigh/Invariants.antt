use Rattle.std.proofs.Common.{◌≡◌, ◌+◌, drop}
use Rattle.clear_account.specs.Account.{credited_up_to}
use Rattle.clear_account.proofs.OpenLemmas.{late_from}
use Rattle.clear_account.proofs.weights.weigh.Given as goal

abbrev pub invariant-loop-credit : goal.invariant-loop-credit
invariant-loop-credit l = record {
  begun : l.credit_start ≡ credited_up_to l.credits l.credit-index;
  weighed : l.weight + late_from l.start l.end l.charge.due l.credit_start (drop l.credit-index l.credits) ≡ late_from l.start l.end l.charge.due 0 l.credits;
}
