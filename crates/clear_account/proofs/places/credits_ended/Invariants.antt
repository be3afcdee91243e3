use Rattle.std.proofs.Common.{◌≡◌, ◌≤◌, take}
use Rattle.std.specs.List.{sum_by}
use Rattle.clear_account.specs.declared.entries.Credit.{Credit}
use Rattle.clear_account.proofs.places.credits_ended.Given as goal

abbrev pub invariant-loop-credit : goal.invariant-loop-credit
invariant-loop-credit l = record {
  count : l.front.count ≡ l.credit-index;
  cents : l.front.cents ≡ sum_by (λ (x : Credit). x.cents) (take l.credit-index l.credits);
  low : l.front.cents ≤ l.place;
}
