use Rattle.std.proofs.Common.{◌≡◌, ◌≤◌, take}
use Rattle.std.specs.List.{sum_by}
use Rattle.clear_account.specs.declared.entries.Charge.{Charge}
use Rattle.clear_account.proofs.places.charges_ended.Given as goal

abbrev pub invariant-loop-charge : goal.invariant-loop-charge
invariant-loop-charge l = record {
  count : l.front.count ≡ l.charge-index;
  cents : l.front.cents ≡ sum_by (λ (x : Charge). x.cents) (take l.charge-index l.charges);
  low : l.front.cents ≤ l.place;
}
