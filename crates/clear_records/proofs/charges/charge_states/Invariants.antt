use Rattle.std.proofs.Common.{◌≡◌, map, take}
use Rattle.clear_records.specs.Records.{MonthsRise}
use Rattle.clear_records.specs.Told.{state_told}
use Rattle.clear_records.proofs.charges.charge_states.Given as goal

abbrev pub invariant-loop-charge : goal.invariant-loop-charge
invariant-loop-charge l =
    MonthsRise l.records.reports.items → l.states.items ≡ map (state_told l.records l.fn.day) (take l.charge-index l.charge-items)
