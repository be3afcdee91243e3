use Rattle.std.proofs.Common.{◌≡◌, ◌-◌, ◌≤◌, filter}
use Rattle.std.specs.List.{range_with_len}
use Rattle.clear_records.specs.Records.{ChargesRise}
use Rattle.clear_records.specs.Told.{is_missing_in}
use Rattle.clear_records.proofs.missing.missing_months.Given as goal

abbrev pub invariant-loop-number : goal.invariant-loop-number
invariant-loop-number l = record {
  within : l.number ≤ 26400;
  so_far : ChargesRise l.charges → l.missing.items ≡ filter (is_missing_in l.member l.rates l.charges l.day) (range_with_len l.first (l.number - l.first));
}
