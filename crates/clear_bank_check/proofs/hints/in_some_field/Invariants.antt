use Rattle.std.proofs.Common.{◌≡◌, drop, map}
use Rattle.csv.specs.Records.{fields_of}
use Rattle.clear_bank_check.specs.Hints.{in_some_field, is_spelled}
use Rattle.clear_bank_check.proofs.hints.in_some_field.Given as goal

abbrev pub invariant-loop-record : goal.invariant-loop-record
invariant-loop-record l =
    in_some_field (is_spelled l.spelling) (map fields_of l.records)
    ≡ in_some_field (is_spelled l.spelling) (map fields_of (drop l.record-index l.records))
