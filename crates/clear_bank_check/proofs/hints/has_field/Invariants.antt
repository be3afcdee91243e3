use Rattle.std.proofs.Common.{◌≡◌, drop}
use Rattle.std.specs.List.{list_any}
use Rattle.csv.specs.Records.{fields_of}
use Rattle.clear_bank_check.specs.Hints.{is_spelled}
use Rattle.clear_bank_check.proofs.hints.has_field.Given as goal

abbrev pub invariant-loop-field : goal.invariant-loop-field
invariant-loop-field l =
    (goal.iterator-loop-field).can_next l.field-iterator × (goal.iterator-loop-field).is_finite l.field-iterator
    × (l.field-iterator.row.now ≡ l.row)
    × (list_any (is_spelled l.spelling) (fields_of l.row) ≡ list_any (is_spelled l.spelling) (drop l.field-iterator.at (fields_of l.row)))
