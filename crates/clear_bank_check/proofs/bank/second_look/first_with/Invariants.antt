use Rattle.std.proofs.Common.{◌≡◌, ◌+◌, drop, map}
use Rattle.std.specs.List.{position_from}
use Rattle.std.specs.Str.{bytes_eq}
use Rattle.csv.specs.Records.{fields_of}
use Rattle.clear_bank.specs.declared.fields.BankField.TheVariants.{Reference}
use Rattle.clear_bank_check.specs.BankFound.{bytes_in, first_with}
use Rattle.clear_bank_check.proofs.bank.second_look.first_with.Given as goal

abbrev pub invariant-loop-place : goal.invariant-loop-place
invariant-loop-place l =
    first_with l.reference (map fields_of l.rows)
    ≡ position_from (λ fields. bytes_eq (bytes_in fields Reference) l.reference) (l.place + 2) (map fields_of (drop l.place l.rows))
