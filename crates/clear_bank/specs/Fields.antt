-- The fields of a record of a bank file, and what may be wrong with a record.
use Rattle.std.specs.Prelude.{ℕ, List, [], ◌∷◌, codes}
use Rattle.clear_bank.specs.declared.fields.BankField.{BankField}
use Rattle.clear_bank.specs.declared.fields.BankField.TheVariants.{Reference, ValueDate, Employer}
use Rattle.clear_bank.specs.declared.fields.BankField.TheVariants.{Cents, Purpose, Note}
use Rattle.clear_bank.specs.declared.fields.RecordFault.{RecordFault}
use Rattle.clear_bank.specs.declared.fields.RecordFault.TheVariants.{FieldCount, Field}

-- the fields of a record, in their order
abbrev pub all_fields : List BankField
all_fields = Reference ∷ ValueDate ∷ Employer ∷ Cents ∷ Purpose ∷ Note ∷ []

-- the place of a field in a record, from 1
abbrev pub field_number : BankField → ℕ
field_number Reference = 1
field_number ValueDate = 2
field_number Employer = 3
field_number Cents = 4
field_number Purpose = 5
field_number Note = 6

-- its name in the header
abbrev pub field_name : BankField → List ℕ
field_name Reference = codes "reference"
field_name ValueDate = codes "value_date"
field_name Employer = codes "employer"
field_name Cents = codes "cents"
field_name Purpose = codes "purpose"
field_name Note = codes "note"

-- the number under which a record's fault is told: that of its first bad field, and 0 where it has
-- another number of fields
abbrev pub fault_number : RecordFault → ℕ
fault_number FieldCount = 0
fault_number (Field field) = field_number field
