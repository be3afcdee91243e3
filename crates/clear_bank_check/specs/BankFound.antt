-- What a second look at a bank file finds at its fault.
use Rattle.std.specs.Prelude.{ℕ, zero, suc, ◌+◌, ◌-◌, ◌==◌, List, [], ◌∷◌, drop, length, take}
use Rattle.std.specs.Prelude.{codes, if◌then◌else◌, Option, Some, None, option_map, IfSome, slice_get}
use Rattle.std.specs.Fmt.{decimal}
use Rattle.std.specs.List.{concat, position_from}
use Rattle.std.specs.Option.{unwrap_or}
use Rattle.std.specs.Str.{bytes_eq}
use Rattle.csv.specs.Reading.{default_config, records, strip_bom}
use Rattle.csv.specs.Records.{field_at}
use Rattle.clear_bank.specs.declared.fault.BankFault.{BankFault}
use Rattle.clear_bank.specs.declared.fault.BankFault.TheVariants.{OverLimit, BadCsv, RefConflict}
use Rattle.clear_bank.specs.declared.fault.BankFault.TheVariants.{Memory}
use Rattle.clear_bank.specs.declared.fields.BankField.{BankField}
use Rattle.clear_bank.specs.declared.fields.BankField.TheVariants.{Reference}
use Rattle.clear_bank.specs.declared.fields.RecordFault.{RecordFault}
use Rattle.clear_bank.specs.declared.fields.RecordFault.TheVariants.{FieldCount, Field}
use Rattle.clear_bank.specs.Fields.{field_name, field_number}
use Rattle.clear_bank.specs.Files.{Fields}
use Rattle.clear_values.specs.Limits.{most_records}
use Rattle.clear_money.specs.Options.{◌>>=◌}
use Rattle.clear_check.specs.Shown.{Found, IsShown, alone, plural, shown}

-- the records of a file whose fields this byte parts, without a byte order mark: the header and as many
-- behind it as a file can have
abbrev pub records_by : ℕ → List ℕ → List Fields
records_by delimiter bytes = take (most_records + 1)
    (records (record default_config { delimiter = delimiter }) (strip_bom bytes))

-- the record of a number, counted from 1, the header being the first
abbrev pub record_of : ℕ → List Fields → Option Fields
record_of zero records = None
record_of (suc n) records = slice_get records n

-- what stands in a field of a record; nothing where the record is too short
abbrev pub bytes_in : Fields → BankField → List ℕ
bytes_in fields field = unwrap_or (field_at fields (field_number field - 1)) []

-- so many fields
abbrev pub fields_text : ℕ → List ℕ
fields_text n = concat (decimal n ∷ codes " field" ∷ plural n ∷ [])

-- what is found at a fault of a record: how many fields it has, or what stands in the one at fault
abbrev pub record_found : Fields → RecordFault → List ℕ
record_found fields FieldCount = fields_text (length fields)
record_found fields (Field field) = shown (bytes_in fields field)

-- what is found in place of the name of a field
abbrev pub name_found : Fields → BankField → List ℕ
name_found header field = if bytes_eq (bytes_in header field) (field_name field)
    then codes "it has to stand first, without a quotation mark"
    else concat (codes "its field " ∷ decimal (field_number field) ∷ codes " is "
    ∷ shown (bytes_in header field) ∷ [])

-- what is found at a fault of a header
abbrev pub header_found : Option Fields → RecordFault → List ℕ
header_found None fault = codes "the file is empty"
header_found (Some header) FieldCount = concat (codes "it has " ∷ fields_text (length header) ∷ [])
header_found (Some header) (Field field) = name_found header field

-- what is found at a fault of a record of a number
abbrev pub bad_found : ℕ → RecordFault → List Fields → Option (List ℕ)
bad_found line fault records = if line == 1
    then Some (header_found (slice_get records 0) fault)
    else option_map (λ fields. record_found fields fault) (record_of line records)

-- the number of the first of these records that has a reference; they stand behind the header
abbrev pub first_with : List ℕ → List Fields → Option ℕ
first_with reference rows =
    position_from (λ fields. bytes_eq (bytes_in fields Reference) reference) 2 rows

-- what is found at a conflict: the reference, and the number of the record that it stands in already
abbrev pub conflict_found : ℕ → List Fields → Option Found
conflict_found line records = do
  fields ← record_of line records
  first ← first_with (bytes_in fields Reference) (drop 1 records)
  Some (record { here = shown (bytes_in fields Reference); other = decimal first })

-- what is found at a fault, given the records of a file
abbrev pub fault_found : List Fields → BankFault → Option Found
fault_found records OverLimit = None
fault_found records (BadCsv line fault) = option_map alone (bad_found line fault records)
fault_found records (RefConflict line) = conflict_found line records
fault_found records Memory = None

-- this was found at a fault, as it is shown
abbrev pub IsFoundIn : List Fields → BankFault → Found → Type 0
IsFoundIn records fault found = IfSome (fault_found records fault) (λ told. IsShown told found)
