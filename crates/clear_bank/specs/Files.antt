-- What the bytes of a bank file say.
use Rattle.std.specs.Prelude.{ℕ, ◌+◌, ◌-◌, Bool, false, not, ◌==◌, ◌||◌, nat_lt, if◌then◌else◌}
use Rattle.std.specs.Prelude.{List, [], ◌∷◌, length, codes, map, Option, Some, None, option_map}
use Rattle.std.specs.Prelude.{Result, Ok, Err}
use Rattle.std.specs.Fmt.{decimal}
use Rattle.std.specs.List.{find, filter_map, enumerate_from, range_with_len, zip}
use Rattle.std.specs.Result.{result_ok, result_err}
use Rattle.std.specs.Str.{bytes_eq}
use Rattle.csv.specs.Reading.{records, default_config, strip_bom}
use Rattle.clear_money.specs.Calendar.{first_day, latest_day}
use Rattle.clear_money.specs.Numbers.{most_amount, most_employer_no}
use Rattle.clear_money.specs.Results.{◌>>=◌, or_fault}
use Rattle.clear_money.specs.Texts.{day_text}
use Rattle.clear_bank.specs.declared.fault.BankFault.{BankFault}
use Rattle.clear_bank.specs.declared.fault.BankFault.TheVariants.{OverLimit, BadCsv}
use Rattle.clear_bank.specs.declared.fields.BankField.{BankField}
use Rattle.clear_bank.specs.declared.fields.BankField.TheVariants as field
use Rattle.clear_bank.specs.declared.fields.RecordFault.{RecordFault}
use Rattle.clear_bank.specs.declared.fields.RecordFault.TheVariants.{FieldCount, Field}
use Rattle.clear_bank.specs.Fields.{all_fields, field_name}
use Rattle.clear_values.specs.declared.lines.BankLine.{BankLine}
use Rattle.clear_values.specs.declared.lines.Purpose.{Purpose}
use Rattle.clear_values.specs.declared.lines.Purpose.TheVariants.{Contribution, Interest}
use Rattle.clear_values.specs.Texts.{is_reference, is_note}

-- ---- what a field says

-- the numbers from a to b
unfoldable pub numbers : ℕ → ℕ → List ℕ
numbers a b = range_with_len a (b + 1 - a)

-- the value from a to b that is written so
abbrev pub written : (ℕ → List ℕ) → ℕ → ℕ → List ℕ → Option ℕ
written text a b field = find (λ n. bytes_eq (text n) field) (numbers a b)

-- a reference
abbrev pub reference_in : List ℕ → Option (List ℕ)
reference_in field = if is_reference field then Some field else None

-- a day from 2000-01-01 to 2200-12-31
abbrev pub value_in : List ℕ → Option ℕ
value_in field = written day_text first_day latest_day field

-- the number of a firm; an empty field names none
abbrev pub employer_in : List ℕ → Option (Option ℕ)
employer_in [] = Some None
employer_in (b ∷ bs) = option_map Some (written decimal 1 most_employer_no (b ∷ bs))

-- an amount in cents
abbrev pub cents_in : List ℕ → Option ℕ
cents_in field = written decimal 1 most_amount field

-- what a payment is for: C is a contribution and I is interest; an empty field means a
-- contribution
abbrev pub purpose_in : List ℕ → Option Purpose
purpose_in field =
    if bytes_eq field [] || bytes_eq field (codes "C") then Some Contribution
    else if bytes_eq field (codes "I") then Some Interest
    else None

-- a note
abbrev pub note_in : List ℕ → Option (List ℕ)
note_in field = if is_note field then Some field else None

-- ---- what a record says

-- a record: the bytes of each of its fields
abbrev pub Fields : Type 0
Fields = List (List ℕ)

-- the value of a field in the record of a number, or the fault that it is none
abbrev pub or_bad : {A : Type 0} → ℕ → BankField → Option A → Result A BankFault
or_bad number bad value = or_fault (BadCsv number (Field bad)) value

-- the line that the record of a number says, or its first bad field; a record of another number of
-- fields says none
abbrev pub line_of : ℕ → Fields → Result BankLine BankFault
line_of n (a ∷ b ∷ c ∷ d ∷ e ∷ f ∷ []) = do
  reference ← or_bad n field.Reference (reference_in a)
  value ← or_bad n field.ValueDate (value_in b)
  employer ← or_bad n field.Employer (employer_in c)
  cents ← or_bad n field.Cents (cents_in d)
  purpose ← or_bad n field.Purpose (purpose_in e)
  note ← or_bad n field.Note (note_in f)
  Ok (record {
    reference = reference;
    value = value;
    employer = employer;
    cents = cents;
    purpose = purpose;
    note = note;
  })
line_of n _ = Err (BadCsv n FieldCount)

-- what stands in the header, and the field whose name it ought to be
abbrev pub Named : Type 0
Named = List ℕ × BankField

-- it is not that name
abbrev pub is_misnamed : Named → Bool
is_misnamed named = not (bytes_eq named.0 (field_name named.1))

-- the first field under another name
abbrev pub first_misnamed : List Named → Option RecordFault
first_misnamed names = option_map (λ named. Field named.1) (find is_misnamed names)

-- what is wrong with a header: its number of fields, or the first that is not under its name
abbrev pub header_fault : Fields → Option RecordFault
header_fault fields =
    if length fields == 6 then first_misnamed (zip fields all_fields) else Some FieldCount

-- ---- what a file says

-- what the data records say, which are numbered from 2
abbrev pub rows_read : List Fields → List (Result BankLine BankFault)
rows_read rows = map (λ p. line_of p.0 p.1) (enumerate_from 2 rows)

-- the lines, or the first fault if there is one
abbrev pub unless_faulty : List BankFault → List BankLine → Result (List BankLine) BankFault
unless_faulty [] lines = Ok lines
unless_faulty (fault ∷ faults) lines = Err fault

-- all lines, unless a record is faulty
abbrev pub all_lines : List (Result BankLine BankFault) → Result (List BankLine) BankFault
all_lines results = unless_faulty (filter_map result_err results) (filter_map result_ok results)

-- a fault of the header comes before those of the data records
abbrev pub after_header : Option RecordFault
    → Result (List BankLine) BankFault → Result (List BankLine) BankFault
after_header None lines = lines
after_header (Some fault) lines = Err (BadCsv 1 fault)

-- the lines of a file's records, of which the first is the header, or the first fault; a file that
-- begins with r has a header
abbrev pub record_lines : List Fields → Result (List BankLine) BankFault
record_lines [] = Err (BadCsv 1 (Field field.Reference))
record_lines (header ∷ rows) = after_header (header_fault header) (all_lines (rows_read rows))

-- whether more than `limit` records stand behind the header
abbrev pub is_over : ℕ → List Fields → Bool
is_over limit rows = nat_lt limit (length rows - 1)

-- whether the letter r, which is 114, stands first
abbrev pub begins_with_r : List ℕ → Bool
begins_with_r [] = false
begins_with_r (b ∷ bs) = b == 114

-- the records of a text as the grammar of `csv` reads them: commas, quotes as by default, blank
-- lines passed over
abbrev pub records_of : List ℕ → List Fields
records_of text = records default_config text

-- the lines of a file of at most `limit` data records, or its first fault; one byte order mark at
-- the beginning is dropped
abbrev pub file_lines : ℕ → List ℕ → Result (List BankLine) BankFault
file_lines limit file =
    if not (begins_with_r (strip_bom file)) then Err (BadCsv 1 (Field field.Reference))
    else if is_over limit (records_of (strip_bom file)) then Err OverLimit
    else record_lines (records_of (strip_bom file))

-- the records of a text, if they are within the limit
abbrev pub limited_records : ℕ → List ℕ → Result (List Fields) BankFault
limited_records limit text =
    if is_over limit (records_of text) then Err OverLimit else Ok (records_of text)
