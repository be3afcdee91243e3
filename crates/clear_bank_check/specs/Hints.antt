-- The hints below a fault of a bank file, and what bytes give one.
use Rattle.std.specs.Prelude.{◌≡◌, ◌↔◌, ℕ, nat_eq, Bool, false, List, [], ◌∷◌, codes, IsUtf8}
use Rattle.std.specs.Prelude.{◌-◌, ◌==◌, nat_lt, ◌&&◌, ◌||◌, not, count_by, drop, length, take}
use Rattle.std.specs.Prelude.{if◌then◌else◌, Option, Some, None}
use Rattle.std.specs.Char.{is_ascii_digit}
use Rattle.std.specs.Cmp.Lexicographic.{pointwise}
use Rattle.std.specs.List.{before_first, concat, list_all, list_any, starts_with}
use Rattle.std.specs.Str.{IsTrimAsciiStart}
use Rattle.csv.specs.Reading.{strip_bom}
use Rattle.clear_bank.specs.declared.fault.BankFault.{BankFault}
use Rattle.clear_bank.specs.declared.fault.BankFault.TheVariants.{BadCsv}
use Rattle.clear_bank.specs.declared.fields.BankField.TheVariants.{Cents, Purpose, ValueDate}
use Rattle.clear_bank.specs.declared.fields.RecordFault.{RecordFault}
use Rattle.clear_bank.specs.declared.fields.RecordFault.TheVariants.{FieldCount, Field}
use Rattle.clear_bank.specs.Files.{Fields}
use Rattle.clear_bank_check.specs.BankFound.{bytes_in, record_of, records_by}
use Rattle.clear_bank_check.specs.declared.hints.Hints.{Hints}
use Rattle.clear_bank_check.specs.declared.hints.Spelling.{Spelling}
use Rattle.clear_bank_check.specs.declared.hints.Spelling.TheVariants.{PointedDay, PartedAmount}

-- a line that stands only where it applies
abbrev pub when : Bool → List ℕ → List ℕ
when applies line = if applies then line else []

-- a line for each hint that applies
unfoldable pub hint_lines : Hints → List ℕ
hint_lines hints = concat (
    when hints.xml
    (codes "this is a bank's statement in XML: tools/bank-file makes a bank file of it\n")
    ∷ when hints.semicolons
    (codes "this looks like a bank's own export: its fields are parted by ;\n")
    ∷ when hints.pointed_day (codes "a day is written YYYY-MM-DD: 2024-04-01 for 01.04.2024\n")
    ∷ when hints.parted_amount (codes "cents are whole numbers: 1500 for 15,00 or 15.00\n")
    ∷ when hints.other_text (codes "this text is Latin-1, UTF-16 or the like; the office reads UTF-8\n")
    ∷ [])

-- it is so just if what stands behind a byte order mark and spaces begins with the first sign of XML
abbrev pub IsXml : List ℕ → Bool → Type 0
IsXml bytes so = (text : List ℕ) × IsTrimAsciiStart (strip_bom bytes) text
    × (so ≡ starts_with nat_eq text (codes "<"))

-- ---- a bank's own export

-- more semicolons stand in a text than commas; these are 59 and 44
abbrev pub has_more_semicolons : List ℕ → Bool
has_more_semicolons text = nat_lt (count_by (λ b. b == 44) text) (count_by (λ b. b == 59) text)

-- the header of a file, which a line feed ends, that is 10
abbrev pub header_in : List ℕ → List ℕ
header_in bytes = before_first (λ b. b == 10) bytes

-- its fields are parted by semicolons: more of them than commas stand in the header, or in all of it
abbrev pub has_semicolons : List ℕ → Bool
has_semicolons bytes = has_more_semicolons (header_in bytes) || has_more_semicolons bytes

-- ---- days and amounts as banks write them

-- a byte fits a sign of a shape: any digit where 0 stands, which is 48, else that sign alone
abbrev pub fits : ℕ → ℕ → Bool
fits sign b = if sign == 48 then is_ascii_digit b else b == sign

-- a text is of a shape, as 15,00 is of 00,00
abbrev pub is_of_shape : List ℕ → List ℕ → Bool
is_of_shape shape text = pointwise fits shape text

-- a day as 01.04.2024 or 01.04.24
abbrev pub is_pointed_day : List ℕ → Bool
is_pointed_day text = is_of_shape (codes "00.00.0000") text || is_of_shape (codes "00.00.00") text

-- a digit, a sign, or what stands between thousands
abbrev pub is_of_amount : ℕ → Bool
is_of_amount b = is_ascii_digit b || list_any (nat_eq b) (codes ".,-+")

-- an amount with two digits behind a comma or a point, as 15,00, -1.500,00 or 15.00
abbrev pub is_parted_amount : List ℕ → Bool
is_parted_amount text =
    let back = drop (length text - 4) text in
    list_all is_of_amount (take (length text - 4) text)
    && (is_of_shape (codes "0,00") back || is_of_shape (codes "0.00") back)

-- a field is such an amount, and no day as 01.04.24
abbrev pub is_amount_field : List ℕ → Bool
is_amount_field field = not (is_pointed_day field) && is_parted_amount field

-- a field is spelled so
abbrev pub is_spelled : Spelling → List ℕ → Bool
is_spelled PointedDay field = is_pointed_day field
is_spelled PartedAmount field = is_amount_field field

-- an amount without quotation marks that its comma cuts into two fields, as 15,00
abbrev pub is_cut_amount : Fields → Bool
is_cut_amount fields =
    (length fields == 7) && list_all is_ascii_digit (bytes_in fields Cents)
    && is_of_shape (codes "00") (bytes_in fields Purpose)

-- ---- where they are looked for

-- there is such a record, and it passes
abbrev pub passes : (Fields → Bool) → Option Fields → Bool
passes test None = false
passes test (Some fields) = test fields

-- some field of some record passes
abbrev pub in_some_field : (List ℕ → Bool) → List Fields → Bool
in_some_field test records = list_any (list_any test) records

-- the field in which a record is wrong is spelled so; an amount may also be cut in two
abbrev pub is_wrong : Spelling → RecordFault → Fields → Bool
is_wrong PointedDay (Field ValueDate) fields = is_pointed_day (bytes_in fields ValueDate)
is_wrong PartedAmount FieldCount fields = is_cut_amount fields
is_wrong PartedAmount (Field Cents) fields = is_parted_amount (bytes_in fields Cents)
is_wrong spelling fault fields = false

-- the record at a fault passes
abbrev pub at_fault : (RecordFault → Fields → Bool) → List Fields → BankFault → Bool
at_fault test records (BadCsv line fault) = passes (test fault) (record_of line records)
at_fault test records fault = false

module _ (bytes : List ℕ) (records : List Fields) (fault : BankFault) where
  -- a spelling is told of an export if any field has it, else only of the field at the fault
  abbrev pub tells : Spelling → Bool → Bool
  tells spelling by_semicolons = if by_semicolons
      then in_some_field (is_spelled spelling) (records_by 59 bytes)
      else at_fault (is_wrong spelling) records fault

  -- each hint on a file with these records and this fault is given just where it is so
  pub record AreHints (hints : Hints) : Type 0 where
    pub in_xml : IsXml bytes hints.xml
    pub in_utf8 : (hints.other_text ≡ false) ↔ IsUtf8 bytes
    pub parted : hints.semicolons ≡ (not hints.xml && has_semicolons bytes)
    pub days : hints.pointed_day ≡ tells PointedDay hints.semicolons
    pub amounts : hints.parted_amount ≡ tells PartedAmount hints.semicolons
