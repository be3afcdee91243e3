-- What is said of a bank file.
use Rattle.std.specs.Prelude.{◌≡◌, ⊤, ℕ, ◌==◌, Bool, is_none, List, [], ◌∷◌, ◌++◌, length, count_by, sum_by}
use Rattle.std.specs.Prelude.{codes, if◌then◌else◌, Result, Ok, Err, slice_get}
use Rattle.std.specs.Fmt.{decimal}
use Rattle.std.specs.List.{concat, filter_map}
use Rattle.clear_money.specs.Results.{◌>>=◌}
use Rattle.clear_values.specs.declared.lines.BankLine.{BankLine}
use Rattle.clear_bank.specs.declared.fields.BankField.{BankField}
use Rattle.clear_bank.specs.declared.fields.BankField.TheVariants as field
use Rattle.clear_bank.specs.declared.fields.RecordFault.{RecordFault}
use Rattle.clear_bank.specs.declared.fields.RecordFault.TheVariants.{FieldCount, Field}
use Rattle.clear_bank.specs.Fields.{field_name}
use Rattle.clear_bank.specs.Files.{file_lines}
use Rattle.clear_bank.specs.Newness.{judgement}
use Rattle.clear_bank.specs.declared.fault.BankFault.{BankFault}
use Rattle.clear_bank.specs.declared.fault.BankFault.TheVariants.{OverLimit, BadCsv, RefConflict}
use Rattle.clear_bank.specs.declared.fault.BankFault.TheVariants.{Memory}
use Rattle.clear_book.specs.Documents.Amounts.{euros_text}
use Rattle.clear_values.specs.Limits.{most_records}
use Rattle.clear_bank_check.specs.BankFound.{IsFoundIn, records_by}
use Rattle.clear_bank_check.specs.Hints.{AreHints, hint_lines}
use Rattle.clear_check.specs.Shown.{Found, IsInLine, plural}
use Rattle.clear_bank_check.specs.declared.bank.Held.{Held}
use Rattle.clear_bank_check.specs.declared.hints.Hints.{Hints}

-- ---- what a bank file holds by itself

-- its lines, the places of those that no earlier one equals, and how many repeat one
pub record Contents : Type 0 where
  pub lines : List BankLine
  pub new : List ℕ
  pub repeats : ℕ

-- what lines hold, where no other line is known; not to be had where two are in conflict
abbrev pub contents_of : List BankLine → Result Contents BankFault
contents_of lines = do
  judged ← judgement [] lines
  Ok (record { lines = lines; new = judged.0; repeats = judged.1 })

-- what a file holds, or its first fault
unfoldable pub bank_of : List ℕ → Result Contents BankFault
bank_of bytes = do
  lines ← file_lines most_records bytes
  contents_of lines

-- what was read says
abbrev pub held_of : Held → Contents
held_of held = record {
  lines = held.lines.items;
  new = held.judged.new.items;
  repeats = held.judged.repeats;
}

-- ---- what is said of it

-- the lines at some places
abbrev pub lines_at : List BankLine → List ℕ → List BankLine
lines_at lines places = filter_map (slice_get lines) places

abbrev pub names_no_firm : BankLine → Bool
names_no_firm line = is_none line.employer

abbrev pub cents_of : BankLine → ℕ
cents_of line = line.cents

-- so many lines without a firm, and so many cents
unfoldable pub totals_text : ℕ → ℕ → List ℕ
totals_text unnamed cents = concat (
    decimal unnamed ∷ codes " without a firm, " ∷ euros_text cents ∷ codes " in all\n" ∷ [])

-- so many lines and repeats, and the totals
unfoldable pub counts_text : ℕ → ℕ → ℕ → ℕ → List ℕ
counts_text lines repeats unnamed cents = concat (
    decimal lines ∷ codes " line" ∷ plural lines ∷ codes ", "
    ∷ decimal repeats ∷ codes " repeat" ∷ plural repeats ∷ codes " within the file, "
    ∷ totals_text unnamed cents ∷ [])

-- how many lines; and of those that repeat no earlier one how many name no firm, and their amounts
-- together
abbrev pub bank_text : Contents → List ℕ
bank_text file =
    let new = lines_at file.lines file.new in
    counts_text (length file.lines) file.repeats (count_by names_no_firm new) (sum_by cents_of new)

-- ---- what is said of a fault

-- what can stand in a field
abbrev pub field_wanted : BankField → List ℕ
field_wanted field.Reference = codes "reference (1 to 35 visible ASCII characters)"
field_wanted field.ValueDate = codes "day (YYYY-MM-DD, 2000-01-01 to 2200-12-31)"
field_wanted field.Employer = codes "number of a firm (1 to 99999999, or nothing)"
field_wanted field.Cents = codes "amount in cents (a whole number, 1 to 100000000000)"
field_wanted field.Purpose = codes "purpose (C, I, or nothing)"
field_wanted field.Note = codes "note (at most 140 bytes of UTF-8 without control characters)"

-- a field of this name in the record of a number, in which something else has to stand
unfoldable pub field_line : ℕ → List ℕ → List ℕ → List ℕ → List ℕ
field_line line name here wanted = concat (
    codes "record " ∷ decimal line ∷ codes ", " ∷ name ∷ codes ": " ∷ here ∷ codes " is no "
    ∷ wanted ∷ codes "\n" ∷ [])

-- what is wrong with the record of a number, and what was found there
unfoldable pub record_line : ℕ → RecordFault → List ℕ → List ℕ
record_line line FieldCount here = concat (
    codes "record " ∷ decimal line ∷ codes ": it has " ∷ here ∷ codes "; a line has 6\n" ∷ [])
record_line line (Field bad) here = field_line line (field_name bad) here (field_wanted bad)

-- a header that isn't as it has to be, and what was found there
abbrev pub header_line : List ℕ → List ℕ
header_line here = concat (
    codes "record 1: the header has to be reference,value_date,employer,cents,purpose,note; "
    ∷ here ∷ codes "\n" ∷ [])

-- the line on a fault, with what was found there; want of memory isn't told here
unfoldable pub bank_line : BankFault → Found → List ℕ
bank_line OverLimit found = codes "more than 10000 lines\n"
bank_line (BadCsv line fault) found =
    if line == 1 then header_line found.here else record_line line fault found.here
bank_line (RefConflict line) found = concat (
    codes "record " ∷ decimal line ∷ codes ", reference: " ∷ found.here
    ∷ codes " stands with another content in record " ∷ found.other ∷ codes "\n" ∷ [])
bank_line Memory found = []

-- the line on a fault, and hints below it
abbrev pub SaysFault : BankFault → List ℕ → Type 0
SaysFault fault text = (found : Found) × IsInLine found × (hints : Hints)
    × (text ≡ bank_line fault found ++ hint_lines hints)

-- what was found is what stands at the fault, in the records that commas part
abbrev pub IsFound : List ℕ → BankFault → Found → Type 0
IsFound bytes fault found = IsFoundIn (records_by 44 bytes) fault found

-- the line on a fault says what stands there, and the hints below it are those that the bytes give
abbrev pub TellsFault : List ℕ → BankFault → List ℕ → Type 0
TellsFault bytes fault text = (found : Found) × IsFound bytes fault found
    × (hints : Hints) × AreHints bytes (records_by 44 bytes) fault hints
    × (text ≡ bank_line fault found ++ hint_lines hints)

-- the same of what a bank file says, if that is a fault
abbrev pub Tells : List ℕ → Result Contents BankFault → List ℕ → Type 0
Tells bytes (Ok file) text = ⊤
Tells bytes (Err fault) text = TellsFault bytes fault text

-- what is said of what a bank file says: what it holds, or its first fault
abbrev pub SaysBank : Result Contents BankFault → List ℕ → Type 0
SaysBank (Ok file) text = text ≡ bank_text file
SaysBank (Err fault) text = SaysFault fault text
