-- The lines in suspense, by their serials, with how many they are and what they come to.
use Rattle.std.specs.Prelude.{ℕ, List, [], ◌∷◌, ◌++◌, codes, Option, None, Some, length, sum_by}
use Rattle.std.specs.Fmt.{decimal}
use Rattle.std.specs.List.{flat_map}
use Rattle.clear_money.specs.Texts.{day_text}
use Rattle.clear_values.specs.Lines.{purpose_letter}
use Rattle.clear_values.specs.declared.rows.BankRow.{BankRow}
use Rattle.clear_book.specs.Documents.Amounts.{amount_text}

-- the firm that a file named for a line, or a dash
abbrev pub named_text : Option ℕ → List ℕ
named_text None = codes "-"
named_text (Some e) = decimal e

-- a note behind a space, and nothing where it is empty
abbrev pub note_text : List ℕ → List ℕ
note_text [] = []
note_text (c ∷ note) = codes " " ++ c ∷ note

-- the line of a bank line: its reference, its value date, its purpose, the firm that the file
-- named, its amount and its note
unfoldable pub suspense_line : BankRow → List ℕ
suspense_line row =
    codes "line " ++ row.line.reference
    ++ codes " " ++ day_text row.line.value
    ++ codes " " ++ purpose_letter row.line.purpose
    ++ codes " " ++ named_text row.line.employer
    ++ codes " " ++ amount_text row.line.cents
    ++ note_text row.line.note
    ++ codes "\n"

-- the line on the day
unfoldable pub suspense_day_line : ℕ → List ℕ
suspense_day_line day = codes "suspense " ++ day_text day ++ codes "\n"

-- the lines on what they come to
unfoldable pub suspense_total_lines : ℕ → ℕ → List ℕ
suspense_total_lines count total =
    codes "lines " ++ decimal count ++ codes "\ntotal " ++ amount_text total ++ codes "\n"

-- the text of lines on a day
unfoldable pub suspense_text : ℕ → List BankRow → List ℕ
suspense_text day rows =
    suspense_day_line day
    ++ flat_map suspense_line rows
    ++ suspense_total_lines (length rows) (sum_by (λ row. row.line.cents) rows)
