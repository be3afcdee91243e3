-- What is said of the values of a file's lines, and of conflicts over all earlier lines.
use Rattle.std.specs.Prelude.{◌≡◌, ℕ, Bool, not, ◌&&◌, List, [], ◌∷◌, map, codes, Some, None, IfOk}
use Rattle.std.specs.List.{find, enumerate_from, list_any, AllByRecursion, IsDistinct}
use Rattle.std.specs.Str.{bytes_eq}
use Rattle.clear_bank.specs.Files.{file_lines}
use Rattle.clear_values.specs.Lines.{same_content}
use Rattle.clear_bank.specs.Newness.{Placed, lines_before, first_conflict}
use Rattle.clear_values.specs.Ranges.{IsBankLine}
use Rattle.clear_values.specs.declared.lines.BankLine.{BankLine}
use Rattle.clear_values.specs.declared.lines.Purpose.TheVariants.{Contribution, Interest}

-- where a file is read, the values of all its lines are in range
abbrev pub LinesAreInRange : Type 0
LinesAreInRange =
    (limit : ℕ) (file : List ℕ)
    → IfOk (file_lines limit file) (λ lines. AllByRecursion IsBankLine lines)

-- no reference stands in two of the lines
abbrev pub HasNoReferenceTwice : List BankLine → Type 0
HasNoReferenceTwice lines = IsDistinct bytes_eq (map (λ line. line.reference) lines)

-- a line and an earlier one have one reference and differ in content
abbrev pub is_at_odds : BankLine → BankLine → Bool
is_at_odds line earlier =
    bytes_eq line.reference earlier.reference && not (same_content earlier line)

-- some earlier line, whichever it is, has the line's reference and another content
abbrev pub differs_earlier : List BankLine → List BankLine → Placed → Bool
differs_earlier known lines p =
    list_any (λ earlier. is_at_odds p.1 earlier) (lines_before known lines p.0)

-- where no two known lines have one reference, the first conflict is the first line that differs
-- from any earlier one
abbrev pub ConflictsAreWithAny : Type 0
ConflictsAreWithAny =
    (known lines : List BankLine) → HasNoReferenceTwice known
    → first_conflict known lines ≡ find (differs_earlier known lines) (enumerate_from 0 lines)

-- ---- examples

-- the header of a bank file, with the end of its line
abbrev pub header_text : List ℕ
header_text = codes "reference,value_date,employer,cents,purpose,note\n"

-- the mark that some programs put before a text
abbrev pub byte_order_mark : List ℕ
byte_order_mark = 239 ∷ 187 ∷ 191 ∷ []

-- one cent that came on 2024-02-25 from nobody known, as it is written, and the line that this is
abbrev pub cent_text : List ℕ
cent_text = codes "B1,2024-02-25,,1,,\n"

abbrev pub cent_line : BankLine
cent_line = record {
  reference = codes "B1";
  value = 19778;
  employer = None;
  cents = 1;
  purpose = Contribution;
  note = [];
}

-- interest that came from a firm on the same day, with a note in which a comma and quotes stand
abbrev pub interest_text : List ℕ
interest_text = codes "B2,2024-02-25,1001,150000,I,\"late, \"\"May\"\"\"\n"

abbrev pub interest_line : BankLine
interest_line = record {
  reference = codes "B2";
  value = 19778;
  employer = Some 1001;
  cents = 150000;
  purpose = Interest;
  note = codes "late, \"May\"";
}
