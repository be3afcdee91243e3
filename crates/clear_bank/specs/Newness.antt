-- Which lines of a file are new, which repeat an earlier one, and which are in conflict with one.
use Rattle.std.specs.Prelude.{ℕ, ◌+◌, ◌-◌, Bool, false, not, is_none, List, ◌++◌, length, take}
use Rattle.std.specs.Prelude.{map, filter, Option, Some, None, Result, Ok, Err}
use Rattle.std.specs.List.{find, enumerate_from}
use Rattle.std.specs.Str.{bytes_eq}
use Rattle.clear_values.specs.Lines.{same_content}
use Rattle.clear_bank.specs.declared.fault.BankFault.{BankFault}
use Rattle.clear_bank.specs.declared.fault.BankFault.TheVariants.{RefConflict}
use Rattle.clear_values.specs.declared.lines.BankLine.{BankLine}

-- the line that stands under a reference: the first that bears it
abbrev pub line_under : List ℕ → List BankLine → Option BankLine
line_under reference lines = find (λ line. bytes_eq reference line.reference) lines

-- a line of a file, with its place from 0
abbrev pub Placed : Type 0
Placed = ℕ × BankLine

-- the lines that stand before a place of a file: those accepted before the file, and the file's
-- own
abbrev pub lines_before : List BankLine → List BankLine → ℕ → List BankLine
lines_before known lines place = known ++ take place lines

-- the line that stands before a line of a file, under its reference
abbrev pub earlier_line : List BankLine → List BankLine → Placed → Option BankLine
earlier_line known lines p = line_under p.1.reference (lines_before known lines p.0)

-- the line's reference appears for the first time
abbrev pub is_new : List BankLine → List BankLine → Placed → Bool
is_new known lines p = is_none (earlier_line known lines p)

-- a line and the one that stands under its reference, if any, differ
abbrev pub has_other_content : BankLine → Option BankLine → Bool
has_other_content line None = false
has_other_content line (Some earlier) = not (same_content earlier line)

-- the line's reference stands earlier with another content
abbrev pub is_conflict : List BankLine → List BankLine → Placed → Bool
is_conflict known lines p = has_other_content p.1 (earlier_line known lines p)

-- the places of the new lines
abbrev pub new_places : List BankLine → List BankLine → List ℕ
new_places known lines = map (λ p. p.0) (filter (is_new known lines) (enumerate_from 0 lines))

-- the first line that is in conflict
abbrev pub first_conflict : List BankLine → List BankLine → Option Placed
first_conflict known lines = find (is_conflict known lines) (enumerate_from 0 lines)

-- the conflict, or else the new places and how many lines are repeats; the line at place 0 is the
-- record 2
abbrev pub unless_conflict : Option Placed → List ℕ → ℕ → Result (List ℕ × ℕ) BankFault
unless_conflict None new repeats = Ok (new, repeats)
unless_conflict (Some p) new repeats = Err (RefConflict (p.0 + 2))

-- what a file adds to the lines accepted before it
abbrev pub judgement : List BankLine → List BankLine → Result (List ℕ × ℕ) BankFault
judgement known lines =
    unless_conflict
    (first_conflict known lines)
    (new_places known lines)
    (length lines - length (new_places known lines))
