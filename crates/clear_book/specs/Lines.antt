-- Bank lines: those that a book has seen, and those that a file brings to it; the serials of lines
-- and releases; the credits that lines and set-offs are.
use Rattle.std.specs.Prelude.{ℕ, ◌+◌, List, [], ◌∷◌, ◌++◌, length, map, filter, count_by, Option}
use Rattle.std.specs.Prelude.{Some, None, Bool, false, true, if◌then◌else◌, is_some}
use Rattle.std.specs.Prelude.{Result, Ok, Err, option_and_then}
use Rattle.std.specs.List.{enumerate_from}
use Rattle.std.specs.Option.{option_map_or}
use Rattle.clear_bank.specs.declared.fault.BankFault.{BankFault}
use Rattle.clear_values.specs.declared.lines.BankLine.{BankLine}
use Rattle.clear_values.specs.declared.lines.Purpose.{Purpose}
use Rattle.clear_bank.specs.Files.{file_lines}
use Rattle.clear_bank.specs.Newness.{Placed, is_new}
use Rattle.clear_book.specs.declared.calls.Command.{Command}
use Rattle.clear_book.specs.declared.calls.Assignment.{Assignment}
use Rattle.clear_book.specs.declared.calls.Command.TheVariants.{ImportBank, Assign, Release}
use Rattle.clear_values.specs.declared.replies.Reply.{Reply}
use Rattle.clear_values.specs.declared.rows.BankRow.{BankRow}
use Rattle.clear_values.specs.declared.rows.CreditRow.{CreditRow}
use Rattle.clear_book.specs.Book.{Entry, member_of}
use Rattle.clear_book.specs.Workers.{claim_of, released_by}
use Rattle.clear_values.specs.Keyed.{find_row, is_key}
use Rattle.clear_values.specs.Limits.{most_records}
use Rattle.clear_values.specs.Tables.{bank_key}
pub use Rattle.clear_values.specs.Credits.{is_in_suspense, line_credit, credit_of_line}
pub use Rattle.clear_values.specs.Credits.{credits_of_lines, is_credit_of, set_offs_of}

-- the lines, and none where there is a fault
abbrev pub lines_or_none : Result (List BankLine) BankFault → List BankLine
lines_or_none (Ok lines) = lines
lines_or_none (Err fault) = []

-- the lines of a bank file
unfoldable pub lines_in : List ℕ → List BankLine
lines_in file = lines_or_none (file_lines most_records file)

-- the lines of a file, with their places, whose reference appears for the first time after the
-- known lines
abbrev pub new_lines : List BankLine → List BankLine → List Placed
new_lines known lines = filter (is_new known lines) (enumerate_from 0 lines)

-- the firm of a new line: the one that it names, if that is registered by then
abbrev pub employer_of_line : (ℕ → Bool) → BankLine → Option ℕ
employer_of_line is_registered line =
    option_and_then (λ e. if is_registered e then Some e else None) line.employer

-- the row of a line that takes a serial: it stands under its firm or in suspense
abbrev pub row_of_line : (ℕ → Bool) → BankLine → ℕ → BankRow
row_of_line is_registered line serial =
    record { line = line; serial = serial; employer = employer_of_line is_registered line }

-- the rows of new lines: each takes the next serial
abbrev pub rows_from : (ℕ → Bool) → ℕ → List Placed → List BankRow
rows_from is_registered last new =
    map (λ numbered. row_of_line is_registered numbered.1.1 numbered.0)
    (enumerate_from (last + 1) new)

-- the lines of rows
abbrev pub lines_of_rows : List BankRow → List BankLine
lines_of_rows rows = map (λ row. row.line) rows

-- ---- the bank lines of a book

-- a command that releases a claim
abbrev pub is_release : Command → Bool
is_release (Release claim) = true
is_release command = false

-- how many releases there were
abbrev pub release_count : List Entry → ℕ
release_count xs = count_by (λ x. is_release x.command) xs

-- how many serials a book has given, where these lines were seen: one for each, and one for each
-- release
abbrev pub serials_of : List Entry → List BankRow → ℕ
serials_of xs seen = length seen + release_count xs

-- the rows that a file brings to a book, where these were seen before it
abbrev pub rows_brought : List Entry → List BankRow → List ℕ → List BankRow
rows_brought xs seen file =
    rows_from (λ e. is_some (member_of xs e)) (serials_of xs seen)
    (new_lines (lines_of_rows seen) (lines_in file))

-- the rows that a command brings to a book
abbrev pub rows_by : List Entry → List BankRow → Command → List BankRow
rows_by xs seen (ImportBank file) = rows_brought xs seen file
rows_by xs seen command = []

-- the lines that the files of all imports brought, in the order in which they came, each under the
-- firm that was found for it then
abbrev pub lines_seen : List Entry → List BankRow
lines_seen [] = []
lines_seen (x ∷ xs) = lines_seen xs ++ rows_by xs (lines_seen xs) x.command

-- how many serials a book has given
abbrev pub serial_count : List Entry → ℕ
serial_count xs = serials_of xs (lines_seen xs)

-- the serial that a release takes behind the last one given; another command takes none itself
abbrev pub own_serials : ℕ → Command → List ℕ
own_serials last command = if is_release command then (last + 1) ∷ [] else []

-- the serials that a command takes: those of the lines that it brings, and its own
abbrev pub serials_by : List Entry → List BankRow → Command → List ℕ
serials_by xs seen command =
    map (λ row. row.serial) (rows_by xs seen command) ++ own_serials (serials_of xs seen) command

-- the serials that a book has given, in the order of its entries
abbrev pub serials_given : List Entry → List ℕ
serials_given [] = []
serials_given (x ∷ xs) = serials_given xs ++ serials_by xs (lines_seen xs) x.command

-- a line after an assignment: the one of its reference is its firm's, and keeps its serial
abbrev pub assigned : Assignment → BankRow → BankRow
assigned a row =
    if is_key (bank_key row) a.reference then record row { employer = Some a.employer } else row

-- lines that stand, after a command
abbrev pub moved_by : Command → List BankRow → List BankRow
moved_by (Assign a) rows = map (assigned a) rows
moved_by command rows = rows

-- the lines that were seen, as they stand: each under the firm that was found for it when it came
-- in or that it was assigned to, and else in suspense
abbrev pub lines_standing : List Entry → List BankRow
lines_standing [] = []
lines_standing (x ∷ xs) =
    moved_by x.command (lines_standing xs) ++ rows_by xs (lines_seen xs) x.command

-- the line of a reference, if there is one
abbrev pub line_of : List Entry → List ℕ → Option BankRow
line_of xs reference = find_row bank_key (lines_standing xs) reference

-- ---- suspense and credits

-- the lines in suspense, by their serials
abbrev pub lines_in_suspense : List Entry → List BankRow
lines_in_suspense xs = filter is_in_suspense (lines_standing xs)

-- how many lines are in suspense
abbrev pub suspense_count : List BankRow → ℕ
suspense_count rows = count_by is_in_suspense rows

-- the set-offs above 0 of a command that was accepted on a day with a reply, as credits: those of a
-- release to contributions and to interest, both with its day and its serial
abbrev pub set_offs_by : List Entry → ℕ → Reply → Command → List CreditRow
set_offs_by xs t reply (Release number) =
    option_map_or (λ claim. set_offs_of (released_by t reply claim) (serial_count xs + 1))
    (claim_of xs number) []
set_offs_by xs t reply command = []

-- the set-offs of all releases
abbrev pub set_offs : List Entry → List CreditRow
set_offs [] = []
set_offs (x ∷ xs) = set_offs xs ++ set_offs_by xs x.day x.reply x.command

-- the credits of all firms: the set-offs, and the standing lines that are not in suspense
abbrev pub credits_made : List Entry → List CreditRow
credits_made xs = set_offs xs ++ credits_of_lines (lines_standing xs)

-- the lines that stand once a file has come in
abbrev pub lines_after : List Entry → List ℕ → List BankRow
lines_after xs file = lines_standing xs ++ rows_brought xs (lines_seen xs) file

-- the credits that there are then
abbrev pub credits_after : List Entry → List ℕ → List CreditRow
credits_after xs file = set_offs xs ++ credits_of_lines (lines_after xs file)

-- how many of these credits are an employer's for a purpose
abbrev pub credit_count : List CreditRow → ℕ → Purpose → ℕ
credit_count credits e purpose = count_by (is_credit_of e purpose) credits
