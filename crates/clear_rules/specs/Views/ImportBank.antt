-- What a bank file is judged by, and the rows that it brings by a view.
use Rattle.std.specs.Prelude.{◌≡◌, ℕ, ◌+◌, ◌==◌, List, Bool, true, Ok}
use Rattle.std.specs.Prelude.{Option, is_some, IfSome}
use Rattle.std.specs.List.{find, AllByRecursion}
use Rattle.std.specs.Option.{option_map_or}
use Rattle.clear_bank.specs.declared.lines.BankLine.{BankLine}
use Rattle.clear_bank.specs.declared.lines.Purpose.{Purpose}
use Rattle.clear_bank.specs.declared.lines.Purpose.TheVariants.{Contribution, Interest}
use Rattle.clear_bank.specs.Files.{file_lines}
use Rattle.clear_bank.specs.Newness.{line_under}
use Rattle.clear_book.specs.declared.rows.BankRow.{BankRow}
use Rattle.clear_book.specs.declared.rules.Rule.{Rule}
use Rattle.clear_book.specs.Book.{Book, member_of}
use Rattle.clear_book.specs.Limits.{most_credits, most_records, most_suspense}
use Rattle.clear_book.specs.Lines.{lines_in, new_lines, rows_from, rows_brought, lines_of_rows}
use Rattle.clear_book.specs.Lines.{lines_seen, lines_after, suspense_count, credit_count}
use Rattle.clear_book.specs.Lines.{credits_after, credits_of_lines, serial_count}
use Rattle.clear_book.specs.Own.ImportBank.{own_import}
use Rattle.clear_rules.specs.Views.Serves.{ServesAfter}
use Rattle.clear_rules.specs.declared.decide.import.EmployerCredits.{EmployerCredits}
use Rattle.clear_rules.specs.declared.decide.import.ImportView.{ImportView}

-- a file reads as these lines
abbrev pub ReadsAs : List ℕ → List BankLine → Type 0
ReadsAs file lines = file_lines most_records file ≡ Ok lines

-- the numbers of an employer's credits, if it is registered
abbrev pub employer_under : List EmployerCredits → ℕ → Option EmployerCredits
employer_under employers e = find (λ credits. credits.employer == e) employers

-- whether an employer is registered by a view
abbrev pub is_registered_by : ImportView → ℕ → Bool
is_registered_by view e = is_some (employer_under view.employers.items e)

-- the number of an employer's credits for a purpose
abbrev pub count_for : Purpose → EmployerCredits → ℕ
count_for Contribution credits = credits.contribution_count
count_for Interest credits = credits.interest_count

-- the number of an employer's credits for a purpose by a view, 0 where it is not registered
abbrev pub credit_count_viewed : ImportView → ℕ → Purpose → ℕ
credit_count_viewed view e purpose =
    option_map_or (count_for purpose) (employer_under view.employers.items e) 0

-- the rows that a file brings by a view
abbrev pub rows_viewed : ImportView → List ℕ → List BankRow
rows_viewed view file =
    rows_from (is_registered_by view) view.serials (new_lines view.known.items (lines_in file))

-- by a view, the number of lines in suspense once these rows stand
abbrev pub suspense_then : ImportView → List BankRow → ℕ
suspense_then view rows = view.suspense + suspense_count rows

-- and that of an employer's credits for a purpose
abbrev pub credits_then : ImportView → List BankRow → ℕ → Purpose → ℕ
credits_then view rows e purpose =
    credit_count_viewed view e purpose + credit_count (credits_of_lines rows) e purpose

-- the first of an import's own rules that applies, by a view
abbrev pub import_rule : ImportView → ℕ → List ℕ → Option Rule
import_rule view t file =
    own_import view.known.items (rows_viewed view file) (suspense_then view (rows_viewed view file))
    (credits_then view (rows_viewed view file)) t file

-- the rows that a file brings to a book
abbrev pub rows_of_file : Book → List ℕ → List BankRow
rows_of_file b file = rows_brought b.entries (lines_seen b.entries) file

-- an employer is seen as the book has it
pub record IsEmployerViewed (b : Book) (file : List ℕ) (view : ImportView) (e : ℕ) : Type 0 where
  -- whether it is registered
  pub registered_is : is_registered_by view e ≡ is_some (member_of b.entries e)
  -- for each purpose a number that serves, with the rows of the file, for the credits that it has
  -- then, if it is registered
  pub credits_serve : (purpose : Purpose) → is_some (member_of b.entries e) ≡ true
      → ServesAfter (credits_then view (rows_of_file b file) e purpose)
      (credit_count (credits_after b.entries file) e purpose) most_credits

-- the view is what the book says of the lines and the employers that a file names
pub record IsImportView (b : Book) (file : List ℕ) (view : ImportView) : Type 0 where
  -- for each line of the file, what is found under its reference
  pub known_is : AllByRecursion (λ line. line_under line.reference view.known.items
      ≡ line_under line.reference (lines_of_rows (lines_seen b.entries))) (lines_in file)
  -- for each line that names an employer, that employer
  pub employers_are : AllByRecursion (λ line.
      IfSome line.employer (IsEmployerViewed b file view)) (lines_in file)
  -- a number that serves, with the rows of the file, for the lines in suspense then
  pub suspense_serves : ServesAfter (suspense_then view (rows_of_file b file))
      (suspense_count (lines_after b.entries file)) most_suspense
  -- how many serials were given
  pub serials_is : view.serials ≡ serial_count b.entries
