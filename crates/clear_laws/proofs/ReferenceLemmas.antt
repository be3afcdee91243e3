-- The bank lines of a book hold no reference twice, as the law of conflicts asks.
use Rattle.std.proofs.Common.{◌≡◌, ℕ, false, List, [], ◌∷◌, map, None, sym, ◌∙◌}
use Rattle.std.proofs.lemmas.Map.Keys.{IsDistinct-cons}
use Rattle.std.specs.List.{AllByRecursion, IsDistinct}
use Rattle.std.specs.Str.{bytes_eq}
use Rattle.clear_bank.specs.Laws.{HasNoReferenceTwice}
use Rattle.clear_values.specs.declared.lines.BankLine.{BankLine}
use Rattle.clear_values.specs.declared.rows.BankRow.{BankRow}
use Rattle.clear_book.specs.Book.{Entry}
use Rattle.clear_values.specs.Keyed.{find_row, AreOnce}
use Rattle.clear_book.specs.Lines.{lines_of_rows, lines_seen}
use Rattle.clear_book.specs.Tables.{bank_key}
use Rattle.clear_values.proofs.KeyedLemmas.{other_row}
use Rattle.clear_laws.proofs.LinesLemmas.{is_key-bytes_eq, references_once}

-- the references of lines
abbrev references_of : List BankLine → List (List ℕ)
references_of lines = map (λ (line : BankLine). line.reference) lines

-- where no row of a reference is found, each line has another one
all_differ : (reference : List ℕ) (rows : List BankRow) → find_row bank_key rows reference ≡ None → AllByRecursion (λ other. bytes_eq reference other ≡ false) (references_of (lines_of_rows rows))
all_differ reference [] none = tt
all_differ reference (row ∷ rows) none =
    let parts = other_row bank_key row rows reference none in
    (sym (is_key-bytes_eq row.line.reference reference) ∙ parts.0, all_differ reference rows parts.1)

no_lines : HasNoReferenceTwice []
unfolding IsDistinct
no_lines = tt

-- rows whose references are found once have lines that hold none twice
pub no_reference_twice : (rows : List BankRow) → AreOnce bank_key rows → HasNoReferenceTwice (lines_of_rows rows)
no_reference_twice [] once = no_lines
no_reference_twice (row ∷ rows) once =
    IsDistinct-cons bytes_eq row.line.reference (references_of (lines_of_rows rows)) (all_differ row.line.reference rows once.0) (no_reference_twice rows once.1)

-- so do the lines that a book has seen
pub seen_no_reference_twice : (xs : List Entry) → HasNoReferenceTwice (lines_of_rows (lines_seen xs))
seen_no_reference_twice xs = no_reference_twice (lines_seen xs) (references_once xs)
