-- The charges of a document: its rows by month, and their lines.
use Rattle.std.specs.Prelude.{◌==◌, ℕ, List, [], ◌∷◌, ◌++◌, Option, None, Some}
use Rattle.std.specs.Prelude.{if◌then◌else◌}
use Rattle.std.specs.List.{flat_map}
use Rattle.clear_book.specs.declared.documents.Payment.{Payment}
use Rattle.clear_book.specs.Documents.Lines.{charge_line, paid_line}
use Rattle.clear_texts.specs.declared.rows.ChargeRow.{ChargeRow}

-- the rows of a month that stand together: the first one, and the further ones
pub record MonthRows : Type 0 where
  pub first : ChargeRow
  pub more : List ChargeRow

-- a row in front of rows that are grouped by month: it comes first in the first group if that is of
-- its month, and else in a group of its own
abbrev pub with_row : ChargeRow → List MonthRows → List MonthRows
with_row row [] = record { first = row; more = [] } ∷ []
with_row row (group ∷ groups) =
    if row.state.month == group.first.state.month
    then record { first = row; more = group.first ∷ group.more } ∷ groups
    else record { first = row; more = [] } ∷ group ∷ groups

-- rows by month: those of a month that stand together are a group
abbrev pub by_month : List ChargeRow → List MonthRows
by_month [] = []
by_month (row ∷ rows) = with_row row (by_month rows)

-- the line of a piece, if there is one
abbrev pub piece_line : Option Payment → List ℕ
piece_line None = []
piece_line (Some piece) = paid_line piece

-- the lines of a month: its charge, and below it each piece of a credit that pays it
abbrev pub month_lines : MonthRows → List ℕ
month_lines rows =
    charge_line rows.first.state ++ flat_map (λ row. piece_line row.piece) (rows.first ∷ rows.more)

-- the lines of all charges, month by month
unfoldable pub charge_lines : List ChargeRow → List ℕ
charge_lines rows = flat_map month_lines (by_month rows)
