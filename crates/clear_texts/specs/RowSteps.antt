-- One row, and one call. This serves the proof that a document has the lines of its charges.
use Rattle.std.specs.Prelude.{◌≡◌, ◌⊎◌, ◌==◌, ℕ, Bool, false, List, [], ◌++◌}
use Rattle.std.specs.Prelude.{Option, None, Some, if◌then◌else◌}
use Rattle.clear_book.specs.declared.rules.StoreCause.TheVariants.{Row}
use Rattle.clear_book.specs.Documents.Lines.{charge_line}
use Rattle.clear_texts.specs.Charges.{piece_line}
use Rattle.clear_texts.specs.declared.rows.ChargeRow.{ChargeRow}
use Rattle.clear_values.specs.declared.causes.Fault.{Fault}
use Rattle.clear_values.specs.declared.causes.Fault.TheVariants.{Store}

-- the month is that of the row before
abbrev pub is_month_of : Option ℕ → ℕ → Bool
is_month_of None month = false
is_month_of (Some before) month = before == month

-- the lines that a row adds behind a row of this month: of its charge if its month is another one,
-- and of its piece
abbrev pub row_lines : Option ℕ → ChargeRow → List ℕ
row_lines before row =
    (if is_month_of before row.state.month then [] else charge_line row.state)
    ++ piece_line row.piece

-- why a call does not tell the end: it gave a row, for which there is no room, or was refused for
-- this
abbrev pub IsNotTheEnd : {S : Type 0} → (S → Option ChargeRow → S → Type 0)
    → (S → Fault → S → Type 0) → S → Fault → S → Type 0
IsNotTheEnd gives refuses old fault new =
    ((fault ≡ Store Row) × (row : ChargeRow) × gives old (Some row) new) ⊎ refuses old fault new
