-- The pieces that the tables keep of the firm of a statement.
use Rattle.std.specs.Prelude.{◌==◌, List, filter}
use Rattle.clear_values.specs.declared.rows.PieceRow.{PieceRow}
use Rattle.clear_values.specs.RowRanges.{IsPieceRow}
use Rattle.clear_values.specs.Tables.{Tables}
use Rattle.clear_records.specs.declared.statement.StatementHead.{StatementHead}
use Rattle.clear_texts.specs.Paid.{ArePiecesOf}
use Rattle.clear_reading.specs.Reader.{AreRightIn}

-- the pieces of the firm
abbrev pub pieces_for : StatementHead → Tables → List PieceRow
pieces_for head t = filter (λ row. row.employer == head.firm.employer) t.pieces

-- pieces in their ranges, each of which stands under a charge of the statement
abbrev pub AreRightPieces : StatementHead → List PieceRow → Type 0
AreRightPieces head = AreRightIn IsPieceRow (ArePiecesOf head)

-- so it is with those of the firm
abbrev pub ArePiecesFor : StatementHead → Tables → Type 0
ArePiecesFor head t = AreRightPieces head (pieces_for head t)
