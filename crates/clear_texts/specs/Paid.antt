-- The pieces of an account under its charges: each piece under the charge of its month.
use Rattle.std.specs.Prelude.{◌≡◌, ◌≤◌, ◌==◌, ℕ, List, [], ◌∷◌, drop, length, map}
use Rattle.std.specs.List.{flat_map, prefix_len, take_while}
use Rattle.clear_book.specs.declared.documents.ChargeState.{ChargeState}
use Rattle.clear_book.specs.declared.rows.PieceRow.{PieceRow}
use Rattle.clear_book.specs.Documents.Statement.{PaidCharge}
use Rattle.clear_book.specs.Own.Statement.{payment_in}
use Rattle.clear_records.specs.declared.statement.StatementHead.{StatementHead}
use Rattle.clear_texts.specs.declared.rows.ChargeRow.{ChargeRow}
use Rattle.clear_texts.specs.Laws.{rows_of}
use Rattle.clear_texts.specs.Rows.{most_rows}
use Rattle.clear_texts.specs.Text.{text_of_rows}

-- the first pieces, up to the first one that isn't of the month
abbrev pub first_of_month : ℕ → List PieceRow → List PieceRow
first_of_month m pieces = take_while (λ piece. piece.month == m) pieces

-- the pieces behind these
abbrev pub behind_month : ℕ → List PieceRow → List PieceRow
behind_month m pieces = drop (prefix_len (λ piece. piece.month == m) pieces) pieces

-- a charge with these pieces
abbrev pub charge_paid : ChargeState → List PieceRow → PaidCharge
charge_paid state pieces = record { state = state; pieces = map payment_in pieces }

-- charges in their order, each with those of the pieces that come next and are of its month
abbrev pub charges_paid : List ChargeState → List PieceRow → List PaidCharge
charges_paid [] pieces = []
charges_paid (state ∷ states) pieces =
    charge_paid state (first_of_month state.month pieces)
    ∷ charges_paid states (behind_month state.month pieces)

-- the pieces that stand under none of the charges
abbrev pub pieces_over : List ChargeState → List PieceRow → List PieceRow
pieces_over [] pieces = pieces
pieces_over (state ∷ states) pieces = pieces_over states (behind_month state.month pieces)

-- the rows of charges with their pieces
abbrev pub paid_rows : List ChargeState → List PieceRow → List ChargeRow
paid_rows states pieces = flat_map rows_of (charges_paid states pieces)

-- each piece stands under a charge, and there are no more rows than an account has
pub record ArePaid (states : List ChargeState) (pieces : List PieceRow) : Type 0 where
  pub none_over : pieces_over states pieces ≡ []
  pub few : length (paid_rows states pieces) ≤ most_rows

-- the text of a statement whose charges these pieces pay
abbrev pub statement_paid : StatementHead → List PieceRow → List ℕ
statement_paid head pieces =
    text_of_rows head.firm head.interest_credits.items head.missing.items
    (paid_rows head.charges.items pieces)

-- the pieces are those of the charges of a statement
abbrev pub ArePiecesOf : StatementHead → List PieceRow → Type 0
ArePiecesOf head pieces = ArePaid head.charges.items pieces
