-- The pieces of a firm's account: what each of its credits pays of each of its contributions.
use Rattle.std.specs.Prelude.{ℕ, List, [], ◌∷◌, map, nat_lt, if◌then◌else◌}
use Rattle.std.specs.List.{enumerate_from, flat_map}
use Rattle.clear_account.specs.Account.{charge_at, places}
use Rattle.clear_account.specs.Allocation.{share}
use Rattle.clear_account.specs.declared.entries.Charge.{Charge}
use Rattle.clear_account.specs.declared.entries.Piece.{Piece}
use Rattle.clear_values.specs.declared.lines.Purpose.TheVariants.{Contribution}
use Rattle.clear_values.specs.declared.rows.CreditRow.{CreditRow}
use Rattle.clear_values.specs.declared.rows.PieceRow.{PieceRow}
use Rattle.clear_book.specs.Accounts.{charges_of, credit_rows_of, row_credit}
use Rattle.clear_book.specs.Book.{Book}

-- so many cents of a credit, for the contribution of a month
abbrev pub piece_row : ℕ → CreditRow → ℕ → PieceRow
piece_row m credit cents =
    record {
      employer = credit.employer;
      month = m;
      day = credit.day;
      serial = credit.serial;
      cents = cents;
      reference = credit.reference;
    }

-- the piece of a credit, if it is more than 0
abbrev pub piece_of : ℕ → CreditRow → ℕ → List PieceRow
piece_of m credit cents = if nat_lt 0 cents then piece_row m credit cents ∷ [] else []

-- the pieces of charge i, in the order of the credits: of each credit its share
abbrev pub pieces_of : List Charge → List CreditRow → ℕ → List PieceRow
pieces_of charges credits i =
    flat_map (λ placed. piece_of (charge_at charges i).month placed.1
    (share charges (map row_credit credits) i placed.0)) (enumerate_from 0 credits)

-- the pieces of a firm, by month, then by credit
abbrev pub piece_rows_of : Book → ℕ → List PieceRow
piece_rows_of b e =
    flat_map (pieces_of (charges_of b e) (credit_rows_of b e Contribution))
    (places (charges_of b e))

-- the piece that an account has for a row
abbrev pub row_piece : PieceRow → Piece
row_piece row = record { month = row.month; serial = row.serial; cents = row.cents }
