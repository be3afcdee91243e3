-- A firm's account as the tables keep it.
use Rattle.std.specs.Prelude.{◌≡◌, ℕ, List, Option, drop, map, slice_get}
use Rattle.std.specs.List.{AllByRecursion, filter_map}
use Rattle.std.specs.Option.{option_map}
use Rattle.clear_account.specs.Account.{IsAccount}
use Rattle.clear_account.specs.declared.entries.Charge.{Charge}
use Rattle.clear_account.specs.declared.entries.Credit.{Credit}
use Rattle.clear_kept.specs.Weighed.{weighed_charges}
use Rattle.clear_kept.specs.declared.rows.PlacedPiece.{PlacedPiece}
use Rattle.clear_kept.specs.declared.rows.WeighedCharge.{WeighedCharge}
use Rattle.clear_kept.specs.declared.start.Start.{Start}
use Rattle.clear_values.specs.RowRanges.{IsCreditRow, IsKeptCharge}
use Rattle.clear_values.specs.declared.rows.CreditRow.{CreditRow}
use Rattle.clear_values.specs.declared.rows.KeptCharge.{KeptCharge}
use Rattle.clear_values.specs.declared.rows.PieceRow.{PieceRow}
use Rattle.clear_book.specs.Accounts.{row_credit}
use Rattle.clear_book.specs.Allocated.{contribution_rows, kept_charges, pieces_left}
use Rattle.clear_book.specs.Pieces.{piece_row}
use Rattle.clear_book.specs.Tables.{Tables, table_credits}
use Rattle.clear_pieces.specs.declared.firm.FirmAccount.{FirmAccount}

-- the contributions that are kept of a firm and its credits for them are in their ranges, and make
-- up an account
pub record KeepsAccount (t : Tables) (e : ℕ) : Type 0 where
  pub charges : AllByRecursion IsKeptCharge t.charges
  pub credits : AllByRecursion IsCreditRow t.credits
  pub account : IsAccount (kept_charges t e) (table_credits t e)

-- what was read of a firm is what the tables keep of it
pub record IsAccountOf (t : Tables) (e : ℕ) (firm : FirmAccount) : Type 0 where
  pub charges : firm.account.charges ≡ kept_charges t e
  pub credits : firm.account.credits ≡ table_credits t e
  pub rows : firm.rows.items ≡ contribution_rows t e

-- the credits of what was read of a firm are those of its rows
abbrev pub HasItsRows : FirmAccount → Type 0
HasItsRows firm = firm.account.credits ≡ map row_credit firm.rows.items

-- its pieces beyond a start
abbrev pub pieces_from : FirmAccount → Start → List PieceRow
pieces_from firm start =
    pieces_left start.charges.cents start.credits.cents
    (drop start.charges.count firm.account.charges) (drop start.credits.count firm.rows.items)

-- the row of a piece whose credit has its place among these
abbrev pub row_placed : List CreditRow → PlacedPiece → Option PieceRow
row_placed credits placed =
    option_map (λ credit. piece_row placed.piece.month credit placed.piece.cents)
    (slice_get credits placed.place)

-- the rows of such pieces
abbrev pub rows_placed : List CreditRow → List PlacedPiece → List PieceRow
rows_placed credits placed = filter_map (row_placed credits) placed

-- a contribution, with what is paid of it, as a row of a firm
abbrev pub kept_as : ℕ → WeighedCharge → KeptCharge
kept_as e row = record {
  employer = e;
  month = row.month;
  due = row.due;
  cents = row.cents;
  left = row.left;
  weight = row.weight;
}

-- the rows of a firm's contributions but for the first n, with what its credits pay of them
abbrev pub settled_from : ℕ → List Charge → List Credit → ℕ → List KeptCharge
settled_from e charges credits n = map (kept_as e) (drop n (weighed_charges charges credits))
