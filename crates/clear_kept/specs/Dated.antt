-- The rows in which pieces are kept: each piece with the day of its payment.
use Rattle.std.specs.Prelude.{◌≡◌, ◌≢◌, ℕ, ◌==◌, List, [], ◌∷◌, All, AllPairs, if◌then◌else◌, map}
use Rattle.std.specs.Prelude.{nat_lt}
use Rattle.std.specs.List.{flat_map, position_or_len}
use Rattle.clear_account.specs.declared.entries.Charge.{Charge}
use Rattle.clear_account.specs.declared.entries.Credit.{Credit}
use Rattle.clear_account.specs.declared.entries.Piece.{Piece}
use Rattle.clear_account.specs.Account.{HoldsSerial, charge_at, credit_at, places}
use Rattle.clear_account.specs.Allocation.{share}
use Rattle.clear_account.specs.Suffix.{pieces_behind, share_behind}
use Rattle.clear_kept.specs.declared.rows.DatedPiece.{DatedPiece}
use Rattle.clear_kept.specs.declared.rows.PlacedPiece.{PlacedPiece}

-- the row that says what a payment pays of a charge, if it is more than 0
abbrev pub dated_piece_of : Charge → Credit → ℕ → List DatedPiece
dated_piece_of c k cents =
    if nat_lt 0 cents
    then record { month = c.month; day = k.day; serial = k.serial; cents = cents } ∷ []
    else []

-- one row for each charge and payment with a share, in order of charge, then payment
unfoldable pub dated_pieces : List Charge → List Credit → List DatedPiece
dated_pieces charges credits = flat_map
    (λ i. flat_map
    (λ j. dated_piece_of (charge_at charges i) (credit_at credits j) (share charges credits i j))
    (places credits))
    (places charges)

-- the same of charges and payments that are left, where s cents of charges and p cents of payments
-- lie before them
unfoldable pub dated_behind : ℕ → ℕ → List Charge → List Credit → List DatedPiece
dated_behind s p charges credits = flat_map
    (λ i. flat_map
    (λ j. dated_piece_of (charge_at charges i) (credit_at credits j)
    (share_behind s p charges credits i j))
    (places credits))
    (places charges)

-- ---- from pieces, by the serials that they name
-- the place of the payment of a serial, from 0
abbrev pub place_of_serial : List Credit → ℕ → ℕ
place_of_serial credits serial = position_or_len (λ k. k.serial == serial) credits

-- the day of the payment of a serial
abbrev pub day_of_serial : List Credit → ℕ → ℕ
day_of_serial credits serial = (credit_at credits (place_of_serial credits serial)).day

-- a piece with the day of its payment
abbrev pub dated : List Credit → Piece → DatedPiece
dated credits p = record {
  month = p.month;
  day = day_of_serial credits p.serial;
  serial = p.serial;
  cents = p.cents;
}

-- a piece with the day of its payment, and the place of that
abbrev pub placed : List Credit → Piece → PlacedPiece
placed credits p = record { piece = dated credits p; place = place_of_serial credits p.serial }

-- the pieces of a suffix, dated, are its rows
abbrev pub DatedRows : Type 0
DatedRows =
    (s p : ℕ) (charges : List Charge) (credits : List Credit) →
    AllPairs (λ k l. k.serial ≢ l.serial) credits →
    map (dated credits) (pieces_behind s p charges credits) ≡ dated_behind s p charges credits

-- its pieces name its payments
abbrev pub NamesPayments : Type 0
NamesPayments =
    (s p : ℕ) (charges : List Charge) (credits : List Credit) →
    All (λ q. HoldsSerial credits q.serial) (pieces_behind s p charges credits)

-- ---- and back
-- the piece of a row
abbrev pub undated : DatedPiece → Piece
undated r = record { month = r.month; serial = r.serial; cents = r.cents }

-- the pieces are those of the rows
abbrev pub RowsTellPieces : Type 0
RowsTellPieces =
    (s p : ℕ) (charges : List Charge) (credits : List Credit) →
    pieces_behind s p charges credits ≡ map undated (dated_behind s p charges credits)
