-- The rows that charges are given as.
use Rattle.std.specs.Prelude.{List, [], ◌∷◌, map, Option, None, Some}
use Rattle.std.specs.List.Sorted.{IsStrictlyIncreasing}
use Rattle.clear_book.specs.declared.documents.Payment.{Payment}
use Rattle.clear_book.specs.Documents.Statement.{PaidCharge}
use Rattle.clear_texts.specs.declared.rows.ChargeRow.{ChargeRow}

-- a row of a charge, with this piece of it
abbrev pub row_of : PaidCharge → Option Payment → ChargeRow
row_of charge piece = record { state = charge.state; piece = piece }

-- the rows of a charge with these pieces: one for each, and one where there is none
abbrev pub rows_with : PaidCharge → List Payment → List ChargeRow
rows_with charge [] = row_of charge None ∷ []
rows_with charge (piece ∷ pieces) = map (λ p. row_of charge (Some p)) (piece ∷ pieces)

-- the rows of a charge
abbrev pub rows_of : PaidCharge → List ChargeRow
rows_of charge = rows_with charge charge.pieces

-- each charge is of a later month than the one before
abbrev pub PaidChargesRise : List PaidCharge → Type 0
PaidChargesRise charges = IsStrictlyIncreasing (map (λ charge. charge.state.month) charges)
