-- Which payment pays how much of which charge. Each charge and each payment is a stretch of cents,
-- one behind the other in its list; the share of a payment in a charge is what their stretches
-- have in common.
use Rattle.std.specs.Prelude.{ℕ, ◌+◌, ◌-◌, List, [], ◌∷◌, Option, max, min, nat_lt, sum_by}
use Rattle.std.specs.Prelude.{if◌then◌else◌}
use Rattle.std.specs.List.{flat_map}
use Rattle.std.specs.Option.{option_map}
use Rattle.clear_account.specs.declared.entries.Charge.{Charge}
use Rattle.clear_account.specs.declared.entries.Credit.{Credit}
use Rattle.clear_account.specs.declared.entries.Piece.{Piece}
use Rattle.clear_account.specs.Account.{charge_at, charged, charged_up_to, credit_at, credited}
use Rattle.clear_account.specs.Account.{credited_up_to, place_of, places}

-- the share of payment j in charge i, both counted from 0
abbrev pub share : List Charge → List Credit → ℕ → ℕ → ℕ
share charges credits i j =
    min (charged_up_to charges (i + 1)) (credited_up_to credits (j + 1))
    - max (charged_up_to charges i) (credited_up_to credits j)

-- the piece that says what a payment pays of a charge, if it is more than 0
abbrev pub piece_of : Charge → Credit → ℕ → List Piece
piece_of c k cents =
    if nat_lt 0 cents then record { month = c.month; serial = k.serial; cents = cents } ∷ []
    else []

-- the pieces of charge i, in order of payment
abbrev pub pieces_of : List Charge → List Credit → ℕ → List Piece
pieces_of charges credits i =
    let c = charge_at charges i in
    flat_map (λ j. piece_of c (credit_at credits j) (share charges credits i j)) (places credits)

-- one piece for each charge and payment with a share, and no other, in order of charge, then
-- payment
unfoldable pub right_pieces : List Charge → List Credit → List Piece
right_pieces charges credits = flat_map (λ i. pieces_of charges credits i) (places charges)

-- what is paid of charge i
abbrev pub paid_of : List Charge → List Credit → ℕ → ℕ
paid_of charges credits i = sum_by (λ j. share charges credits i j) (places credits)

-- what is open of charge i: the charge less its shares
unfoldable pub open_part : List Charge → List Credit → ℕ → ℕ
open_part charges credits i = (charge_at charges i).cents - paid_of charges credits i

-- what is open of a month's charge; none for a month without one
abbrev pub open_of : List Charge → List Credit → ℕ → Option ℕ
open_of charges credits month =
    option_map (λ i. open_part charges credits i) (place_of charges month)

-- the part of the payments that no charge reaches
abbrev pub prepaid : List Charge → List Credit → ℕ
prepaid charges credits = credited credits - charged charges
