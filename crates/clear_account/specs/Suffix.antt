-- The pieces of the charges and payments that are left of an account, where so many cents of
-- charges and so many cents of payments lie before them.
use Rattle.std.specs.Prelude.{ℕ, ◌+◌, ◌-◌, List, max, min}
use Rattle.std.specs.List.{flat_map}
use Rattle.clear_account.specs.declared.entries.Charge.{Charge}
use Rattle.clear_account.specs.declared.entries.Credit.{Credit}
use Rattle.clear_account.specs.declared.entries.Piece.{Piece}
use Rattle.clear_account.specs.Account.{charge_at, charged_up_to, credit_at, credited_up_to, places}
use Rattle.clear_account.specs.Allocation.{piece_of}

-- the share of payment j in charge i, both counted from 0 among those that are left
abbrev pub share_behind : ℕ → ℕ → List Charge → List Credit → ℕ → ℕ → ℕ
share_behind s p charges credits i j =
    min (s + charged_up_to charges (i + 1)) (p + credited_up_to credits (j + 1))
    - max (s + charged_up_to charges i) (p + credited_up_to credits j)

-- what each payment pays of each charge, in order of charge, then payment
unfoldable pub pieces_behind : ℕ → ℕ → List Charge → List Credit → List Piece
pieces_behind s p charges credits = flat_map
    (λ i. flat_map
    (λ j. piece_of (charge_at charges i) (credit_at credits j)
    (share_behind s p charges credits i j))
    (places credits))
    (places charges)
