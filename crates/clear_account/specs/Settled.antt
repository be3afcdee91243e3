-- What pays a charge: the shares of payments.
use Rattle.std.specs.Prelude.{ℕ, List, [], ◌∷◌, if◌then◌else◌, nat_lt}
use Rattle.std.specs.List.{flat_map}
use Rattle.clear_account.specs.declared.entries.Charge.{Charge}
use Rattle.clear_account.specs.declared.entries.Credit.{Credit}
use Rattle.clear_account.specs.declared.settled.Share.{Share}
use Rattle.clear_account.specs.Account.{places}
use Rattle.clear_account.specs.Allocation.{share}

-- so many cents of the payment at a place, if they are more than 0
abbrev pub share_at : ℕ → ℕ → List Share
share_at place cents =
    if nat_lt 0 cents then record { place = place; cents = cents } ∷ [] else []

-- the shares of charge i, in order of payment
abbrev pub shares_of : List Charge → List Credit → ℕ → List Share
shares_of charges credits i =
    flat_map (λ j. share_at j (share charges credits i j)) (places credits)
