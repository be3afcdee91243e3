-- How a claim stands, what of it is paid out, and which payout list it is on.
use Rattle.std.specs.Prelude.{ℕ, Bool, false, true, ◌==◌, ◌&&◌, is_none, nat_le, nat_lt}
use Rattle.std.specs.Option.{option_map_or}
use Rattle.clear_values.specs.declared.rows.ClaimState.{ClaimState}
use Rattle.clear_values.specs.declared.rows.ClaimState.TheVariants.{Open, Withdrawn, Released}
use Rattle.clear_values.specs.declared.rows.ReleasedClaim.{ReleasedClaim}

-- the claim is open
abbrev pub is_open : ClaimState → Bool
is_open Open = true
is_open Withdrawn = false
is_open (Released release) = false

-- the claim is withdrawn
abbrev pub is_withdrawn : ClaimState → Bool
is_withdrawn Open = false
is_withdrawn Withdrawn = true
is_withdrawn (Released release) = false

-- something of a release is to be paid out: it is on no list yet
abbrev pub is_payable_release : ReleasedClaim → Bool
is_payable_release release = nat_lt 0 release.settlement.paid && is_none release.list

-- so is a claim that stands so
abbrev pub is_payable : ClaimState → Bool
is_payable Open = false
is_payable Withdrawn = false
is_payable (Released release) = is_payable_release release

-- what is paid out of a claim, in cents: nothing before it is released
abbrev pub paid_out : ClaimState → ℕ
paid_out Open = 0
paid_out Withdrawn = 0
paid_out (Released release) = release.settlement.paid

-- the claim is released, on the day or later
abbrev pub is_released_since : ℕ → ClaimState → Bool
is_released_since day Open = false
is_released_since day Withdrawn = false
is_released_since day (Released release) = nat_le day release.day

-- the claim is on the list
abbrev pub is_on : ℕ → ClaimState → Bool
is_on list Open = false
is_on list Withdrawn = false
is_on list (Released release) = option_map_or (λ own. own == list) release.list false
