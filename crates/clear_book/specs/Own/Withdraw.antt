-- Withdraw: a firm takes an open claim of its own back.
use Rattle.std.specs.Prelude.{ℕ, List, [], ◌∷◌, Option, Bool, false, not, ◌==◌}
use Rattle.std.specs.Option.{option_map_or}
use Rattle.clear_values.specs.declared.replies.Reply.{Reply}
use Rattle.clear_values.specs.declared.replies.Reply.TheVariants.{Done}
use Rattle.clear_values.specs.declared.rows.ClaimRow.{ClaimRow}
use Rattle.clear_book.specs.declared.rules.Rule.{Rule}
use Rattle.clear_book.specs.declared.rules.Rule.TheVariants.{UnknownEmployer, UnknownClaim}
use Rattle.clear_book.specs.declared.rules.Rule.TheVariants.{ClaimNotOpen}
use Rattle.clear_book.specs.Checks.{when, first_of}
use Rattle.clear_book.specs.Workers.{is_open}

-- the claim is the employer's
abbrev pub is_claim_of : ℕ → Option ClaimRow → Bool
is_claim_of e claim = option_map_or (λ row. row.employer == e) claim false

-- the claim is open
abbrev pub is_open_claim : Option ClaimRow → Bool
is_open_claim claim = option_map_or (λ row. is_open row.state) claim false

-- the own rules in their order, from whether the employer is registered, its number, and the claim
-- of the number, if there is one
abbrev pub withdraw_rules : Bool → ℕ → Option ClaimRow → List (Option Rule)
withdraw_rules registered e claim =
    when (not registered) UnknownEmployer
    ∷ when (not (is_claim_of e claim)) UnknownClaim
    ∷ when (not (is_open_claim claim)) ClaimNotOpen
    ∷ []

-- the first of them that applies
abbrev pub own_withdraw : Bool → ℕ → Option ClaimRow → Option Rule
own_withdraw registered e claim = first_of (withdraw_rules registered e claim)

-- the reply
abbrev pub withdraw_reply : Reply
withdraw_reply = Done
