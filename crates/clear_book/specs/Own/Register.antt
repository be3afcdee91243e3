-- Register: an employer that is not registered becomes a member.
use Rattle.std.specs.Prelude.{ℕ, List, [], ◌∷◌, Option, Bool, not, nat_le}
use Rattle.clear_values.specs.declared.replies.Reply.{Reply}
use Rattle.clear_values.specs.declared.replies.Reply.TheVariants.{Done}
use Rattle.clear_book.specs.declared.rules.Limit.TheVariants.{Employers}
use Rattle.clear_book.specs.declared.rules.Rule.{Rule}
use Rattle.clear_book.specs.declared.rules.Rule.TheVariants.{EmployerExists, OverLimit, NoRate}
use Rattle.clear_book.specs.Checks.{when, first_of}
use Rattle.clear_values.specs.Limits.{most_employers}

-- the own rules in their order, from whether the employer is registered, how many employers there
-- are, and whether a rate is in force for the first member month
abbrev pub register_rules : Bool → ℕ → Bool → List (Option Rule)
register_rules registered employer_count has_rate =
    when registered EmployerExists
    ∷ when (nat_le most_employers employer_count) (OverLimit Employers)
    ∷ when (not has_rate) NoRate
    ∷ []

-- the first of them that applies
abbrev pub own_register : Bool → ℕ → Bool → Option Rule
own_register registered employer_count has_rate =
    first_of (register_rules registered employer_count has_rate)

-- the reply
abbrev pub register_reply : Reply
register_reply = Done
