-- Assign: a line in suspense becomes a firm's. It keeps its serial and its value date.
use Rattle.std.specs.Prelude.{ℕ, List, [], ◌∷◌, Option, Bool, false, not, nat_le}
use Rattle.std.specs.Option.{option_map_or}
use Rattle.clear_values.specs.declared.lines.Purpose.{Purpose}
use Rattle.clear_values.specs.declared.replies.Reply.{Reply}
use Rattle.clear_values.specs.declared.replies.Reply.TheVariants.{Done}
use Rattle.clear_values.specs.declared.rows.BankRow.{BankRow}
use Rattle.clear_book.specs.declared.rules.Limit.TheVariants.{Credits}
use Rattle.clear_book.specs.declared.rules.Rule.{Rule}
use Rattle.clear_book.specs.declared.rules.Rule.TheVariants.{UnknownEmployer, NotInSuspense}
use Rattle.clear_book.specs.declared.rules.Rule.TheVariants.{OverLimit}
use Rattle.clear_book.specs.Checks.{when, first_of}
use Rattle.clear_values.specs.Limits.{most_credits}
use Rattle.clear_book.specs.Lines.{is_in_suspense}

-- there is such a line, and it is in suspense
abbrev pub is_suspended : Option BankRow → Bool
is_suspended line = option_map_or is_in_suspense line false

-- the line would be one credit too many for its purpose, where the firm has so many
abbrev pub is_full : (Purpose → ℕ) → Option BankRow → Bool
is_full count line = option_map_or (λ row. nat_le most_credits (count row.line.purpose)) line false

-- the own rules in their order, from whether the employer is registered, the line of the reference,
-- if there is one, and how many credits the employer has for each purpose
abbrev pub assign_rules : Bool → Option BankRow → (Purpose → ℕ) → List (Option Rule)
assign_rules registered line count =
    when (not registered) UnknownEmployer
    ∷ when (not (is_suspended line)) NotInSuspense
    ∷ when (is_full count line) (OverLimit Credits)
    ∷ []

-- the first of them that applies
abbrev pub own_assign : Bool → Option BankRow → (Purpose → ℕ) → Option Rule
own_assign registered line count = first_of (assign_rules registered line count)

-- the reply
abbrev pub assign_reply : Reply
assign_reply = Done
