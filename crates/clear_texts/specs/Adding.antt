-- Rows whose amounts are added up as a source gives them.
use Rattle.std.specs.Prelude.{◌≡◌, ◌⊎◌, ◌+◌, ◌^◌, ◌≤◌, ℕ, Option, Some}
use Rattle.std.specs.Option.{option_map_or}
use Rattle.clear_book.specs.declared.rules.StoreCause.TheVariants.{Row as row_cause}
use Rattle.clear_values.specs.declared.causes.Fault.{Fault}
use Rattle.clear_values.specs.declared.causes.Fault.TheVariants.{Store}

module _ {S Row : Type 0} (gives : S → Option Row → S → Type 0) (amount : Row → ℕ) where
  -- a call gives what the source gives, and adds its amount to the sum before
  abbrev pub GivesAdding : S → ℕ → Option Row → S → ℕ → Type 0
  GivesAdding old before found new sum =
      gives old found new × (sum ≡ before + option_map_or amount found 0)

  -- a call is refused as the source refuses, or since the sum with the row comes to 2^64 or more
  abbrev pub RefusesAdding : (S → Fault → S → Type 0) → S → ℕ → Fault → S → Type 0
  RefusesAdding refuses old before fault new = refuses old fault new
      ⊎ ((fault ≡ Store row_cause) × (row : Row) × gives old (Some row) new
      × (2 ^ 64 ≤ before + amount row))
