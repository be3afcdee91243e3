-- Credits from a place on.
use Rattle.std.specs.Prelude.{ℕ, ◌==◌, ◌&&◌, ◌||◌, Bool, nat_le, nat_lt}
use Rattle.clear_values.specs.Credits.{is_credit_of}
use Rattle.clear_values.specs.declared.lines.Purpose.{Purpose}
use Rattle.clear_values.specs.declared.rows.CreditRow.{CreditRow}

-- a credit of this employer for this purpose, of that day and serial or of a later one
abbrev pub is_credit_from : ℕ → Purpose → ℕ → ℕ → CreditRow → Bool
is_credit_from e purpose day serial row =
    is_credit_of e purpose row
    && (nat_lt day row.day || ((row.day == day) && nat_le serial row.serial))

-- one of that day, with that serial or a later one
abbrev pub is_credit_of_day : ℕ → Purpose → ℕ → ℕ → CreditRow → Bool
is_credit_of_day e purpose day serial row =
    is_credit_of e purpose row && ((row.day == day) && nat_le serial row.serial)

-- one of that day or of a later one
abbrev pub is_credit_since : ℕ → Purpose → ℕ → CreditRow → Bool
is_credit_since e purpose day row = is_credit_of e purpose row && nat_le day row.day
