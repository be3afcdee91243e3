-- Rates, and the contribution at a rate. A rate is in hundredths of a percent, an amount in whole
-- cents.
use Rattle.std.specs.Prelude.{ℕ, ◌+◌, ◌*◌, ◌/◌, ◌<◌, ◌≤◌, List, [], ◌∷◌, Option, Some, None}
use Rattle.std.specs.Prelude.{nat_le, nat_lt, if◌then◌else◌}
use Rattle.clear_money.specs.Calendar.{IsMonth, day_in}

-- the rates from a first month on, with the days of the following month on which reports and
-- contributions are due
pub record Rate : Type 0 where
  pub first : ℕ
  pub contribution_rate : ℕ
  pub report_day : ℕ
  pub due_day : ℕ
  pub interest_rate : ℕ
  pub entitlement_rate : ℕ

-- a day that each month has
abbrev pub IsDayOfEachMonth : ℕ → Type 0
IsDayOfEachMonth d = (1 ≤ d) × (d ≤ 28)

-- a rate whose month, days and numbers are in their ranges
pub record IsRate (r : Rate) : Type 0 where
  pub first : IsMonth r.first
  pub contribution_rate : r.contribution_rate ≤ 10000
  pub report_day : IsDayOfEachMonth r.report_day
  pub due_day : IsDayOfEachMonth r.due_day
  pub interest_rate : r.interest_rate ≤ 1000
  pub entitlement_rate : r.entitlement_rate ≤ 10000

-- of two rows the one with the greater first month
abbrev pub later_row : Rate → Option Rate → Option Rate
later_row r None = Some r
later_row r (Some q) = if nat_lt q.first r.first then Some r else Some q

-- among the rows, the one with the greatest first month not after m
abbrev pub rate_in_force : List Rate → ℕ → Option Rate
rate_in_force [] m = None
rate_in_force (r ∷ rs) m =
    if nat_le r.first m then later_row r (rate_in_force rs m) else rate_in_force rs m

-- the contribution for a base, at a rate: rounded half up to whole cents
abbrev pub contribution_of : ℕ → ℕ → ℕ
contribution_of base rate = (base * rate + 5000) / 10000

-- the day on which the contribution of a month is due, at the month's rate row
abbrev pub due_day_of : ℕ → Rate → ℕ
due_day_of m r = day_in (m + 1) r.due_day

-- the day by which the report of a month is to be in, at the month's rate row
abbrev pub report_day_of : ℕ → Rate → ℕ
report_day_of m r = day_in (m + 1) r.report_day

-- each first month is after f
abbrev pub AllAfter : ℕ → List Rate → Type 0
AllAfter f [] = Unit {0}
AllAfter f (r ∷ rs) = (f < r.first) × AllAfter f rs

-- the first months rise strictly
abbrev pub IsRising : List Rate → Type 0
IsRising [] = Unit {0}
IsRising (r ∷ rs) = AllAfter r.first rs × IsRising rs

-- the first month of the last row
abbrev pub last_first : List Rate → ℕ
last_first [] = 0
last_first (r ∷ []) = r.first
last_first (r ∷ q ∷ rs) = last_first (q ∷ rs)
