-- Months and days. A month is a number: twelve times its year, and the months of the year before
-- it. A day is its day number, 1970-01-01 being 0.
use Rattle.std.specs.Prelude.{ℕ, ◌+◌, ◌-◌, ◌/◌, ◌%◌, ◌≤◌, List, pos, unsigned_abs, count_by}
use Rattle.std.specs.Prelude.{nat_le, nat_lt}
use Rattle.std.specs.List.{range_with_len}
use Rattle.jiff_core.specs.Calendar.{days_from_civil}

-- a month from 2000-01 to 2199-12
abbrev pub IsMonth : ℕ → Type 0
IsMonth m = (24000 ≤ m) × (m ≤ 26399)

-- the months from 2000-01 to 2199-12
unfoldable pub months : List ℕ
months = range_with_len 24000 2400

-- 2000-01-01
abbrev pub first_day : ℕ
first_day = 10957

-- 2200-12-31
abbrev pub latest_day : ℕ
latest_day = 84370

-- a day from 2000-01-01 to 2200-12-31
abbrev pub IsDay : ℕ → Type 0
IsDay t = (first_day ≤ t) × (t ≤ latest_day)

-- day d of month m, counted from 1
unfoldable pub day_in : ℕ → ℕ → ℕ
day_in m d = unsigned_abs (days_from_civil (pos (m / 12)) (m % 12 + 1) d)

-- the months from 2000-01 to 2200-12
unfoldable pub calendar_months : List ℕ
calendar_months = range_with_len 24000 2412

-- the month of a day: from 2000-01 on, as many months as begin on that day or before
unfoldable pub month_of : ℕ → ℕ
month_of t = 23999 + count_by (λ m. nat_le (day_in m 1) t) calendar_months

-- the place of a day in its month, from 1
abbrev pub day_of_month : ℕ → ℕ
day_of_month t = t + 1 - day_in (month_of t) 1

-- the day k months after a day: the same place in that month
abbrev pub months_after : ℕ → ℕ → ℕ
months_after t k = day_in (month_of t + k) (day_of_month t)

-- 0 to 2,411: so many months lie between the months of the first day and of the latest one
unfoldable pub month_steps : List ℕ
month_steps = range_with_len 0 2412

-- how many of the days due, due plus 1 month, due plus 2 months, .. lie strictly before a day
abbrev pub begun_months : ℕ → ℕ → ℕ
begun_months due t = count_by (λ k. nat_lt (months_after due k) t) month_steps
