-- The numbers that callers give their commands, how many serials were given, and the numbers of
-- claims, payout lists and reminder runs.
use Rattle.std.specs.Prelude.{ℕ, ◌≤◌}
use Rattle.clear_values.specs.Limits.{most_request_no, most_serials, most_entries}

-- 1 to 999,999,999,999,999,999
abbrev pub IsRequestNo : ℕ → Type 0
IsRequestNo n = (1 ≤ n) × (n ≤ most_request_no)

-- at most 500,000,000,000
abbrev pub IsSerialCount : ℕ → Type 0
IsSerialCount n = n ≤ most_serials

-- 1 to 50,000,000, as there are no more requests
abbrev pub IsClaimNo : ℕ → Type 0
IsClaimNo n = (1 ≤ n) × (n ≤ most_entries)

-- so is that of a payout list
abbrev pub IsListNo : ℕ → Type 0
IsListNo n = (1 ≤ n) × (n ≤ most_entries)

-- and that of a reminder run
abbrev pub IsRunNo : ℕ → Type 0
IsRunNo n = (1 ≤ n) × (n ≤ most_entries)
