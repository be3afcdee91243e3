-- A number in the place of a count that is no greater, while a limit isn't reached.
use Rattle.std.specs.Prelude.{ℕ, if◌then◌else◌, nat_lt}

-- the number that bounds a count, while it is below the limit; else the count
abbrev pub bound_or_count : ℕ → ℕ → ℕ → ℕ
bound_or_count bound limit count = if nat_lt bound limit then bound else count
