-- A number in the place of a count, where a limit is judged.
use Rattle.std.specs.Prelude.{◌≡◌, ◌≤◌, ◌⊎◌, ℕ, ◌+◌}

-- a number serves for a count, where so many more come: it is the count; or it is no less, and with
-- them it stays within the limit
abbrev pub Serves : ℕ → ℕ → ℕ → ℕ → Type 0
Serves viewed count more limit =
    (viewed ≡ count) ⊎ ((count ≤ viewed) × (viewed + more ≤ limit))

-- a number serves for a count of what stands after a change: it is the count; or it is no less, and
-- within the limit
abbrev pub ServesAfter : ℕ → ℕ → ℕ → Type 0
ServesAfter viewed count limit = (viewed ≡ count) ⊎ ((count ≤ viewed) × (viewed ≤ limit))
