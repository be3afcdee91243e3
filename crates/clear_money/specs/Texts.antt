-- How months, days and numbers are spelled.
use Rattle.std.specs.Prelude.{ℕ, ◌+◌, ◌/◌, ◌%◌, List, [], ◌∷◌, ◌++◌, Option, bytes_eq, find}
use Rattle.clear_money.specs.Calendar.{month_of, day_of_month, months}

-- a number below 100 in two digits; the digit 0 is 48
abbrev pub two_digits : ℕ → List ℕ
two_digits n = (48 + n / 10) ∷ (48 + n % 10) ∷ []

-- a number below 10,000 in four digits
abbrev pub four_digits : ℕ → List ℕ
four_digits n = (48 + n / 1000) ∷ (48 + n / 100 % 10) ∷ (48 + n / 10 % 10) ∷ (48 + n % 10) ∷ []

-- a month as YYYY-MM; a dash is 45
abbrev pub month_text : ℕ → List ℕ
month_text m = four_digits (m / 12) ++ 45 ∷ two_digits (m % 12 + 1)

-- the month from 2000-01 to 2199-12 that a text spells
unfoldable pub month_spelled : List ℕ → Option ℕ
month_spelled text = find (λ m. bytes_eq (month_text m) text) months

-- a year, a month of the year and a day of the month as YYYY-MM-DD
abbrev pub date_text : ℕ → ℕ → ℕ → List ℕ
date_text y m d = four_digits y ++ 45 ∷ two_digits m ++ 45 ∷ two_digits d

-- a day as YYYY-MM-DD
abbrev pub day_text : ℕ → List ℕ
day_text t = date_text (month_of t / 12) (month_of t % 12 + 1) (day_of_month t)
