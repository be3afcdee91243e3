-- The key of a row of rates, and what statements and queries of a firm's month are given.
use Rattle.std.specs.Prelude.{ℕ, List, [], ◌∷◌}
use Rattle.sqlite.specs.Order.{Row}
use Rattle.clear_money.specs.Rates.{Rate}
use Rattle.clear_values.specs.declared.texts.WageLine.{WageLine}
use Rattle.clear_schema.specs.Values.{number, month}

-- the first month of a row of rates, as a key
abbrev pub rate_key : Rate → List ℕ
rate_key r = r.first ∷ []

-- what a query is given of an employer and a month
abbrev pub month_given : ℕ → ℕ → Row
month_given e m = number e ∷ month m ∷ []

-- what a statement is given of each line
abbrev pub each_given : List WageLine → Row
each_given [] = []
each_given (line ∷ lines) = number line.worker ∷ number line.gross ∷ each_given lines

-- what a statement is given of lines of an employer and a month
abbrev pub lines_given : ℕ → ℕ → List WageLine → Row
lines_given e m lines = number e ∷ month m ∷ each_given lines
