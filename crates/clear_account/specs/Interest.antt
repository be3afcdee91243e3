-- Interest on late contributions: for each begun month the part that is still open on its first
-- day bears interest.
use Rattle.std.specs.Prelude.{ℕ, ◌*◌, ◌-◌, ◌/◌, List, All, IsSome, Option, filter, map, min}
use Rattle.std.specs.Prelude.{nat_le, nat_lt, sum_by}
use Rattle.std.specs.Option.{option_map, option_map_or}
use Rattle.clear_money.specs.Calendar.{month_steps, months_after}
use Rattle.clear_money.specs.Rates.{Rate, rate_in_force}
use Rattle.clear_account.specs.declared.entries.Charge.{Charge}
use Rattle.clear_account.specs.declared.entries.Credit.{Credit}
use Rattle.clear_account.specs.Account.{charge_at, charged_up_to, place_of, places}

-- the sum of the payments dated up to and on a day
abbrev pub credited_by : List Credit → ℕ → ℕ
credited_by credits day = sum_by (λ k. k.cents) (filter (λ k. nat_le k.day day) credits)

-- what is still open of charge i on a day
abbrev pub open_on : List Charge → List Credit → ℕ → ℕ → ℕ
open_on charges credits i day =
    let c = charge_at charges i in
    c.cents - min c.cents (credited_by credits day - charged_up_to charges i)

-- the days due, due plus 1 month, due plus 2 months, .. that lie strictly before a day
abbrev pub begun_days : ℕ → ℕ → List ℕ
begun_days due day = filter (λ d. nat_lt d day) (map (λ k. months_after due k) month_steps)

-- the weight of charge i on a day: its open parts on the days on which a month of delay begins,
-- summed
unfoldable pub weight_on : List Charge → List Credit → ℕ → ℕ → ℕ
weight_on charges credits i day =
    sum_by (λ d. open_on charges credits i d) (begun_days (charge_at charges i).due day)

-- the weight of a month's charge; none for a month without one
abbrev pub weight_of : List Charge → List Credit → ℕ → ℕ → Option ℕ
weight_of charges credits month day =
    option_map (λ i. weight_on charges credits i day) (place_of charges month)

-- the interest rate of the row in force for a month, in hundredths of a percent
abbrev pub interest_rate : List Rate → ℕ → ℕ
interest_rate rates month = option_map_or (λ r. r.interest_rate) (rate_in_force rates month) 0

-- a row is in force for the month of each charge
abbrev pub HasRates : List Rate → List Charge → Type 0
HasRates rates charges = All (λ c. IsSome (rate_in_force rates c.month)) charges

-- the interest of charge i on a day, rounded down once
abbrev pub interest_on : List Rate → List Charge → List Credit → ℕ → ℕ → ℕ
interest_on rates charges credits i day =
    weight_on charges credits i day * interest_rate rates (charge_at charges i).month / 10000

-- the interest of all charges on a day
abbrev pub all_interest_on : List Rate → List Charge → List Credit → ℕ → ℕ
all_interest_on rates charges credits day =
    sum_by (λ i. interest_on rates charges credits i day) (places charges)
