-- The rates of the sample: 20 per cent from 2024-01 on, and 19 per cent from 2025-01 on.
use Rattle.std.specs.Prelude.{ℕ, List, [], ◌∷◌}
use Rattle.clear_money.specs.Rates.{Rate}

-- a row of the sample, from its first month, contribution rate and interest rate on
abbrev sample_rate : ℕ → ℕ → ℕ → Rate
sample_rate first contribution interest = record {
  first = first;
  contribution_rate = contribution;
  report_day = 15;
  due_day = 20;
  interest_rate = interest;
  entitlement_rate = 1425;
}

-- the rate rows of the sample
abbrev pub sample_rates : List Rate
sample_rates =
    sample_rate 24288 2000 100
    ∷ sample_rate 24300 1900 90
    ∷ []
