-- How large a base may be, and what follows for an account.
use Rattle.std.specs.Prelude.{ℕ}

-- the base of a month, in cents: 500 lines of 10,000,000 cents; a contribution is at most its base
abbrev pub most_base : ℕ
most_base = 5000000000

-- the weight of a contribution, in cents: the greatest base, once for each of 2,412 begun months
abbrev pub most_weight : ℕ
most_weight = 12060000000000

-- the interest of a contribution, in cents: the greatest weight, at 10 percent
abbrev pub most_charge_interest : ℕ
most_charge_interest = 1206000000000

-- the months from 2000-01 to 2199-12; an employer has at most one contribution for each
abbrev pub most_months : ℕ
most_months = 2400

-- all contributions of an employer, in cents: 2,400 months of the greatest base
abbrev pub most_charged : ℕ
most_charged = 12000000000000

-- the credits of an employer for one purpose
abbrev pub most_credits : ℕ
most_credits = 100000

-- all credits of an employer for one purpose, in cents: 100,000 credits of 100,000,000,000 cents
abbrev pub most_credited : ℕ
most_credited = 10000000000000000
