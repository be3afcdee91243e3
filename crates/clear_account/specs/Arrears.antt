-- What a firm owes on a day.
use Rattle.std.specs.Prelude.{ℕ, ◌-◌, List, filter, nat_lt, sum_by}
use Rattle.clear_account.specs.declared.entries.Charge.{Charge}
use Rattle.clear_account.specs.declared.entries.Credit.{Credit}
use Rattle.clear_account.specs.Account.{credited}

-- the charges due before a day
abbrev pub charged_before : List Charge → ℕ → ℕ
charged_before charges day = sum_by (λ c. c.cents) (filter (λ c. nat_lt c.due day) charges)

-- what is due before a day, less all payments
abbrev pub arrears_on : List Charge → List Credit → ℕ → ℕ
arrears_on charges credits day = charged_before charges day - credited credits
