-- What a firm owes, told from the rows of its charges alone.
use Rattle.std.specs.Prelude.{◌≡◌, ℕ, ◌+◌, ◌-◌, ◌*◌, ◌/◌, ◌<◌, ◌≤◌, List, All, filter, length}
use Rattle.std.specs.Prelude.{AllPairs, nat_lt, sum_by}
use Rattle.clear_money.specs.Calendar.{begun_months, day_of_month}
use Rattle.clear_money.specs.Limits.{most_base, most_months, most_weight}
use Rattle.clear_money.specs.Rates.{Rate}
use Rattle.clear_account.specs.declared.entries.Charge.{Charge}
use Rattle.clear_account.specs.declared.entries.Credit.{Credit}
use Rattle.clear_account.specs.Account.{IsAccount, charged, credited}
use Rattle.clear_account.specs.Allocation.{prepaid}
use Rattle.clear_account.specs.Arrears.{arrears_on}
use Rattle.clear_account.specs.Interest.{all_interest_on, interest_rate, weight_on}
use Rattle.clear_kept.specs.declared.rows.WeighedCharge.{WeighedCharge}
use Rattle.clear_kept.specs.Weighed.{weighed_charge, weighed_charges}

-- ---- ranges

-- a row due on a day that each month has, with cents, an open part and a weight that a charge can have
pub record IsWeighedInRange (row : WeighedCharge) : Type 0 where
  pub due : day_of_month row.due ≤ 28
  pub cents : row.cents ≤ most_base
  pub left : row.left ≤ most_base
  pub weight : row.weight ≤ most_weight

-- no more rows than there are months, each in its ranges
pub record AreWeighedInRange (rows : List WeighedCharge) : Type 0 where
  pub few : length rows ≤ most_months
  pub each : All IsWeighedInRange rows

-- ---- sums over the rows

-- the charges
abbrev pub charged_in : List WeighedCharge → ℕ
charged_in rows = sum_by (λ row. row.cents) rows

-- what is open of them
abbrev pub open_in : List WeighedCharge → ℕ
open_in rows = sum_by (λ row. row.left) rows

-- what is open of those due before a day
abbrev pub arrears_in : List WeighedCharge → ℕ → ℕ
arrears_in rows day = sum_by (λ row. row.left) (filter (λ row. nat_lt row.due day) rows)

-- the weight of a charge on a day: its weight so far, and what is open once for each month begun
abbrev pub weight_in : WeighedCharge → ℕ → ℕ
weight_in row day = row.weight + row.left * begun_months row.due day

-- its interest on a day, rounded down once
abbrev pub row_interest : List Rate → ℕ → WeighedCharge → ℕ
row_interest rates day row = weight_in row day * interest_rate rates row.month / 10000

-- the interest of all charges on a day
abbrev pub interest_in : List Rate → List WeighedCharge → ℕ → ℕ
interest_in rates rows day = sum_by (row_interest rates day) rows

-- ---- laws

-- the rows of an account lie in their ranges
abbrev pub RowsInRange : Type 0
RowsInRange = (charges : List Charge) (credits : List Credit) → IsAccount charges credits →
    AreWeighedInRange (weighed_charges charges credits)

-- they tell what is charged
abbrev pub ChargedFromRows : Type 0
ChargedFromRows = (charges : List Charge) (credits : List Credit) →
    charged_in (weighed_charges charges credits) ≡ charged charges

-- what is open in all is what is charged, less all payments
abbrev pub OpenFromRows : Type 0
OpenFromRows = (charges : List Charge) (credits : List Credit) →
    open_in (weighed_charges charges credits) ≡ charged charges - credited credits

-- where some part is open, the payments are what is charged less what is open, and nothing is
-- prepaid
abbrev pub CreditedFromRows : Type 0
CreditedFromRows = (charges : List Charge) (credits : List Credit) →
    let rows = weighed_charges charges credits in
    0 < open_in rows →
    (credited credits ≡ charged_in rows - open_in rows) × (prepaid charges credits ≡ 0)

-- the weight of a charge on a day that no payment comes after
abbrev pub WeightFromRow : Type 0
WeightFromRow = (charges : List Charge) (credits : List Credit) (i day : ℕ) →
    IsAccount charges credits → i < length charges → All (λ k. k.day ≤ day) credits →
    weight_on charges credits i day ≡ weight_in (weighed_charge charges credits i) day

-- the arrears, where due days rise with the months
abbrev pub ArrearsFromRows : Type 0
ArrearsFromRows = (charges : List Charge) (credits : List Credit) (day : ℕ) →
    AllPairs (λ c d. c.due ≤ d.due) charges →
    arrears_in (weighed_charges charges credits) day ≡ arrears_on charges credits day

-- the interest on a day that no payment comes after
abbrev pub InterestFromRows : Type 0
InterestFromRows = (rates : List Rate) (charges : List Charge) (credits : List Credit) (day : ℕ) →
    IsAccount charges credits → All (λ k. k.day ≤ day) credits →
    interest_in rates (weighed_charges charges credits) day
    ≡ all_interest_on rates charges credits day
