-- A firm's account: its charges in month order, and its credits, the payments, in order of day and
-- serial. Amounts are whole cents.
use Rattle.std.specs.Prelude.{◌≡◌, ◌≢◌, ℕ, ◌-◌, ◌<◌, ◌≤◌, ◌==◌, ◌&&◌, ◌||◌, Bool, List, ◌∷◌, ◌++◌}
use Rattle.std.specs.Prelude.{Option, All, AllPairs, Any, IsTrue, filter, length, nat_lt, position}
use Rattle.std.specs.Prelude.{sum_by, take}
use Rattle.std.specs.List.{range_with_len, slice_get, slice_index_or}
use Rattle.std.specs.Option.{option_map_or}
use Rattle.clear_money.specs.Limits.{most_base, most_credits}
use Rattle.clear_money.specs.Calendar.{IsMonth, day_of_month, first_day}
use Rattle.clear_money.specs.Numbers.{IsAmount}
use Rattle.clear_account.specs.declared.entries.Charge.{Charge}
use Rattle.clear_account.specs.declared.entries.Credit.{Credit}

-- what a keeper of an account holds
pub record Account : Type 0 where
  pub charges : List Charge
  pub credits : List Credit

-- the places of a list's elements: 0, 1, ..
abbrev pub places : {X : Type 0} → List X → List ℕ
places xs = range_with_len 0 (length xs)

-- charge i, counted from 0
abbrev pub charge_at : List Charge → ℕ → Charge
charge_at charges i = slice_index_or charges i (record { month = 0; due = 0; cents = 0 })

-- payment j, counted from 0
abbrev pub credit_at : List Credit → ℕ → Credit
credit_at credits j = slice_index_or credits j (record { day = 0; serial = 0; cents = 0 })

-- the sum of the first n charges
abbrev pub charged_up_to : List Charge → ℕ → ℕ
charged_up_to charges n = sum_by (λ c. c.cents) (take n charges)

-- the sum of the first n payments
abbrev pub credited_up_to : List Credit → ℕ → ℕ
credited_up_to credits n = sum_by (λ k. k.cents) (take n credits)

-- the sum of all charges
abbrev pub charged : List Charge → ℕ
charged charges = sum_by (λ c. c.cents) charges

-- the sum of all payments
abbrev pub credited : List Credit → ℕ
credited credits = sum_by (λ k. k.cents) credits

-- the day of the last payment, or 2000-01-01 without one
abbrev pub last_day : List Credit → ℕ
last_day credits = option_map_or (λ k. k.day) (slice_get credits (length credits - 1)) first_day

-- the place of a month's charge, from 0
abbrev pub place_of : List Charge → ℕ → Option ℕ
place_of charges month = position (λ c. c.month == month) charges

-- a payment has the serial
abbrev pub HoldsSerial : List Credit → ℕ → Type 0
HoldsSerial credits serial = Any (λ k. k.serial ≡ serial) credits

-- payment k comes before payment l: by day, and on one day by serial
abbrev pub comes_before : Credit → Credit → Bool
comes_before k l = nat_lt k.day l.day || (k.day == l.day && nat_lt k.serial l.serial)

-- the charges with this one in the place of its month, and those of other months as they were
abbrev pub with_charge : Charge → List Charge → List Charge
with_charge c charges =
    filter (λ d. nat_lt d.month c.month) charges
    ++ c ∷ filter (λ d. nat_lt c.month d.month) charges

-- the payments with this one in its place
abbrev pub with_credit : Credit → List Credit → List Credit
with_credit k credits =
    filter (λ l. comes_before l k) credits ++ k ∷ filter (λ l. comes_before k l) credits

-- a contribution for a month, due on a day of the month that each month has
pub record IsCharge (c : Charge) : Type 0 where
  pub month : IsMonth c.month
  pub due : day_of_month c.due ≤ 28
  pub cents : c.cents ≤ most_base

-- one charge a month, one payment a serial, each in order and within the limits
pub record IsAccount (charges : List Charge) (credits : List Credit) : Type 0 where
  pub each_charge : All IsCharge charges
  pub months_rise : AllPairs (λ c d. c.month < d.month) charges
  pub each_credit : All (λ k. IsAmount k.cents) credits
  pub credits_rise : AllPairs (λ k l. IsTrue (comes_before k l)) credits
  pub serials_differ : AllPairs (λ k l. k.serial ≢ l.serial) credits
  pub few_credits : length credits ≤ most_credits
