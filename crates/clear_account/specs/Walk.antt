-- A walk along the payments, from one charge to the next, and what it tells of each. This serves
-- the contracts of the walk.
use Rattle.std.specs.Prelude.{◌≡◌, ℕ, ◌+◌, ◌-◌, ◌*◌, ◌≤◌, List, length, max, min}
use Rattle.std.specs.List.{flat_map}
use Rattle.clear_money.specs.Calendar.{begun_months}
use Rattle.clear_account.specs.declared.entries.Charge.{Charge}
use Rattle.clear_account.specs.declared.entries.Credit.{Credit}
use Rattle.clear_account.specs.declared.settled.Paid.{Paid}
use Rattle.clear_account.specs.declared.settled.Share.{Share}
use Rattle.clear_account.specs.declared.settled.Walk.{Walk}
use Rattle.clear_account.specs.Account.{credit_at, credited_up_to, places}
use Rattle.clear_account.specs.Allocation.{open_part}
use Rattle.clear_account.specs.Laws.{late_shares}
use Rattle.clear_account.specs.Settled.{share_at}

-- what is paid of charge i: how many cents of it are left open, and its late shares
abbrev pub paid_charge : List Charge → List Credit → ℕ → Paid
paid_charge charges credits i = record {
  left = open_part charges credits i;
  weight = late_shares charges credits i;
}

-- what the payments have in common with a stretch of cents, in order of payment
abbrev pub shares_between : ℕ → ℕ → List Credit → List Share
shares_between start end credits = flat_map
    (λ j. share_at j
    (min end (credited_up_to credits (j + 1)) - max start (credited_up_to credits j)))
    (places credits)

-- the cents of a share, once for each month begun from the due day until it was paid
abbrev pub late_cents : List Credit → ℕ → Share → ℕ
late_cents credits due share =
    share.cents * begun_months due (credit_at credits share.place).day

-- a walk has the sum of the payments before its place, which is no more than the charges walked
pub record Stands (credits : List Credit) (walk : Walk) : Type 0 where
  pub place : walk.place ≤ length credits
  pub credited : walk.credited ≡ credited_up_to credits walk.place
  pub behind : walk.credited ≤ walk.charged
