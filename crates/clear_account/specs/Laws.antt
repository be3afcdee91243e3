-- Laws that the definitions of an account keep.
use Rattle.std.specs.Prelude.{◌≡◌, ℕ, ◌+◌, ◌-◌, ◌*◌, ◌<◌, ◌≤◌, ◌==◌, ◌&&◌, Bool, List, [], ◌∷◌}
use Rattle.std.specs.Prelude.{All, Some, filter, length, min, sum_by}
use Rattle.clear_money.specs.Calendar.{IsMonth, begun_months, day_in}
use Rattle.clear_money.specs.Rates.{Rate, rate_in_force}
use Rattle.clear_account.specs.declared.entries.Charge.{Charge}
use Rattle.clear_account.specs.declared.entries.Credit.{Credit}
use Rattle.clear_account.specs.declared.entries.Piece.{Piece}
use Rattle.clear_account.specs.Account.{IsAccount, charge_at, charged, charged_up_to, credit_at}
use Rattle.clear_account.specs.Account.{credited, places}
use Rattle.clear_account.specs.Allocation.{open_part, paid_of, piece_of, prepaid, right_pieces}
use Rattle.clear_account.specs.Allocation.{share}
use Rattle.clear_account.specs.Interest.{all_interest_on, interest_on, weight_on}

-- the shares of a charge sum to what the payments reach of it
abbrev pub SharesSum : Type 0
SharesSum = (charges : List Charge) (credits : List Credit) (i : ℕ) → i < length charges →
    paid_of charges credits i
    ≡ min (charge_at charges i).cents (credited credits - charged_up_to charges i)

-- the pieces sum to the lesser of the charges and the payments
abbrev pub PiecesSum : Type 0
PiecesSum = (charges : List Charge) (credits : List Credit) →
    sum_by (λ (p : Piece). p.cents) (right_pieces charges credits)
    ≡ min (charged charges) (credited credits)

-- no cent of the payments is lost: it is in a piece or prepaid
abbrev pub CreditsKept : Type 0
CreditsKept = (charges : List Charge) (credits : List Credit) →
    sum_by (λ (p : Piece). p.cents) (right_pieces charges credits) + prepaid charges credits
    ≡ credited credits

-- the share of payment j in charge i, once for each month begun until it was paid
abbrev pub late_share : List Charge → List Credit → ℕ → ℕ → ℕ
late_share charges credits i j =
    share charges credits i j * begun_months (charge_at charges i).due (credit_at credits j).day

-- the late shares of charge i, summed
abbrev pub late_shares : List Charge → List Credit → ℕ → ℕ
late_shares charges credits i = sum_by (λ j. late_share charges credits i j) (places credits)

-- the weight, month by month, is the late shares and the open part, once for each month begun
abbrev pub WeightByPieces : Type 0
WeightByPieces = (charges : List Charge) (credits : List Credit) (i day : ℕ) →
    IsAccount charges credits → i < length charges → All (λ k. k.day ≤ day) credits →
    weight_on charges credits i day
    ≡ late_shares charges credits i
    + open_part charges credits i * begun_months (charge_at charges i).due day

-- a piece of the charge's month and the payment's serial
abbrev pub is_of : Charge → Credit → Piece → Bool
is_of c k p = p.month == c.month && p.serial == k.serial

-- the pieces of a charge and a payment are the one of their share, and none where the share is 0
abbrev pub OnePiece : Type 0
OnePiece = (charges : List Charge) (credits : List Credit) (i j : ℕ) →
    IsAccount charges credits → i < length charges → j < length credits →
    let c = charge_at charges i in
    let k = credit_at credits j in
    filter (is_of c k) (right_pieces charges credits) ≡ piece_of c k (share charges credits i j)

-- there are at most as many pieces as charges and payments together
abbrev pub FewPieces : Type 0
FewPieces = (charges : List Charge) (credits : List Credit) →
    length (right_pieces charges credits) ≤ length charges + length credits

-- ---- interest in small cases

-- a month's contribution, due on the 20th of the following month
abbrev pub charge_of : ℕ → ℕ → Charge
charge_of month cents = record { month = month; due = day_in (month + 1) 20; cents = cents }

-- 33 cents that come on the 21st of a month
abbrev pub third_in : ℕ → ℕ → Credit
third_in month serial = record { day = day_in month 21; serial = serial; cents = 33 }

-- at 1 percent, 99 cents of which a third comes one, two and three months late bear 1.98 cents,
-- rounded down once to 1: not 0, as the thirds would bear each by itself, or the months would
abbrev pub InterestRoundedOnce : Type 0
InterestRoundedOnce = (rates : List Rate) (row : Rate) (m day : ℕ) →
    IsMonth m → IsMonth (m + 3) → day_in (m + 3) 21 ≤ day →
    rate_in_force rates m ≡ Some row → row.interest_rate ≡ 100 →
    interest_on rates (charge_of m 99 ∷ [])
    (third_in (m + 1) 1 ∷ third_in (m + 2) 2 ∷ third_in (m + 3) 3 ∷ []) 0 day
    ≡ 1

-- 99 cents of one month at 1 percent, three months late, bear 2.97 cents, and 99 cents of the
-- following month at 2 percent, two months late, 3.96: each charge is rounded down by itself
abbrev pub InterestByCharge : Type 0
InterestByCharge = (rates : List Rate) (row next : Rate) (m : ℕ) →
    IsMonth m → IsMonth (m + 3) →
    rate_in_force rates m ≡ Some row → row.interest_rate ≡ 100 →
    rate_in_force rates (m + 1) ≡ Some next → next.interest_rate ≡ 200 →
    all_interest_on rates (charge_of m 99 ∷ charge_of (m + 1) 99 ∷ []) [] (day_in (m + 3) 21)
    ≡ 5

-- of a charge that stays open, each 100.00 euros bear for each begun month as many cents as the
-- rate of its month has hundredths of a percent
abbrev pub InterestPerHundred : Type 0
InterestPerHundred = (rates : List Rate) (row : Rate) (m k n : ℕ) →
    IsMonth m → IsMonth (m + k) → 1 ≤ k → n ≤ 500000 → rate_in_force rates m ≡ Some row →
    interest_on rates (charge_of m (n * 10000) ∷ []) [] 0 (day_in (m + k) 21)
    ≡ n * k * row.interest_rate
