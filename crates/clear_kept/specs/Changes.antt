-- A charge is changed or put in, or payments are put in or taken out. Such a change has a place in
-- cents, the sum of what comes before it: the rows that end at or below the place stay, and what
-- reaches beyond it is allocated anew.
use Rattle.std.specs.Prelude.{◌≡◌, ℕ, ◌<◌, ◌≤◌, ◌++◌, List, All, drop, filter, length, map, nat_lt}
use Rattle.std.specs.Prelude.{AllPairs, Bool, IsTrue, false, nat_le, not, take, ◌==◌, ◌&&◌}
use Rattle.clear_account.specs.declared.entries.Charge.{Charge}
use Rattle.clear_account.specs.declared.entries.Credit.{Credit}
use Rattle.clear_account.specs.Account.{IsAccount, charge_at, charged, charged_up_to, comes_before}
use Rattle.clear_account.specs.Account.{HoldsSerial, credit_at, credited, credited_up_to}
use Rattle.clear_account.specs.Account.{with_charge, with_credit}
use Rattle.clear_account.specs.Places.{Ends}
use Rattle.clear_kept.specs.Dated.{dated_behind, dated_pieces}
use Rattle.clear_kept.specs.declared.rows.DatedPiece.{DatedPiece}
use Rattle.clear_kept.specs.Weighed.{weighed_charges}

-- ---- what comes before a change
-- the charges of earlier months
abbrev pub charges_before : ℕ → List Charge → List Charge
charges_before month charges = filter (λ c. nat_lt c.month month) charges

-- the payments that come before one
abbrev pub credits_before : Credit → List Credit → List Credit
credits_before k credits = filter (λ l. comes_before l k) credits

-- ---- which rows are removed
-- the payment of a row comes before a payment
abbrev pub pays_before : DatedPiece → Credit → Bool
pays_before r k = comes_before (record { day = r.day; serial = r.serial; cents = 0 }) k

-- a row of a month or a later one, whose payment is this one or a later one
abbrev pub is_from : ℕ → Credit → DatedPiece → Bool
is_from month k r = nat_le month r.month && not (pays_before r k)

-- the rows that are left when those are removed
abbrev pub cleared : ℕ → Credit → List DatedPiece → List DatedPiece
cleared month k rows = filter (λ r. not (is_from month k r)) rows

-- ---- wrong cents
-- g changes no more of a row than its cents, and nothing of the rows of these charges; so a table
-- whose other rows hold wrong cents is the right one with g on each row
pub record Blurs (g : DatedPiece → DatedPiece) (charges : List Charge) : Type 0 where
  pub month : (r : DatedPiece) → (g r).month ≡ r.month
  pub day : (r : DatedPiece) → (g r).day ≡ r.day
  pub serial : (r : DatedPiece) → (g r).serial ≡ r.serial
  pub leaves : All (λ c. (r : DatedPiece) → r.month ≡ c.month → g r ≡ r) charges

-- ---- rows of pieces
-- the charges of a month and later may have changed: a is the first that reaches beyond the place
-- after the change, b the first payment that does; the rows of that month and that payment on are
-- removed, and those of the charges and payments beyond the place put behind the others
abbrev pub ChargeRewrites : Type 0
ChargeRewrites =
    (old new : List Charge) (credits : List Credit) (month place a b : ℕ)
    (g : DatedPiece → DatedPiece) →
    IsAccount old credits → IsAccount new credits →
    charges_before month old ≡ charges_before month new →
    place ≡ charged (charges_before month new) →
    Ends (λ c. c.cents) new place a → Ends (λ k. k.cents) credits place b → b < length credits →
    Blurs g (drop a new) →
    cleared month (credit_at credits b) (map g (dated_pieces old credits))
    ++ dated_behind (charged_up_to new a) (credited_up_to credits b) (drop a new) (drop b credits)
    ≡ map g (dated_pieces new credits)

-- the right rows that are so removed, from the month of the first charge and from the first payment on
-- that reach beyond a place, are just those that reach beyond it: the shares of these charges and of
-- those behind them in these payments and in those behind them
abbrev pub RemovedReachBeyond : Type 0
RemovedReachBeyond =
    (charges : List Charge) (credits : List Credit) (place a b : ℕ) →
    IsAccount charges credits →
    Ends (λ c. c.cents) charges place a → Ends (λ k. k.cents) credits place b →
    a < length charges → b < length credits →
    filter (is_from (charge_at charges a).month (credit_at credits b)) (dated_pieces charges credits)
    ≡ dated_behind (charged_up_to charges a) (credited_up_to credits b) (drop a charges) (drop b credits)

-- where no payment reaches beyond the place, no row changes
abbrev pub ChargeLeavesAll : Type 0
ChargeLeavesAll =
    (old new : List Charge) (credits : List Credit) (month place b : ℕ) →
    IsAccount old credits → IsAccount new credits →
    charges_before month old ≡ charges_before month new →
    place ≡ charged (charges_before month new) →
    Ends (λ k. k.cents) credits place b → length credits ≤ b →
    dated_pieces old credits ≡ dated_pieces new credits

-- the payments from one on may have changed: put in, taken out, or both; a is the first charge that
-- reaches beyond the place, b the first payment that does after the change
abbrev pub CreditsRewrite : Type 0
CreditsRewrite =
    (charges : List Charge) (old new : List Credit) (first : Credit) (place a b : ℕ)
    (g : DatedPiece → DatedPiece) →
    IsAccount charges old → IsAccount charges new →
    credits_before first old ≡ credits_before first new →
    place ≡ credited (credits_before first new) →
    Ends (λ c. c.cents) charges place a → Ends (λ k. k.cents) new place b → a < length charges →
    Blurs g (drop a charges) →
    cleared (charge_at charges a).month first (map g (dated_pieces charges old))
    ++ dated_behind (charged_up_to charges a) (credited_up_to new b) (drop a charges) (drop b new)
    ≡ map g (dated_pieces charges new)

-- where no charge reaches beyond the place, no row changes
abbrev pub CreditsLeaveAll : Type 0
CreditsLeaveAll =
    (charges : List Charge) (old new : List Credit) (first : Credit) (place a : ℕ) →
    IsAccount charges old → IsAccount charges new →
    credits_before first old ≡ credits_before first new →
    place ≡ credited (credits_before first new) →
    Ends (λ c. c.cents) charges place a → length charges ≤ a →
    dated_pieces charges old ≡ dated_pieces charges new

-- ---- rows of charges
-- the rows of charges of earlier months stand
abbrev pub ChargeRowsStand : Type 0
ChargeRowsStand =
    (old new : List Charge) (credits : List Credit) (month : ℕ) →
    IsAccount old credits → IsAccount new credits →
    charges_before month old ≡ charges_before month new →
    take (length (charges_before month new)) (weighed_charges old credits)
    ≡ take (length (charges_before month new)) (weighed_charges new credits)

-- the rows of charges that end at or below the place stand
abbrev pub CreditRowsStand : Type 0
CreditRowsStand =
    (charges : List Charge) (old new : List Credit) (first : Credit) (place a : ℕ) →
    IsAccount charges old → IsAccount charges new →
    credits_before first old ≡ credits_before first new →
    place ≡ credited (credits_before first new) →
    Ends (λ c. c.cents) charges place a →
    take a (weighed_charges charges old) ≡ take a (weighed_charges charges new)

-- ---- what comes before is the same
-- before a charge that is put in its place
abbrev pub ChargePut : Type 0
ChargePut =
    (c : Charge) (charges : List Charge) →
    charges_before c.month charges ≡ charges_before c.month (with_charge c charges)

-- before a payment, when that or a later one is put in its place
abbrev pub CreditPut : Type 0
CreditPut =
    (k first : Credit) (credits : List Credit) →
    AllPairs (λ l m. IsTrue (comes_before l m)) credits → ¬ HoldsSerial credits k.serial →
    comes_before k first ≡ false →
    credits_before first credits ≡ credits_before first (with_credit k credits)

-- before a payment, when those of a serial are taken out and none of them comes before it
abbrev pub CreditTaken : Type 0
CreditTaken =
    (serial : ℕ) (first : Credit) (credits : List Credit) →
    All (λ l. l.serial ≡ serial → comes_before l first ≡ false) credits →
    credits_before first credits
    ≡ credits_before first (filter (λ l. not (l.serial == serial)) credits)
