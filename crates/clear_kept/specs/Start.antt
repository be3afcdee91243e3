-- Where an account is allocated anew.
use Rattle.std.specs.Prelude.{◌≡◌, ◌≤◌, List, length}
use Rattle.clear_account.specs.declared.entries.Charge.{Charge}
use Rattle.clear_account.specs.declared.entries.Credit.{Credit}
use Rattle.clear_account.specs.Account.{charged_up_to, credited_up_to}
use Rattle.clear_account.specs.Places.{Ends}
use Rattle.clear_kept.specs.declared.start.Start.{Start}

-- a start tells how many charges and payments end at or below its place, with their cents, and how
-- many charges' rows stand, with theirs
pub record StartsAt (charges : List Charge) (credits : List Credit) (start : Start) : Type 0 where
  pub charges_end : Ends (λ c. c.cents) charges start.place start.charges.count
  pub charges_cents : start.charges.cents ≡ charged_up_to charges start.charges.count
  pub credits_end : Ends (λ k. k.cents) credits start.place start.credits.count
  pub credits_cents : start.credits.cents ≡ credited_up_to credits start.credits.count
  pub rows_within : start.rows.count ≤ length charges
  pub rows_cents : start.rows.cents ≡ charged_up_to charges start.rows.count
