-- Owed: what a firm owes on a day.
use Rattle.std.specs.Prelude.{ℕ, Option, Bool, not}
use Rattle.clear_account.specs.Account.{charged, credited}
use Rattle.clear_account.specs.Allocation.{prepaid}
use Rattle.clear_book.specs.declared.outcomes.Answer.{Answer}
use Rattle.clear_book.specs.declared.outcomes.Answer.TheVariants.{Owed}
use Rattle.clear_book.specs.declared.rules.Rule.{Rule}
use Rattle.clear_book.specs.declared.rules.Rule.TheVariants.{UnknownEmployer}
use Rattle.clear_book.specs.Accounts.{arrears, charges_of, credits_of}
use Rattle.clear_book.specs.Book.{Book}
use Rattle.clear_book.specs.Checks.{when}

-- the own rule, from whether the employer is registered
abbrev pub own_owed : Bool → Option Rule
own_owed registered = when (not registered) UnknownEmployer

-- the answer: all contributions, all credits for them, what is in arrears, and what is prepaid
abbrev pub owed_by : Book → ℕ → ℕ → Answer
owed_by b e t =
    Owed (charged (charges_of b e)) (credited (credits_of b e)) (arrears b e t)
    (prepaid (charges_of b e) (credits_of b e))
