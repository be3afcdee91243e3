-- Which records are those of a firm or a worker in a book.
use Rattle.std.specs.Prelude.{◌≡◌, ◌≤◌, ◌==◌, ℕ, All, Some, filter, length, map}
use Rattle.clear_account.specs.Account.{IsAccount, credited, places}
use Rattle.clear_account.specs.Allocation.{prepaid}
use Rattle.clear_kept.specs.Owing.{arrears_in}
use Rattle.clear_kept.specs.Weighed.{weighed_charges}
use Rattle.clear_bank.specs.declared.lines.Purpose.TheVariants.{Interest}
use Rattle.clear_book.specs.Accounts.{arrears, charges_of, credit_rows_of, credits_of}
use Rattle.clear_book.specs.Accounts.{interest_arrears, missing, months, row_credit}
use Rattle.clear_book.specs.Book.{Book, Member, member_of, rates_of, reported_version}
use Rattle.clear_book.specs.Limits.{most_credits}
use Rattle.clear_book.specs.Own.Statement.{firm_account, firm_on, state_of, whole_payment}
pub use Rattle.clear_book.specs.Tables.{member_in}
use Rattle.clear_book.specs.Tables.{Tables, Stands, wages_of_worker}
pub use Rattle.clear_records.specs.Found.{ChargesRise, MonthsRise, has_charge, version_in}
use Rattle.clear_records.specs.Told.{interest_owed, is_missing_in}
use Rattle.clear_records.specs.declared.statement.StatementHead.{StatementHead}
use Rattle.clear_records.specs.declared.statement.StatementRecords.{StatementRecords}
use Rattle.clear_records.specs.declared.worker.WorkerRecords.{WorkerRecords}

-- the records are those of the employer in the book, and say on a day what the book says: its
-- contributions and its payments are those of an account, and no payment comes after the day
pub record AreStatementRecords (b : Book) (e day : ℕ) (r : StatementRecords) : Type 0 where
  pub employer : r.member.employer ≡ e
  pub member : member_of b.entries e ≡ Some (member_in r.member)
  pub rates : r.rates ≡ rates_of b
  pub versions : (m : ℕ) → version_in r.reports.items m ≡ reported_version b.entries e m
  pub months_rise : MonthsRise r.reports.items
  pub charges : r.charges ≡ weighed_charges (charges_of b e) (credits_of b e)
  pub charges_rise : ChargesRise r.charges
  pub interest_credits : r.interest_credits.items ≡ credit_rows_of b e Interest
  pub few_credits : length r.interest_credits.items ≤ most_credits
  pub account : IsAccount (charges_of b e) (credits_of b e)
  pub days : All (λ k. k.day ≤ day) (credits_of b e)
  pub prepaid_is : r.prepaid ≡ prepaid (charges_of b e) (credits_of b e)
  pub arrears_are : arrears_in r.charges day ≡ arrears b e day
  pub interest_is : interest_owed r.rates r.charges
      (credited (map row_credit r.interest_credits.items)) day ≡ interest_arrears b e day
  pub missing_are : filter (is_missing_in r.member r.rates r.charges day) months
      ≡ missing b e day

-- this is what the statement of the employer tells on a day, but for the pieces
pub record IsHead (b : Book) (e day : ℕ) (head : StatementHead) : Type 0 where
  pub member : Member
  pub is_member : member_of b.entries e ≡ Some member
  pub firm : head.firm ≡ firm_account (firm_on b e day member)
  pub charges : head.charges.items
      ≡ map (state_of (firm_on b e day member)) (places (charges_of b e))
  pub interest_credits : head.interest_credits.items
      ≡ map whole_payment (credit_rows_of b e Interest)
  pub missing_is : head.missing.items ≡ missing b e day

-- it is for this firm and this day
abbrev pub IsFor : ℕ → ℕ → StatementHead → Type 0
IsFor e day head = (head.firm.employer ≡ e) × (head.firm.day ≡ day)

-- the records are those of the worker in the tables of the book: its wage rows, and all claims for
-- it, those that are withdrawn too
pub record AreWorkerRecords (b : Book) (w : ℕ) (r : WorkerRecords) : Type 0 where
  pub rates : r.rates ≡ rates_of b
  pub tables : Tables
  pub stands : Stands b tables
  pub wages : r.wages.items ≡ wages_of_worker tables w
  pub claims : r.claims.items ≡ filter (λ claim. claim.worker == w) tables.claims
