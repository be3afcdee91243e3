-- What is told of what a firm has overdue.
use Rattle.std.specs.Prelude.{◌≡◌, ◌≤◌, ℕ, List, All, AllPairs, Some, length, map}
use Rattle.clear_account.specs.Account.{IsAccount}
use Rattle.clear_bank.specs.declared.lines.Purpose.TheVariants.{Interest}
use Rattle.clear_book.specs.Accounts.{arrears, charges_of, credit_rows_of, credits_of}
use Rattle.clear_book.specs.Accounts.{interest_arrears, missing}
use Rattle.clear_book.specs.Book.{Book, member_of, rates_of}
use Rattle.clear_book.specs.Reminders.{first_of_months}
use Rattle.clear_book.specs.Tables.{member_in}
use Rattle.clear_book.specs.declared.rows.EmployerRow.{EmployerRow}
use Rattle.clear_kept.specs.declared.rows.WeighedCharge.{WeighedCharge}
use Rattle.clear_kept.specs.Weighed.{weighed_charges}
use Rattle.clear_money.specs.Rates.{Rate}
use Rattle.clear_debts.specs.declared.overdue.Overdue.{Overdue}

-- what the book has overdue of a firm on a day
abbrev pub overdue_told : Book → ℕ → ℕ → Overdue
overdue_told b t e =
    record {
      missing = length (missing b e t);
      first = first_of_months (missing b e t);
      arrears = arrears b e t;
      interest = interest_arrears b e t;
      interest_count = length (credit_rows_of b e Interest);
    }

-- the row is that of a firm of the book
abbrev pub IsFirm : Book → EmployerRow → Type 0
IsFirm b row = member_of b.entries row.employer ≡ Some (member_in row)

-- the amounts of a firm's credits for interest
abbrev pub interest_amounts : Book → ℕ → List ℕ
interest_amounts b e = map (λ row. row.cents) (credit_rows_of b e Interest)

-- these are the rates of the book, the row of one of its firms, and its contributions as they are
-- kept. It is an account, its contributions are due in the order of their months, and no payment
-- comes after the day
pub record AreKept (b : Book) (day : ℕ) (rates : List Rate) (firm : EmployerRow)
    (charges : List WeighedCharge) : Type 0 where
  pub rates_are : rates ≡ rates_of b
  pub firm_is : IsFirm b firm
  pub charges_are : charges ≡ weighed_charges (charges_of b firm.employer)
      (credits_of b firm.employer)
  pub account : IsAccount (charges_of b firm.employer) (credits_of b firm.employer)
  pub dues_rise : AllPairs (λ c d. c.due ≤ d.due) (charges_of b firm.employer)
  pub days : All (λ k. k.day ≤ day) (credits_of b firm.employer)
