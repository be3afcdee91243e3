-- What is found of a firm for its statement.
use Rattle.std.specs.Prelude.{◌≡◌, ◌-◌, ◌==◌, ℕ, filter, Option, None, Some}
use Rattle.clear_account.specs.Account.{credited}
use Rattle.clear_kept.specs.Owing.{charged_in}
use Rattle.clear_kept.specs.Weighed.{weighed_charges}
use Rattle.clear_bank.specs.declared.lines.Purpose.TheVariants.{Interest}
use Rattle.clear_book.specs.Accounts.{charges_of, credits_of}
use Rattle.clear_book.specs.Book.{Book, member_of}
use Rattle.clear_book.specs.Lines.{is_credit_of}
use Rattle.clear_book.specs.Tables.{Tables}
use Rattle.clear_book.specs.declared.rows.EmployerRow.{EmployerRow}
use Rattle.clear_records.specs.declared.statement.StatementRecords.{StatementRecords}

-- this is so of what is found of the employer; and nothing is found where it isn't registered
abbrev pub IsFound : {X : Type 0} → Book → ℕ → (X → Type 0) → Option X → Type 0
IsFound b e is None = member_of b.entries e ≡ None
IsFound b e is (Some found) = is found

-- the records are what the tables say of this firm, and its kept contributions and its payments are
-- those of the book
pub record AreRead (b : Book) (t : Tables) (member : EmployerRow) (r : StatementRecords) : Type 0 where
  pub member_is : r.member ≡ member
  pub rates_are : r.rates ≡ t.rates
  pub reports_are : r.reports.items ≡ filter (λ row. row.employer == member.employer) t.reports
  pub charges_are : r.charges
      ≡ weighed_charges (charges_of b member.employer) (credits_of b member.employer)
  pub interest_are : r.interest_credits.items
      ≡ filter (is_credit_of member.employer Interest) t.credits
  pub prepaid_is : r.prepaid ≡ credited (credits_of b member.employer) - charged_in r.charges
