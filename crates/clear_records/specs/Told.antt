-- What is told of a firm by its records.
use Rattle.std.specs.Prelude.{ℕ, ◌-◌, ◌<◌, Bool, ◌&&◌, List, length, map, not, take}
use Rattle.std.specs.Option.{option_map_or}
use Rattle.clear_money.specs.Rates.{Rate}
use Rattle.clear_account.specs.Account.{credited}
use Rattle.clear_kept.specs.declared.rows.WeighedCharge.{WeighedCharge}
use Rattle.clear_kept.specs.Owing.{interest_in, row_interest}
use Rattle.clear_book.specs.declared.documents.ChargeState.{ChargeState}
use Rattle.clear_book.specs.declared.rows.CreditRow.{CreditRow}
use Rattle.clear_book.specs.declared.rows.EmployerRow.{EmployerRow}
use Rattle.clear_book.specs.Accounts.{is_overdue, row_credit}
use Rattle.clear_book.specs.Book.{is_member_in}
use Rattle.clear_book.specs.Limits.{most_credited}
use Rattle.clear_book.specs.Tables.{member_in}
use Rattle.clear_records.specs.Found.{has_charge, version_in}
use Rattle.clear_records.specs.declared.statement.StatementRecords.{StatementRecords}

-- a charge as it stands on a day
abbrev pub state_told : StatementRecords → ℕ → WeighedCharge → ChargeState
state_told r day charge =
    record {
      month = charge.month;
      due = charge.due;
      version = option_map_or (λ v. v) (version_in r.reports.items charge.month) 0;
      contribution = charge.cents;
      left = charge.left;
      interest = row_interest r.rates day charge;
    }

-- the month is missing on a day
abbrev pub is_missing_in : EmployerRow → List Rate → List WeighedCharge → ℕ → ℕ → Bool
is_missing_in member rates charges day m =
    is_member_in (member_in member) m && is_overdue rates day m && not (has_charge charges m)

-- the interest of all charges up to a day, less what is paid of interest
abbrev pub interest_owed : List Rate → List WeighedCharge → ℕ → ℕ → ℕ
interest_owed rates charges paid day = interest_in rates charges day - paid

-- the credits before the last one come to more than those of an account
abbrev pub AreTooMuch : List CreditRow → Type 0
AreTooMuch credits =
    most_credited < credited (map row_credit (take (length credits - 1) credits))
