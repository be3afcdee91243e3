-- The tables of an office without requests.
use Rattle.std.proofs.Common.{List, refl}
use Rattle.clear_money.specs.Rates.{Rate}
use Rattle.clear_values.specs.First.{first_tables}
use Rattle.clear_book.specs.Book.{first_book}
use Rattle.clear_book.specs.Tables.{Stands}

-- the first tables are those of the book without entries
pub first_stands : (rates : List Rate) → Stands (first_book rates) (first_tables rates)
first_stands rates = record {
  rates = refl;
  day = refl;
  entries = refl;
  employers = λ e. refl;
  employer_rows = refl;
  employers_in_order = tt;
  reports = λ e m. refl;
  reports_in_order = tt;
  wages = λ e m w. refl;
  wages_in_order = tt;
  charges = λ e m. refl;
  charges_in_order = tt;
  charges_paid = tt;
  bank = λ reference. refl;
  bank_in_order = tt;
  credits = λ k. refl;
  credits_in_order = tt;
  requests = λ k. refl;
  requests_in_order = tt;
  claims = refl;
  last_claim = refl;
  lists = refl;
  last_list = refl;
  runs = refl;
  last_run = refl;
  reminders = refl;
  serial = refl;
}
