-- What a registration is judged by, and the row that it makes.
use Rattle.std.specs.Prelude.{◌≡◌, None, is_some}
use Rattle.clear_money.specs.Rates.{rate_in_force}
use Rattle.clear_book.specs.declared.calls.Registration.{Registration}
use Rattle.clear_book.specs.declared.rows.EmployerRow.{EmployerRow}
use Rattle.clear_book.specs.Book.{Book, rates_of, member_of, employer_count}
use Rattle.clear_book.specs.Limits.{most_employers}
use Rattle.clear_rules.specs.Views.Serves.{Serves}
use Rattle.clear_rules.specs.declared.decide.register.RegisterView.{RegisterView}

-- the view is what the book says of the registration
pub record IsRegisterView (b : Book) (r : Registration) (view : RegisterView) : Type 0 where
  pub registered_is : view.registered ≡ is_some (member_of b.entries r.employer)
  pub employers_serve : Serves view.employer_count (employer_count b.entries) 1 most_employers
  pub has_rate_is : view.has_rate ≡ is_some (rate_in_force (rates_of b) r.start)

-- the row of a registered employer
abbrev pub registered_row : Registration → EmployerRow
registered_row r =
    record { employer = r.employer; name = r.name; start = r.start; last = None }
