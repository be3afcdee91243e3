-- What an end of a membership is judged by, and what it changes.
use Rattle.std.specs.Prelude.{◌≡◌, Some}
use Rattle.std.specs.Option.{option_map}
use Rattle.clear_book.specs.declared.calls.MembershipEnd.{MembershipEnd}
use Rattle.clear_book.specs.declared.rows.Change.{Change}
use Rattle.clear_book.specs.declared.rows.EmployerRow.{EmployerRow}
use Rattle.clear_book.specs.Book.{Book, last_reported, member_of}
use Rattle.clear_book.specs.Tables.{member_in}
use Rattle.clear_rules.specs.declared.decide.end.EndView.{EndView}

-- the view is what the book says of the employer
pub record IsEndView (b : Book) (end : MembershipEnd) (view : EndView) : Type 0 where
  pub member_is : option_map member_in view.member ≡ member_of b.entries end.employer
  pub reported_is : view.reported ≡ last_reported b.entries end.employer

-- the row of a firm whose membership ends
abbrev pub ended_row : MembershipEnd → EmployerRow → EmployerRow
ended_row end row =
    record { employer = end.employer; name = row.name; start = row.start; last = Some end.last }

-- the change ends the membership that is viewed
abbrev pub Ends : MembershipEnd → EndView → Change → Type 0
Ends end view change =
    (row : EmployerRow) × (view.member ≡ Some row)
    × (change ≡ Change.EndMembership (ended_row end row))
