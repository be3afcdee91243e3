-- What an assignment is judged by, and what it changes.
use Rattle.std.specs.Prelude.{◌≡◌, ◌∷◌, [], Option, Some, IsTrue, is_some, not}
use Rattle.clear_book.specs.declared.calls.Assignment.{Assignment}
use Rattle.clear_book.specs.declared.rows.BankRow.{BankRow}
use Rattle.clear_book.specs.declared.rows.Change.{Change}
use Rattle.clear_book.specs.declared.rows.Change.TheVariants.{AssignLine}
use Rattle.clear_book.specs.declared.rules.Limit.TheVariants.{Credits}
use Rattle.clear_book.specs.declared.rules.Rule.{Rule}
use Rattle.clear_book.specs.declared.rules.Rule.TheVariants.{UnknownEmployer, NotInSuspense}
use Rattle.clear_book.specs.declared.rules.Rule.TheVariants.{OverLimit}
use Rattle.clear_book.specs.Book.{Book, member_of}
use Rattle.clear_book.specs.Checks.{first_of, when}
use Rattle.clear_book.specs.Lines.{credit_count, credits_made, line_of}
use Rattle.clear_book.specs.Own.Assign.{is_full, is_suspended}
use Rattle.clear_rules.specs.declared.decide.assign.AssignView.{AssignView}

-- the view is what the book says of the assignment's employer and line
pub record IsAssignView (b : Book) (a : Assignment) (view : AssignView) : Type 0 where
  pub registered_is : view.registered ≡ is_some (member_of b.entries a.employer)
  pub line_is : view.line ≡ line_of b.entries a.reference
  -- where the line is in suspense, whether the employer has as many credits for its purpose as it
  -- may have
  pub full_is : IsTrue (is_suspended view.line)
      → view.full ≡ is_full (credit_count (credits_made b.entries) a.employer) view.line

-- the first of an assignment's own rules that applies, by a view
abbrev pub assign_rule : AssignView → Option Rule
assign_rule view = first_of (
    when (not view.registered) UnknownEmployer
    ∷ when (not (is_suspended view.line)) NotInSuspense
    ∷ when view.full (OverLimit Credits)
    ∷ [])

-- the change gives the line that is viewed to the employer, and leaves all else of it as it was
abbrev pub Assigns : Assignment → AssignView → Change → Type 0
Assigns a view change =
    (line : BankRow) × (view.line ≡ Some line)
    × (change ≡ AssignLine (record line { employer = Some a.employer }))
