-- What a claim is judged by.
use Rattle.std.specs.Prelude.{◌≡◌, ◌+◌, is_some, length}
use Rattle.clear_book.specs.declared.calls.HolidayClaim.{HolidayClaim}
use Rattle.clear_book.specs.Book.{Book, member_of}
use Rattle.clear_book.specs.Workers.{balance_of, claims_of, is_employed}
use Rattle.clear_rules.specs.declared.decide.claim.ClaimView.{ClaimView}

-- the view is what the book says of the claim's employer and worker
pub record IsClaimView (b : Book) (c : HolidayClaim) (view : ClaimView) : Type 0 where
  pub registered_is : view.registered ≡ is_some (member_of b.entries c.employer)
  pub employed_is : view.employed ≡ is_employed b c.employer c.worker
  pub balance_is : view.balance ≡ balance_of b c.worker
  -- the number behind the last one that was given
  pub next_is : view.next ≡ length (claims_of b.entries) + 1
