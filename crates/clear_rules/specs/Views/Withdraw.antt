-- What a withdrawal is judged by, and what it changes.
use Rattle.std.specs.Prelude.{◌≡◌, Some, is_some}
use Rattle.clear_book.specs.declared.calls.Withdrawal.{Withdrawal}
use Rattle.clear_book.specs.declared.rows.Change.{Change}
use Rattle.clear_book.specs.declared.rows.Change.TheVariants.{WithdrawClaim}
use Rattle.clear_book.specs.declared.rows.ClaimRow.{ClaimRow}
use Rattle.clear_book.specs.Book.{Book, member_of}
use Rattle.clear_book.specs.Workers.{claim_of, withdrawn}
use Rattle.clear_rules.specs.declared.decide.withdraw.WithdrawView.{WithdrawView}

-- the view is what the book says of the withdrawal's employer and claim
pub record IsWithdrawView (b : Book) (w : Withdrawal) (view : WithdrawView) : Type 0 where
  pub registered_is : view.registered ≡ is_some (member_of b.entries w.employer)
  pub claim_is : view.claim ≡ claim_of b.entries w.claim

-- the change withdraws the claim that is viewed
abbrev pub Withdraws : WithdrawView → Change → Type 0
Withdraws view change =
    (claim : ClaimRow) × (view.claim ≡ Some claim) × (change ≡ WithdrawClaim (withdrawn claim))
