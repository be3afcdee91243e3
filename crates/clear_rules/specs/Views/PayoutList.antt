-- What a payout list is judged by, and what it changes.
use Rattle.std.specs.Prelude.{◌≡◌, ℕ, ◌+◌, length, map, sum_by}
use Rattle.clear_book.specs.declared.rows.Change.{Change}
use Rattle.clear_book.specs.declared.rows.Change.TheVariants.{AddList}
use Rattle.clear_book.specs.Book.{Book}
use Rattle.clear_book.specs.Workers.{lists_of, on_list, paid_out, payable_claims}
use Rattle.clear_rules.specs.declared.decide.payout.PayoutView.{PayoutView}

-- the view is what the book says: the claims of which something is to be paid out, what that comes to,
-- and the number behind the last one that was given
pub record IsPayoutView (b : Book) (view : PayoutView) : Type 0 where
  pub payable_is : view.payable.items ≡ payable_claims b.entries
  pub total_is : view.total ≡ sum_by (λ claim. paid_out claim.state) (payable_claims b.entries)
  pub next_is : view.next ≡ length (lists_of b.entries) + 1

-- the change adds the list of a day, and puts the claims that are viewed on it
abbrev pub Lists : ℕ → PayoutView → Change → Type 0
Lists day view change = change ≡ AddList (record {
  list = view.next;
  day = day;
  items = length view.payable.items;
  total = view.total;
}) (map (on_list view.next) view.payable.items)
