-- What is said of payout lists: what each comes to, and that a claim that is on one stays on it.
use Rattle.std.specs.Prelude.{◌≡◌, ◌≤◌, ◌<◌, List, length, sum_by}
use Rattle.std.specs.List.{AllByRecursion}
use Rattle.clear_values.specs.declared.rows.ListRow.{ListRow}
use Rattle.clear_book.specs.Book.{Entry}
use Rattle.clear_book.specs.Workers.{claims_on, paid_out}

-- the list has just the claims that are on it: there is one at least, of each of them something is
-- paid out, and it comes to the sum
pub record IsListOf (xs : List Entry) (list : ListRow) : Type 0 where
  pub some : 1 ≤ list.items
  pub items : list.items ≡ length (claims_on xs list.list)
  pub total : list.total ≡ sum_by (λ claim. paid_out claim.state) (claims_on xs list.list)
  pub paid : AllByRecursion (λ claim. 0 < paid_out claim.state) (claims_on xs list.list)
