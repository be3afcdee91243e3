-- What is read of the tables for a payout list.
use Rattle.std.specs.Prelude.{◌≡◌, ℕ, List, [], ◌∷◌, IsSome, true, filter, sum_by}
use Rattle.std.specs.List.{AllByRecursion}
use Rattle.std.specs.Option.{option_map_or}
use Rattle.clear_money.specs.Calendar.{first_day}
use Rattle.clear_values.specs.Keyed.{find_row, AreOnce}
use Rattle.clear_values.specs.Tables.{claim_key, list_key}
use Rattle.clear_values.specs.declared.rows.ClaimRow.{ClaimRow}
use Rattle.clear_values.specs.declared.rows.ListRow.{ListRow}
use Rattle.clear_book.specs.Workers.{is_payable, is_released_since, paid_out}
use Rattle.clear_rules.specs.declared.decide.payout.PayoutView.{PayoutView}

-- each claim of which something is to be paid out was released on the day or later
abbrev pub AreSince : ℕ → List ClaimRow → Type 0
AreSince day claims =
    AllByRecursion (λ claim. is_payable claim.state ≡ true
    → is_released_since day claim.state ≡ true) claims

-- the day of a list, and 2000-01-01 where there is none of the number
abbrev pub day_of_list : List ListRow → ℕ → ℕ
day_of_list lists number =
    option_map_or (λ list. list.day) (find_row list_key lists (number ∷ [])) first_day

-- the claims that were released on the day or later
abbrev pub released_since : ℕ → List ClaimRow → List ClaimRow
released_since day claims = filter (λ claim. is_released_since day claim.state) claims

-- the number of each is one of a claim, and no number stands twice
abbrev pub AreAmong : List ClaimRow → List ClaimRow → Type 0
AreAmong rows claims =
    AllByRecursion (λ row. IsSome (find_row claim_key claims (claim_key row))) rows
    × AreOnce claim_key rows

-- the view tells of these claims those of which something is to be paid out, what that comes to,
-- and the number that the list is to have
pub record IsViewOf (claims : List ClaimRow) (number : ℕ) (view : PayoutView) : Type 0 where
  pub payable_is : view.payable.items ≡ filter (λ claim. is_payable claim.state) claims
  pub total_is : view.total ≡ sum_by (λ claim. paid_out claim.state) view.payable.items
  pub next_is : view.next ≡ number
