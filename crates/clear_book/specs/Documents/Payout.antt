-- A payout list: the claims that it pays, by their numbers, with their firms and workers.
use Rattle.std.specs.Prelude.{ℕ, List, ◌++◌, codes}
use Rattle.std.specs.Fmt.{decimal}
use Rattle.std.specs.List.{flat_map}
use Rattle.clear_money.specs.Texts.{day_text}
use Rattle.clear_values.specs.declared.rows.ClaimRow.{ClaimRow}
use Rattle.clear_values.specs.declared.rows.ListRow.{ListRow}
use Rattle.clear_book.specs.Documents.Amounts.{amount_text}
use Rattle.clear_book.specs.Workers.{paid_out}

-- the line on the list: its number and its own day
unfoldable pub list_line : ListRow → List ℕ
list_line list =
    codes "payout " ++ decimal list.list ++ codes " " ++ day_text list.day ++ codes "\n"

-- the line of a claim: its number, its firm, its worker, and what is paid out of it
unfoldable pub payout_line : ClaimRow → List ℕ
payout_line claim =
    codes "claim " ++ decimal claim.claim
    ++ codes " employer " ++ decimal claim.employer
    ++ codes " worker " ++ decimal claim.worker
    ++ codes " " ++ amount_text (paid_out claim.state)
    ++ codes "\n"

-- the lines on what it comes to
unfoldable pub total_lines : ListRow → List ℕ
total_lines list =
    codes "items " ++ decimal list.items
    ++ codes "\ntotal " ++ amount_text list.total
    ++ codes "\n"

-- the text of a list with its claims
unfoldable pub payout_text : ListRow → List ClaimRow → List ℕ
payout_text list claims = list_line list ++ flat_map payout_line claims ++ total_lines list
