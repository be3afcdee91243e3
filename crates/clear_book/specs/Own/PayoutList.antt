-- PayoutList: all that is to be paid out goes on the next list.
use Rattle.std.specs.Prelude.{ℕ, ◌+◌, List, Option, not, length, nat_lt, sum_by}
use Rattle.clear_values.specs.declared.replies.Reply.{Reply}
use Rattle.clear_values.specs.declared.replies.Reply.TheVariants.{Listed}
use Rattle.clear_values.specs.declared.rows.ClaimRow.{ClaimRow}
use Rattle.clear_book.specs.declared.rules.Rule.{Rule}
use Rattle.clear_book.specs.declared.rules.Rule.TheVariants.{NothingToPay}
use Rattle.clear_book.specs.Checks.{when}
use Rattle.clear_book.specs.Workers.{paid_out}

-- the own rule, from the claims of which something is to be paid out
abbrev pub own_payout_list : List ClaimRow → Option Rule
own_payout_list payable = when (not (nat_lt 0 (length payable))) NothingToPay

-- the reply: the number behind the last one that was given, how many claims are on the list, and
-- what is paid out of them together
abbrev pub payout_list_reply : ℕ → List ClaimRow → Reply
payout_list_reply last payable =
    Listed (last + 1) (length payable) (sum_by (λ claim. paid_out claim.state) payable)
