use Rattle.std.proofs.Common.{◌≡◌, ◌≤◌, ◌*◌, map, take}
use Rattle.clear_account.specs.Account.{credited}
use Rattle.clear_book.specs.Accounts.{row_credit}
use Rattle.clear_records.proofs.arrears.add_credits.Given as goal

abbrev pub invariant-loop-credit : goal.invariant-loop-credit
invariant-loop-credit l =
    (l.sum ≡ credited (map row_credit (take l.credit-index l.credits))) × (l.sum ≤ l.credit-index * 100000000000)
