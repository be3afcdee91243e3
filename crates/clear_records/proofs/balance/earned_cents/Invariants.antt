use Rattle.std.proofs.Common.{◌≡◌, take}
use Rattle.std.specs.Prelude.{sum_by}
use Rattle.clear_money.specs.Rates.{rate_in_force}
use Rattle.clear_book.specs.Workers.{entitlement_for}
use Rattle.clear_records.proofs.balance.earned_cents.Given as goal

abbrev pub invariant-loop-row : goal.invariant-loop-row
invariant-loop-row l = l.sum ≡ sum_by (λ row. entitlement_for (rate_in_force l.rates row.month) row.gross) (take l.row-index l.rows)
