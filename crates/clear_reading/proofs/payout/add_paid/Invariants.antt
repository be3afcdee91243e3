use Rattle.std.proofs.Common.{◌≡◌, take}
use Rattle.std.specs.Prelude.{sum_by}
use Rattle.clear_book.specs.Workers.{paid_out}
use Rattle.clear_reading.proofs.payout.add_paid.Given as goal

abbrev pub invariant-loop-row : goal.invariant-loop-row
invariant-loop-row l = l.sum ≡ sum_by (λ row. paid_out row.state) (take l.row-index l.rows)
