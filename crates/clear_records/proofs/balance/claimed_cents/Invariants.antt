use Rattle.std.proofs.Common.{◌≡◌, take}
use Rattle.std.specs.Prelude.{if◌then◌else◌, sum_by}
use Rattle.clear_book.specs.Workers.{is_withdrawn}
use Rattle.clear_records.proofs.balance.claimed_cents.Given as goal

abbrev pub invariant-loop-row : goal.invariant-loop-row
invariant-loop-row l = l.sum ≡ sum_by (λ row. if is_withdrawn row.state then 0 else row.cents) (take l.row-index l.rows)
