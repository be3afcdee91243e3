use Rattle.std.proofs.Common.{◌≡◌, filter, not, take}
use Rattle.clear_book.specs.Workers.{is_withdrawn}
use Rattle.clear_records.proofs.worker.standing_claims.Given as goal

abbrev pub invariant-loop-row : goal.invariant-loop-row
invariant-loop-row l = l.claims.items ≡ filter (λ claim. not (is_withdrawn claim.state)) (take l.row-index l.rows)
