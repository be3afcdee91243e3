use Rattle.std.proofs.Common.{◌≡◌, map, take}
use Rattle.clear_book.specs.Workers.{on_list}
use Rattle.clear_rules.proofs.decide.payout.listed_rows.Given as goal

abbrev pub invariant-loop-claim : goal.invariant-loop-claim
invariant-loop-claim l = l.rows.items ≡ map (on_list l.list) (take l.claim-index l.claims)
