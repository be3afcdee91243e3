use Rattle.std.proofs.Common.{◌≡◌, drop}
use Rattle.clear_pieces.proofs.SerialLemmas.{IsGoing}
use Rattle.clear_pieces.proofs.credits.add_each.Given as goal

abbrev pub invariant-loop-row : goal.invariant-loop-row
invariant-loop-row l = record {
  credits : IsGoing (drop l.row-index l.rows) l.account.credits l.rows;
  charges : l.account.charges ≡ l.fn.account.charges;
}
