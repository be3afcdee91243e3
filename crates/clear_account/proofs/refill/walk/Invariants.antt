use Rattle.std.proofs.Common.{◌≡◌, ◌+◌, ◌-◌, ◌*◌, ◌<◌, ◌≤◌, ◌++◌, length, drop}
use Rattle.clear_account.proofs.QueueLemmas.{right_from}
use Rattle.clear_account.proofs.refill.walk.Given as goal

abbrev pub invariant-queues : goal.invariant-queues
invariant-queues l = record {
  charges : l.i ≤ length l.charges;
  credits : l.j ≤ length l.credits;
  owed : l.charge_start ≤ l.charged + 5000000000 * l.i;
  paid : l.credit_start ≤ l.credited + 100000000000 * l.j;
  turns : l.turns ≡ l.fn.turns + (l.i + l.j);
  count : length l.pieces.items ≤ l.i + l.j;
  fewer : 0 < length l.charges + length l.credits → l.i + l.j < length l.charges + length l.credits;
  right : l.pieces.items ++ right_from l.charge_start l.credit_start (drop l.i l.charges) (drop l.j l.credits) ≡ right_from l.charged l.credited l.charges l.credits;
}

abbrev pub decreases-queues : goal.decreases-queues
decreases-queues l = length l.charges + length l.credits - (l.i + l.j)
