use Rattle.std.proofs.Common.{◌≡◌, ◌-◌, ◌≤◌, ◌++◌, length, drop}
use Rattle.clear_account.specs.Account.{credited_up_to}
use Rattle.clear_account.proofs.SettledLemmas.{shares_from}
use Rattle.clear_account.proofs.settled.find_shares.Given as goal

abbrev pub invariant-loop-walk : goal.invariant-loop-walk
invariant-loop-walk l = record {
  charged : l.walk.charged ≡ l.end;
  place : l.walk.place ≤ length l.credits;
  credited : l.walk.credited ≡ credited_up_to l.credits l.walk.place;
  behind : l.walk.credited ≤ l.end;
  right : l.shares.items ++ shares_from l.start l.end l.walk.credited l.walk.place (drop l.walk.place l.credits) ≡ shares_from l.start l.end 0 0 l.credits;
}

abbrev pub decreases-loop-walk : goal.decreases-loop-walk
decreases-loop-walk l = length l.credits - l.walk.place
