use Rattle.std.proofs.Common.{◌≢◌, ℕ, ◌<◌, length}
use Rattle.clear_account.specs.Account.{credit_at}
use Rattle.clear_kept.proofs.dated.find_serial.Given as goal

abbrev pub invariant-loop-place : goal.invariant-loop-place
invariant-loop-place l = Unit

abbrev pub invariant-loop-place-2 : goal.invariant-loop-place-2
invariant-loop-place-2 l = (k : ℕ) → k < l.place → k < length l.credits → (credit_at l.credits k).serial ≢ l.serial
