use Rattle.std.proofs.Common.{◌≡◌, drop}
use Rattle.clear_bank_check.specs.Hints.{is_of_shape}
use Rattle.clear_bank_check.proofs.hints.is_of_shape.Given as goal

abbrev pub invariant-loop-place : goal.invariant-loop-place
invariant-loop-place l = is_of_shape l.shape l.text ≡ is_of_shape (drop l.place l.shape) (drop l.place l.text)
