use Rattle.std.proofs.Common.{◌≡◌, ◌↔◌, length, map}
use Rattle.sqlite_value.specs.Keys.{plain}
use Rattle.clear_rows.specs.declared.laid.KeyLayout.{KeyLayout}
use Rattle.clear_rows.proofs.laid.are_plain.Given as goal

abbrev pub invariant-loop-keys : goal.invariant-loop-keys
invariant-loop-keys l = (l.orders ≡ map (λ (key : KeyLayout). plain) l.keys) ↔ (l.fn.orders ≡ map (λ (key : KeyLayout). plain) l.fn.keys)

abbrev pub decreases-loop-keys : goal.decreases-loop-keys
decreases-loop-keys l = length l.keys
