use Rattle.std.proofs.Common.{◌≡◌, take}
use Rattle.clear_values.specs.Credits.{credits_of_lines}
use Rattle.clear_store.proofs.new_credits.credits_of_rows.Given as goal

abbrev pub invariant-loop-row : goal.invariant-loop-row
invariant-loop-row l = l.credits.items ≡ credits_of_lines (take l.row-index l.rows)
