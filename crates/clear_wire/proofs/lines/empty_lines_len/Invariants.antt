use Rattle.std.proofs.Common.{length, ◌-◌, ◌≡◌, ◌≤◌, drop}
use Rattle.clear_wire.specs.Lines.{skip_empty_lines}
use Rattle.clear_wire.proofs.lines.empty_lines_len.Given as goal

abbrev pub invariant-loop-at : goal.invariant-loop-at
invariant-loop-at l = record { within : l.at ≤ length l.bytes; same : skip_empty_lines (drop l.at l.bytes) ≡ skip_empty_lines l.bytes }

abbrev pub decreases-loop-at : goal.decreases-loop-at
decreases-loop-at l = length l.bytes - l.at
