use Rattle.std.proofs.Common.{◌≡◌, drop}
use Rattle.clear_wire.specs.Lines.{head_end}
use Rattle.clear_wire.proofs.lines.head_len.Given as goal

abbrev pub invariant-loop-i : goal.invariant-loop-i
invariant-loop-i l = head_end l.i (drop l.i l.bytes) ≡ head_end 0 l.bytes
