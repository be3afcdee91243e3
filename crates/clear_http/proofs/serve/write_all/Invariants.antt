use Rattle.std.proofs.Common.{◌≡◌, ◌≤◌, ◌-◌, length, take}
use Rattle.std.specs.Io.KnownBytes.{Appends}
use Rattle.clear_wire.specs.Counted.{inner, noted_of}
use Rattle.clear_http.proofs.serve.write_all.Given as goal

abbrev pub invariant-writes : goal.invariant-writes
invariant-writes g l = record {
  within : l.at ≤ length l.text;
  wrote : Appends (g.W.Write.contents (inner l.fn.writer)) (g.W.Write.contents (inner l.writer)) (take l.at l.text);
  noted : noted_of l.writer ≡ noted_of l.fn.writer;
}

abbrev pub decreases-writes : goal.decreases-writes
decreases-writes g l = length l.text - l.at
