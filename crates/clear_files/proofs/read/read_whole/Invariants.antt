use Rattle.std.proofs.Common.{◌≡◌, ◌-◌, length}
use Rattle.std.specs.Io.KnownBytes.{Consumes}
use Rattle.clear_wire.specs.Counted.{has_failed, inner}
use Rattle.clear_files.proofs.read.read_whole.Given as goal

abbrev pub invariant-reads : goal.invariant-reads
invariant-reads g l = record {
  well : has_failed l.reader ≡ has_failed l.fn.reader;
  taken : Consumes (g.R.Read.remaining (inner l.fn.reader)) (g.R.Read.remaining (inner l.reader)) l.bytes.items;
}

abbrev pub decreases-reads : goal.decreases-reads
decreases-reads g l = 4194305 - length l.bytes.items
