use Rattle.std.proofs.Common.{◌≡◌, ◌+◌, ◌-◌, ◌<◌, length, max}
use Rattle.std.specs.Io.KnownBytes.{Keeps}
use Rattle.clear_wire.specs.Input.{unread, unused_of, reads_made, failed_of, CountsReads, KeepsBorrow}
use Rattle.clear_wire.specs.Limits.{read_limit, chunk_size}
use Rattle.clear_wire.proofs.input.Input.fill.Given as goal

abbrev pub invariant-reads : goal.invariant-reads
invariant-reads g l = record {
  keeps : Keeps (unread g.R.Read.remaining l.fn.self) (unread g.R.Read.remaining l.self);
  ahead : length (unused_of l.self) < max (length (unused_of l.fn.self) + 1) (l.len + chunk_size);
  spent : reads_made l.fn.self ≡ read_limit → (reads_made l.self ≡ read_limit) × (unused_of l.self ≡ unused_of l.fn.self);
  failed : failed_of g.R.NotedRead.noted l.self ≡ failed_of g.R.NotedRead.noted l.fn.self;
  reads : CountsReads g.R.NotedRead.noted l.fn.self l.self;
  borrow : KeepsBorrow g.R.NotedRead.noted l.fn.self l.self;
}

abbrev pub decreases-reads : goal.decreases-reads
decreases-reads g l = read_limit - reads_made l.self
