use Rattle.std.proofs.Common.{◌≡◌, ℕ, ◌+◌, ◌≤◌, ◌<◌, ◌-◌, length, take, max, Some}
use Rattle.clear_wire.specs.Input.{unread, unused_of, reads_made, failed_of, CountsReads, KeepsBorrow}
use Rattle.clear_wire.specs.Known.{Leads}
use Rattle.clear_wire.specs.Lines.{skip_empty_lines, head_len, HasNoEndBefore}
use Rattle.clear_wire.specs.Limits.{head_limit, read_limit, chunk_size}
use Rattle.clear_wire.proofs.input.Input.find_end.Given as goal

abbrev pub invariant-reads : goal.invariant-reads
invariant-reads g l = record {
  same : Leads (λ old new. skip_empty_lines new ≡ skip_empty_lines old) (unread g.R.Read.remaining l.fn.self) (unread g.R.Read.remaining l.self);
  none_left : skip_empty_lines (unused_of l.self) ≡ unused_of l.self;
  begun : 2 ≤ length (unused_of l.self);
  within : l.searched ≤ length (take head_limit (unused_of l.self));
  none_before : HasNoEndBefore l.searched (take head_limit (unused_of l.self));
  ahead_head : (n : ℕ) → head_len (take head_limit (unused_of l.self)) ≡ Some n
      → length (unused_of l.self) < max (length (unused_of l.fn.self) + 1) (n + chunk_size);
  ahead : length (unused_of l.self) < max (length (unused_of l.fn.self) + 1) (head_limit + chunk_size);
  failed : failed_of g.R.NotedRead.noted l.self ≡ failed_of g.R.NotedRead.noted l.fn.self;
  reads : CountsReads g.R.NotedRead.noted l.fn.self l.self;
  borrow : KeepsBorrow g.R.NotedRead.noted l.fn.self l.self;
}

abbrev pub decreases-reads : goal.decreases-reads
decreases-reads g l = read_limit - reads_made l.self
