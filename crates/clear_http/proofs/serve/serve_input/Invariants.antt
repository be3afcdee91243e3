use Rattle.std.proofs.Common.{◌≡◌, ◌+◌, ◌≤◌}
use Rattle.clear_wire.specs.Counted.{inner, has_failed}
use Rattle.clear_wire.specs.Input.{stream, reader_of, failed_of, CountsReads}
use Rattle.clear_http.specs.Ahead.{HoldsFew}
use Rattle.clear_http.specs.Serve.{Progress}
use Rattle.clear_http.proofs.serve.serve_input.Given as goal

abbrev pub invariant-turns : goal.invariant-turns
invariant-turns g l = record {
  progress : Progress (g.H.Responder.responds l.fn.responder) l.fn.state (stream g.R.Read.remaining l.fn.input) (stream g.R.Read.remaining l.input) (g.W.Write.contents (inner l.fn.writer)) (g.W.Write.contents (inner l.writer)) l.left l.state (record { requests = l.requests; by_rule = l.by_rule });
  held : HoldsFew l.fn.input → HoldsFew l.input;
  borrow : (g.R.NotedRead.noted (reader_of l.input)).borrow ≡ (g.R.NotedRead.noted (reader_of l.fn.input)).borrow;
  counts : CountsReads g.R.NotedRead.noted l.fn.input l.input;
  reader : failed_of g.R.NotedRead.noted l.input ≡ failed_of g.R.NotedRead.noted l.fn.input;
  writer : has_failed l.writer ≡ has_failed l.fn.writer;
  few : l.requests + l.left ≤ 1000;
}

abbrev pub decreases-turns : goal.decreases-turns
decreases-turns g l = l.left
