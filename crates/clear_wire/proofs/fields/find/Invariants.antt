use Rattle.std.proofs.Common.{◌≡◌, map, take}
use Rattle.httparse.specs.Spans.{header_bytes}
use Rattle.clear_wire.specs.Fields.{presence_found, field}
use Rattle.clear_wire.proofs.fields.find.Given as goal

abbrev pub invariant-loop-header : goal.invariant-loop-header
invariant-loop-header l = presence_found l.found ≡ field l.name (map (header_bytes l.buf) (take l.header-index l.headers))
