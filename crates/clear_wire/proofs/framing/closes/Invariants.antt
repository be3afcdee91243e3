use Rattle.std.proofs.Common.{◌≡◌, map, take}
use Rattle.std.specs.List.{list_any}
use Rattle.httparse.specs.Spans.{header_bytes}
use Rattle.clear_wire.specs.Framing.{is_closing}
use Rattle.clear_wire.proofs.framing.closes.Given as goal

abbrev pub invariant-loop-header : goal.invariant-loop-header
invariant-loop-header l = l.closes ≡ list_any is_closing (map (header_bytes l.buf) (take l.header-index l.headers))
