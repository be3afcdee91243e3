use Rattle.std.proofs.Common.{◌≡◌, ◌++◌, string_bytes, take}
use Rattle.std.specs.List.{flat_map}
use Rattle.clear_book.specs.Documents.Worker.{earned_line}
use Rattle.clear_texts.proofs.worker.append_earned.Given as goal

abbrev pub invariant-loop-line : goal.invariant-loop-line
invariant-loop-line l = string_bytes l.text ≡ string_bytes l.fn.text ++ flat_map earned_line (take l.line-index l.lines)
