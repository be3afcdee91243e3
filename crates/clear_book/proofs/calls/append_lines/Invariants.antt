use Rattle.std.proofs.Common.{◌≡◌, ◌++◌, drop}
use Rattle.clear_book.specs.Calls.{lines_text}
use Rattle.clear_book.proofs.calls.append_lines.Given as goal

abbrev pub invariant-loop-line : goal.invariant-loop-line
invariant-loop-line l =
    l.out.items ++ lines_text (drop l.line-index l.lines) ≡ l.fn.out.items ++ lines_text l.lines
