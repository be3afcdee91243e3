use Rattle.std.proofs.Common.{◌≡◌, ◌++◌, string_bytes, take}
use Rattle.std.specs.List.{flat_map}
use Rattle.clear_book.specs.Documents.Lines.{missing_line}
use Rattle.clear_texts.proofs.statement.append_missing_months.Given as goal

abbrev pub invariant-loop-month : goal.invariant-loop-month
invariant-loop-month l = string_bytes l.text ≡ string_bytes l.fn.text ++ flat_map missing_line (take l.month-index l.months)
