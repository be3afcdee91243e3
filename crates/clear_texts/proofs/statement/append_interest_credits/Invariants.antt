use Rattle.std.proofs.Common.{◌≡◌, ◌++◌, string_bytes, take}
use Rattle.std.specs.List.{flat_map}
use Rattle.clear_book.specs.Documents.Lines.{interest_paid_line}
use Rattle.clear_texts.proofs.statement.append_interest_credits.Given as goal

abbrev pub invariant-loop-credit : goal.invariant-loop-credit
invariant-loop-credit l = string_bytes l.text ≡ string_bytes l.fn.text ++ flat_map interest_paid_line (take l.credit-index l.credits)
