use Rattle.std.proofs.Common.{◌≡◌, ◌+◌, take, List}
use Rattle.clear_bank.specs.Newness.{new_places}
use Rattle.clear_bank.specs.declared.lines.BankLine.{BankLine}
use Rattle.clear_book.specs.Lines.{new_lines, rows_from}
use Rattle.clear_rules.specs.Counts.{is_indexed}
use Rattle.clear_rules.proofs.decide.import.new_rows.Given as goal

abbrev pub invariant-loop-place : goal.invariant-loop-place
invariant-loop-place l = (l.serial ≡ l.fn.serials + l.place-index) × ((known : List BankLine) → l.places ≡ new_places known l.lines
    → l.rows.items ≡ rows_from (is_indexed l.index) l.fn.serials (take l.place-index (new_lines known l.lines)))
