use Rattle.std.proofs.Common.{◌≡◌, take, List, None, nat_lt}
use Rattle.std.specs.List.{find}
use Rattle.clear_bank.specs.Newness.{new_places}
use Rattle.clear_bank.specs.declared.lines.BankLine.{BankLine}
use Rattle.clear_book.specs.Lines.{new_lines}
use Rattle.clear_rules.proofs.decide.import.check_values.Given as goal

abbrev pub invariant-loop-place : goal.invariant-loop-place
invariant-loop-place l = (known : List BankLine) → l.places ≡ new_places known l.lines
    → find (λ p. nat_lt l.day p.1.value) (take l.place-index (new_lines known l.lines)) ≡ None
