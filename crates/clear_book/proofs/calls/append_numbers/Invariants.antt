use Rattle.std.proofs.Common.{◌≡◌, ◌++◌, drop}
use Rattle.clear_book.specs.Calls.{numbers_text}
use Rattle.clear_book.proofs.calls.append_numbers.Given as goal

abbrev pub invariant-loop-number : goal.invariant-loop-number
invariant-loop-number l =
    l.out.items ++ numbers_text (drop l.number-index l.numbers) ≡ l.fn.out.items ++ numbers_text l.numbers
