-- Which books a run leads to.
use Rattle.std.specs.Prelude.{List, [], false}
use Rattle.std.specs.List.{AllByRecursion}
use Rattle.clear_book.specs.declared.calls.Call.{Call}
use Rattle.clear_book.specs.declared.outcomes.Outcome.{Outcome}
use Rattle.clear_book.specs.Book.{Book}
use Rattle.clear_book.specs.Machine.{Runs}
use Rattle.clear_book.specs.Calls.{IsCall}

-- a run over calls whose values lie in their ranges leads to the book from the one without entries
abbrev pub IsReached : Book → Type 0
IsReached b =
    (calls : List Call) × (outcomes : List Outcome) × AllByRecursion IsCall calls
    × Runs false false (record { opening = b.opening; entries = [] }) calls outcomes b
