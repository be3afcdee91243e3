-- What a call is answered of the tables of a lawful book, and by which faults it may fail.
use Rattle.std.specs.Prelude.{◌≡◌, ◌⊎◌}
use Rattle.clear_book.specs.declared.calls.Call.{Call}
use Rattle.clear_book.specs.declared.outcomes.Answer.{Answer}
use Rattle.clear_book.specs.declared.rules.Rule.{Rule}
use Rattle.clear_book.specs.declared.rules.Rule.TheVariants.{Memory}
use Rattle.clear_book.specs.Book.{Book}
use Rattle.clear_book.specs.Judge.{an_answer, a_refusal, judge}
use Rattle.clear_book.specs.Machine.{IsLawful}
use Rattle.clear_book.specs.Allocated.{Represents, StandsWeighed}
use Rattle.clear_book.specs.Tables.{Tables}
use Rattle.clear_schema.specs.declared.fault.Fault.{Fault}
use Rattle.clear_schema.specs.Faults.{IsOfDisk}

-- the judge gives the answer
abbrev pub Tells : Call → Tables → Answer → Type 0
Tells call t answer =
    (b : Book) → IsLawful b → Represents b t → judge b call ≡ an_answer answer

-- the judge's rule, or want of memory
abbrev pub Refuses : Call → Tables → Rule → Type 0
Refuses call t why =
    (b : Book) → IsLawful b → StandsWeighed b t → (why ≡ Memory) ⊎ (judge b call ≡ a_refusal why)

-- no key and no row is to blame
abbrev pub Fails : Tables → Fault → Type 0
Fails t fault = (b : Book) → IsLawful b → StandsWeighed b t → IsOfDisk fault

-- no key and no row is to blame where the pieces are right
abbrev pub FailsToTell : Tables → Fault → Type 0
FailsToTell t fault = (b : Book) → IsLawful b → Represents b t → IsOfDisk fault
