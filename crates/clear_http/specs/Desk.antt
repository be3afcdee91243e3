-- What a desk may say.
use Rattle.std.specs.Prelude.{ℕ, List}
use Rattle.sqlite.specs.Store.{Ghosts}
use Rattle.clear_office.specs.Office.{AtOffice, IsHonest}
use Rattle.clear_answers.specs.declared.said.Said.{Said}
use Rattle.clear_callers.specs.Callers.{KeyOf}
use Rattle.clear_wire.specs.Head.{Heading}
use Rattle.clear_wire.specs.Stream.{NextItem}
use Rattle.clear_routes.specs.Reading.{Reads}
use Rattle.clear_http.specs.Guarded.{Admits}
use Rattle.clear_http.specs.Serve.{Responds}
use Rattle.clear_http.specs.Served.{RequestSteps}

module _ {S : Type 0} (g : Ghosts S) where
  -- what may be said to a request by these keys on a day, and what the office is then: where the
  -- disk has returned what was written so far it had before, the request goes over the book, and
  -- access guards it and the office
  abbrev pub MaySay : List KeyOf → ℕ → AtOffice S → Heading → List ℕ → Said → AtOffice S → Type 0
  MaySay keys day old heading body told new =
      (IsHonest g new → IsHonest g old)
      × RequestSteps g (Reads keys day) old heading body told new
      × Admits (Reads keys day) old heading body told new

  -- what the office may be when the requests of a stream were answered, whatever they were
  abbrev pub MayServe : List KeyOf → ℕ → AtOffice S → AtOffice S → Type 0
  MayServe keys day old new =
      (items : List NextItem) × (saids : List Said) × Responds (MaySay keys day) old items saids new
