-- What is answered to the requests of a stream over a new office. `reads` says which call a request is,
-- or what refuses it before the office sees it.
use Rattle.std.specs.Prelude.{◌≡◌, ◌⊎◌, ◌+◌, ◌++◌, ℕ, Bool, false, true, List, Option, Result, IfSome}
use Rattle.std.specs.Io.KnownBytes.{Appends}
use Rattle.clear_money.specs.Rates.{Rate}
use Rattle.clear_book.specs.declared.calls.Call.{Call}
use Rattle.clear_book.specs.Book.{Book, first_book}
use Rattle.clear_wire.specs.Cut.{BeginsCut}
use Rattle.clear_wire.specs.Head.{Heading}
use Rattle.clear_wire.specs.Limits.{read_limit, request_limit}
use Rattle.clear_wire.specs.Stream.{NextItem}
use Rattle.clear_routes.specs.declared.refused.Refused.{Refused}
use Rattle.clear_answers.specs.declared.said.Said.{Said}
use Rattle.clear_http.specs.Serve.{IsCutBy, answer_text}
use Rattle.clear_http.specs.Served.{ItemsTake}
use Rattle.clear_work.specs.Stops.{no_memory}
use Rattle.clear_work.specs.declared.stop.Stop.{Stop}
use Rattle.clear_work.specs.declared.stop.Stop.TheVariants as stop

-- why a stream isn't served to its end: for want of memory, where neither its reader nor its writer
-- failed; else since one of them failed, and then not the other, or since it took all reads that it may
-- make
abbrev pub IsCutShort : Bool → Bool → ℕ → ℕ → Stop → Type 0
IsCutShort reader_failed writer_failed reads_before reads_now why =
    ((why ≡ no_memory) × (reader_failed ≡ false) × (writer_failed ≡ false))
    ⊎ ((why ≡ stop.Stream) × (((reader_failed ≡ true) × (writer_failed ≡ false))
    ⊎ (((reader_failed ≡ false) × (writer_failed ≡ true))
    ⊎ ((reader_failed ≡ false) × (writer_failed ≡ false)
    × (reads_now ≡ reads_before + read_limit)))))

module _ (reads : Heading → List ℕ → Result Call Refused → Type 0) (rates : List Rate) where
  -- the machine takes each request in the bytes of a stream, one after another from the book without
  -- requests on, up to a fault of the store, and just its answers are written
  abbrev pub AnswersAll : Option (List ℕ) → Option (List ℕ) → Option (List ℕ) → Type 0
  AnswersAll bytes written written' =
      (items : List NextItem) × (saids : List Said) × (failed : Bool) × (last : Book)
      × IfSome bytes (λ bs. IsCutBy bs items saids)
      × ItemsTake reads false failed (first_book rates) items saids last
      × Appends written written' (answer_text request_limit items saids)

  -- up to a fault: the machine takes the first requests in these bytes, or none, and a front of their
  -- answers is written
  abbrev pub AnswersFront : Option (List ℕ) → Option (List ℕ) → Option (List ℕ) → Type 0
  AnswersFront bytes written written' =
      (items : List NextItem) × (saids : List Said) × (failed : Bool) × (last : Book)
      × IfSome bytes (λ bs. BeginsCut bs items)
      × ItemsTake reads false failed (first_book rates) items saids last
      × ((part : List ℕ) × (rest : List ℕ)
      × (answer_text request_limit items saids ≡ part ++ rest) × Appends written written' part)
