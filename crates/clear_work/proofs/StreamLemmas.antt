-- What is answered of a stream over a new office.
use Rattle.std.proofs.Common.{◌≡◌, ◌∙◌, ◌++◌, ℕ, Bool, false, List, [], Option, Some, None, Result, refl, sym, subst}
use Rattle.std.proofs.lemmas.List.{append-nil, append_assoc}
use Rattle.std.specs.Io.KnownBytes.{Appends}
use Rattle.std.specs.Prelude.{IfSome}
use Rattle.sqlite.specs.Store.{Ghosts}
use Rattle.clear_money.specs.Rates.{Rate}
use Rattle.clear_book.specs.Book.{first_book}
use Rattle.clear_book.specs.declared.calls.Call.{Call}
use Rattle.clear_office.specs.Office.{AtOffice}
use Rattle.clear_routes.specs.declared.refused.Refused.{Refused}
use Rattle.clear_wire.specs.Cut.{BeginsCut}
use Rattle.clear_wire.specs.Head.{Heading}
use Rattle.clear_http.specs.Served.{IsServed, IsServedPart, ItemsTake}
use Rattle.clear_http.specs.declared.serve.Served.{Served}
use Rattle.clear_work.specs.Streams.{AnswersAll, AnswersFront}

-- no item begins each stream
begins_so : (bytes : Option (List ℕ)) → IfSome bytes (λ bs. BeginsCut bs [])
begins_so None = tt
begins_so (Some bs) = (bs, refl)

appends_none : (written : Option (List ℕ)) → Appends written written []
appends_none None = tt
appends_none (Some xs) = sym (append-nil xs)

module _ (reads : Heading → List ℕ → Result Call Refused → Type 0) (rates : List Rate) (bytes written : Option (List ℕ)) where
  -- nothing was answered
  pub none_answered : AnswersFront reads rates bytes written written
  none_answered = ([], [], false, first_book rates, begins_so bytes, (refl, refl), ([], [], refl, appends_none written))

  module _ {S : Type 0} (g : Ghosts S) (old new : AtOffice S) (working : old.failed ≡ false) (written' : Option (List ℕ)) where
    -- so it is of an office that served it
    pub answered_so : (served : Served) → IsServed g reads old (first_book rates) bytes written written' new served → AnswersAll reads rates bytes written written'
    answered_so served it = (
      it.items,
      it.saids,
      new.failed,
      it.last,
      it.cut,
      subst (λ (failed : Bool). ItemsTake reads failed new.failed (first_book rates) it.items it.saids it.last) working it.takes,
      it.wrote,
    )

    pub part_answered : (answered : ℕ) → IsServedPart g reads old (first_book rates) bytes written written' new answered → AnswersFront reads rates bytes written written'
    part_answered answered it = (
      it.items ++ it.more,
      it.saids ++ it.more_said,
      new.failed,
      it.last,
      it.begins,
      subst (λ (failed : Bool). ItemsTake reads failed new.failed (first_book rates) (it.items ++ it.more) (it.saids ++ it.more_said) it.last) working it.takes,
      (_, it.rest, it.split ∙ sym (append_assoc _ it.part it.rest), it.wrote),
    )
