-- Of a desk: what is served by what it says, over a book, and whatever the records hold.
use Rattle.std.proofs.Common.{◌≡◌, ◌∙◌, ℕ, inl, inr, Bool, true, false, true≢false, List, [], ◌++◌, Option, Result, Ok, Err, IfOk, IfErr, refl, sym, ap, subst}
use Rattle.sqlite.specs.Store.{Ghosts}
use Rattle.clear_book.specs.declared.calls.Call.{Call}
use Rattle.clear_book.specs.declared.outcomes.Outcome.{Outcome}
use Rattle.clear_book.specs.declared.outcomes.Outcome.TheVariants.{Refused}
use Rattle.clear_book.specs.declared.rules.Rule.TheVariants.{Failed, Memory, NotYours}
use Rattle.clear_book.specs.Book.{Book}
use Rattle.clear_book.specs.Machine.{IsLawful, is_allowed}
use Rattle.clear_office.specs.Office.{Acts, AtOffice, IsHonest, Keeps, MayLeave, Steps, TellsStoreFault, answered}
use Rattle.clear_answers.specs.Said.{refused_by, said_of}
use Rattle.clear_callers.specs.Callers.{KeyOf}
use Rattle.clear_routes.specs.Reading.{Reads}
use Rattle.clear_http.specs.Desk.{MaySay, MayServe}
use Rattle.clear_http.specs.Guarded.{Guards}
use Rattle.clear_wire.specs.Head.{Heading}
use Rattle.clear_http.specs.Serve.{ends_stream, Serves, ServesPart, was_done}
use Rattle.clear_http.specs.declared.serve.ServeFault.{ServeFault}
use Rattle.clear_http.specs.declared.serve.Served.{Served}
use Rattle.clear_http.specs.Served.{IsServed, IsServedPart}
use Rattle.clear_http.proofs.GuardedLemmas.{guards_call, serves_as, serves_part_as, stays_unless}
use Rattle.clear_http.proofs.ServeLemmas.{not_ending}
use Rattle.clear_http.proofs.ServedLemmas.{goes_on_undone, served, served_part}

-- what the office does with a call
pub record Taken {S : Type 0} (g : Ghosts S) (old : AtOffice S) (call : Call) (outcome : Outcome) (new : AtOffice S) : Type 0 where
  pub acts : Acts g old call outcome new
  pub clean : IsHonest g new → IsHonest g old
  pub access : old.failed ≡ false → is_allowed call ≡ false → (outcome ≡ Refused NotYours) × (new ≡ old)
  pub told : old.failed ≡ false → new.failed ≡ true → TellsStoreFault outcome

-- so it is by what the office says of a call that it takes
pub taken_by : {S : Type 0} (g : Ghosts S) (old : AtOffice S) (call : Call) (outcome : Outcome) (new : AtOffice S)
    → Steps g old call outcome new → MayLeave g old call new → (IsHonest g new → IsHonest g old)
    → (old.failed ≡ false → is_allowed call ≡ false → (outcome ≡ Refused NotYours) × (new ≡ old))
    → (old.failed ≡ false → new.failed ≡ true → TellsStoreFault outcome)
    → (old.failed ≡ true → (outcome ≡ Refused Failed) × (new ≡ old))
    → Taken g old call outcome new
taken_by g old call outcome new steps leaves clean access told failed = record {
  acts = record { steps = steps; leaves = leaves; stays = λ was. (failed was).1 };
  clean = clean;
  access = access;
  told = told;
}

-- so much may be said to the request that reads as it
module _ {S : Type 0} (g : Ghosts S) (keys : List KeyOf) (day : ℕ) (heading : Heading) (body : List ℕ) (old new : AtOffice S) (call : Call) (outcome : Outcome)
    (here : Reads keys day heading body (Ok call)) (taken : Taken g old call outcome new) where
  stays : is_allowed call ≡ false → new ≡ old
  stays denied = by old.failed refl
    where
      by : (f : Bool) → old.failed ≡ f → new ≡ old
      by false is = (taken.access is denied).1
      by true is = taken.acts.stays is

  goes_on : old.failed ≡ false → ends_stream (said_of outcome) ≡ false → new.failed ≡ false
  goes_on working none = by new.failed refl
    where
      by : (f : Bool) → new.failed ≡ f → new.failed ≡ false
      by false is = is
      by true is = absurd (true≢false (sym (ap (λ (o : Outcome). ends_stream (said_of o)) (taken.told working is).1) ∙ none))

  pub call_said : MaySay g keys day old heading body (said_of outcome) new
  call_said = (
    taken.clean,
    inl (Ok call, here, (outcome, refl, taken.acts)),
    (
      guards_call keys day heading body old.failed call (said_of outcome) new.failed here (λ working denied. ap said_of (taken.access working denied).0) goes_on,
      stays_unless keys day heading body old new call here stays,
    ),
  )

  pub call_forgotten : was_done (said_of outcome) ≡ false → MaySay g keys day old heading body (refused_by Memory) new
  call_forgotten none = (
    taken.clean,
    inr (refl, goes_on_undone g old new call outcome none taken.acts.steps, taken.acts.stays),
    (
      (λ working. ((λ call there denied. inr refl), λ _. goes_on working (not_ending (said_of outcome) none))),
      stays_unless keys day heading body old new call here stays,
    ),
  )

module _ {S : Type 0} (g : Ghosts S) (keys : List KeyOf) (day : ℕ) where
  pub desk_served : (old : AtOffice S) → old.failed ≡ false → (bytes written written' : Option (List ℕ)) (new : AtOffice S) (done : Served)
      → Serves (MaySay g keys day) old bytes written written' new done
      → IsHonest g new → (b : Book) → IsLawful b → Keeps g old b
      → IsServed g (Reads keys day) old b bytes written written' new done
  desk_served = served g (Reads keys day) (MaySay g keys day) (λ old heading body told new said. (said.0, said.1))

  pub desk_served_part : (old : AtOffice S) → old.failed ≡ false → (bytes written written' : Option (List ℕ)) (new : AtOffice S) (answered : ℕ)
      → ServesPart (MaySay g keys day) old bytes written written' new answered
      → IsHonest g new → (b : Book) → IsLawful b → Keeps g old b
      → IsServedPart g (Reads keys day) old b bytes written written' new answered
  desk_served_part = served_part g (Reads keys day) (MaySay g keys day) (λ old heading body told new said. (said.0, said.1))

  abbrev failed_of : AtOffice S → Bool
  failed_of office = office.failed

  pub desk_guarded : (old : AtOffice S) → old.failed ≡ false → (bytes written written' : Option (List ℕ)) (new : AtOffice S) (done : Served)
      → Serves (MaySay g keys day) old bytes written written' new done
      → Serves (Guards (Reads keys day)) false bytes written written' new.failed done
  desk_guarded old working bytes written written' new done all =
      subst (λ (f : Bool). Serves (Guards (Reads keys day)) f bytes written written' new.failed done) working
      (serves_as failed_of (MaySay g keys day) (Guards (Reads keys day)) (λ old heading body told new said. said.2.0) old bytes written written' new done all)

  pub desk_guarded_part : (old : AtOffice S) → old.failed ≡ false → (bytes written written' : Option (List ℕ)) (new : AtOffice S) (answered : ℕ)
      → ServesPart (MaySay g keys day) old bytes written written' new answered
      → ServesPart (Guards (Reads keys day)) false bytes written written' new.failed answered
  desk_guarded_part old working bytes written written' new answered all =
      subst (λ (f : Bool). ServesPart (Guards (Reads keys day)) f bytes written written' new.failed answered) working
      (serves_part_as failed_of (MaySay g keys day) (Guards (Reads keys day)) (λ old heading body told new said. said.2.0) old bytes written written' new answered all)

  -- ---- what was said, without the bytes

  pub nothing_said : (old new : AtOffice S) → new ≡ old → MayServe g keys day old new
  nothing_said old new same = ([], [], same)

  pub said_all : (old : AtOffice S) (bytes written written' : Option (List ℕ)) (new : AtOffice S) (r : Result Served ServeFault)
      → IfOk r (λ served. Serves (MaySay g keys day) old bytes written written' new served)
      → IfErr r (λ fault. ServesPart (MaySay g keys day) old bytes written written' new fault.answered)
      → MayServe g keys day old new
  said_all old bytes written written' new (Ok served) all part = (all.items, all.saids, all.runs)
  said_all old bytes written written' new (Err fault) all part = (part.items ++ part.last, part.saids ++ part.last_said, part.runs)
