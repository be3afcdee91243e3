-- What work does to an office that was opened, what is said of it at the end, and what is told before.
use Rattle.std.specs.Prelude.{◌≡◌, ◌⊎◌, ℕ, List, Option, Result, Ok, Err, IfErr, IfOk, false}
use Rattle.sqlite.specs.Store.{Ghosts}
use Rattle.clear_book.specs.declared.calls.Call.{Call}
use Rattle.clear_book.specs.declared.calls.Call.TheVariants.{Do, Ask}
use Rattle.clear_book.specs.declared.calls.Caller.TheVariants.{Clerk}
use Rattle.clear_book.specs.declared.calls.Query.TheVariants as query
use Rattle.clear_book.specs.declared.outcomes.Answer.TheVariants.{Text}
use Rattle.clear_book.specs.declared.outcomes.Outcome.{Outcome}
use Rattle.clear_book.specs.declared.outcomes.Outcome.TheVariants.{Replied, Answered, Refused}
use Rattle.clear_book.specs.declared.outcomes.Reply.TheVariants.{Imported}
use Rattle.clear_book.specs.declared.rules.Rule.TheVariants as rules
use Rattle.clear_book.specs.declared.rules.StoreCause.TheVariants.{Other, Row}
use Rattle.clear_office.specs.Office.{AtOffice, Acts, StaysFailed}
use Rattle.clear_callers.specs.Callers.{KeyOf}
use Rattle.clear_routes.specs.Reading.{Reads}
use Rattle.clear_cli.specs.Ready.{copied_line, imported_line, ready_text, served_line}
use Rattle.clear_files.specs.Names.{is_of_another_use}
use Rattle.clear_server.specs.Talks.{AreServed}
use Rattle.clear_server.specs.Told.{AreTold, Writes, Written}
use Rattle.clear_server.specs.declared.connections.Ended.{Ended}
use Rattle.clear_server.specs.declared.connections.Ended.TheVariants.{NoConnections, Served, StoreGone}
use Rattle.clear_work.specs.Stops.{IsOfFile, no_memory}
use Rattle.clear_work.specs.declared.stop.Stop.{Stop}
use Rattle.clear_work.specs.declared.stop.Stop.TheVariants as stop
use Rattle.clear_work.specs.declared.work.Work.{Work}
use Rattle.clear_work.specs.declared.work.Work.TheVariants as work

-- what the outcome of an import has said: the counts of the reply, or the rule; of any other answer,
-- that the records hold what they can't
abbrev pub import_said : Outcome → Result (List ℕ) Stop
import_said (Replied (Imported new repeats)) = Ok (imported_line new repeats)
import_said (Refused rule) = Err (stop.Rule rule)
import_said outcome = Err (stop.Rule (rules.Store Row))

-- what the answer to a statement has said: the document, or the rule; of any other answer the same
abbrev pub statement_said : Outcome → Result (List ℕ) Stop
statement_said (Answered (Text document)) = Ok document
statement_said (Refused rule) = Err (stop.Rule rule)
statement_said outcome = Err (stop.Rule (rules.Store Row))

-- what the end of serving has said: how many connections were served, or why no more
abbrev pub serving_said : ℕ → Ended → Result (List ℕ) Stop
serving_said count Served = Ok (served_line count)
serving_said count StoreGone = Err (stop.Rule (rules.Store Other))
serving_said count NoConnections = Err stop.Net

-- there was no memory, the store isn't where it was opened, or the port can't be bound
abbrev pub CannotServe : Stop → Type 0
CannotServe why =
    (why ≡ no_memory) ⊎ ((why ≡ stop.Rule (rules.Store Other)) ⊎ (why ≡ stop.Net))

-- there was no memory, the copy can't be made, or the store's own file isn't the whole store
abbrev pub CannotCopy : Stop → Type 0
CannotCopy why = IsOfFile why ⊎ (why ≡ stop.Rule (rules.Store Other))

module _ {A : Type 0} (bytes : A → List ℕ) where
  -- this is said, or that there was no memory for it
  abbrev pub IsSaid : Result (List ℕ) Stop → Result A Stop → Type 0
  IsSaid right (Ok text) = right ≡ Ok (bytes text)
  IsSaid right (Err why) = (why ≡ no_memory) ⊎ (right ≡ Err why)

  -- this line is said of a copy with a name of its own, or why it can't be made
  abbrev pub IsCopied : List ℕ → Option ℕ → Result A Stop → Type 0
  IsCopied name ledger_day result =
      IfOk result (λ text. (is_of_another_use name ≡ false) × (bytes text ≡ copied_line ledger_day))
      × IfErr result CannotCopy

  module _ {S : Type 0} (g : Ghosts S) (old new : AtOffice S) (result : Result A Stop) where
    -- a call goes as the machine takes it, and this is said of its outcome
    abbrev pub IsDone : Call → (Outcome → Result (List ℕ) Stop) → Type 0
    IsDone call said =
        (outcome : Outcome) × Acts g old call outcome new × IsSaid (said outcome) result

    -- of so many connections those were served that came before serving ended, and how it ended is
    -- said
    abbrev pub AreAllServed : List KeyOf → ℕ → ℕ → Type 0
    AreAllServed keys day count =
        (ended : Ended) × AreServed g (Reads keys day) ended count old new × StaysFailed old new
        × IsSaid (serving_said count ended) result

    -- that connections are taken is told, and what is to be told of them behind it
    abbrev pub TellsServing : ℕ → ℕ → ℕ → Option ℕ → Written → Written → Type 0
    TellsServing day port count ledger_day told told' =
        (mid : Written) × Writes (ready_text port day ledger_day) told mid
        × AreTold count old.failed new.failed mid told'

    -- none could be served, and why is said; nothing is told
    abbrev pub NoneServed : Written → Written → Type 0
    NoneServed told told' =
        (new ≡ old) × (told' ≡ told) × ((why : Stop) × CannotServe why × (result ≡ Err why))

    -- what a piece of work does to an office with this ledger day, what is said of it, and what is
    -- told meanwhile
    abbrev pub Works : Option ℕ → Written → Written → Work → Type 0
    Works ledger_day told told' (work.Serve directory day port count) =
        (AreAllServed directory day count × TellsServing day port count ledger_day told told')
        ⊎ NoneServed told told'
    Works ledger_day told told' (work.Import day number command) =
        IsDone (Do Clerk number day command) import_said × (told' ≡ told)
    Works ledger_day told told' (work.Statement day employer) =
        IsDone (Ask Clerk day (query.Statement employer)) statement_said × (told' ≡ told)
    Works ledger_day told told' (work.Backup copy) =
        (new ≡ old) × IsCopied copy.now ledger_day result × (told' ≡ told)
