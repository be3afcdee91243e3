-- What work has to say at its end, by what it did.
use Rattle.std.proofs.Common.{◌≡◌, ◌∙◌, ◌⊎◌, ℕ, Bool, true, false, List, [], Option, Result, Ok, Err, inl, inr, refl, sym, ap, subst}
use Rattle.std.proofs.lemmas.Result.{IfErr-weaker, IfOk-weaker}
use Rattle.std.specs.Prelude.{IfErr, IfOk}
use Rattle.sqlite.specs.Store.{Ghosts}
use Rattle.sqlite_wal.specs.Recovery.{Image}
use Rattle.clear_book.specs.declared.outcomes.Answer.TheVariants.{Owed, Text}
use Rattle.clear_book.specs.declared.outcomes.Outcome.{Outcome}
use Rattle.clear_book.specs.declared.outcomes.Outcome.TheVariants.{Replied, Answered, Refused}
use Rattle.clear_book.specs.declared.outcomes.Reply.TheVariants as reply
use Rattle.clear_book.specs.declared.rules.Rule.{Rule}
use Rattle.clear_book.specs.declared.rules.Rule.TheVariants as rules
use Rattle.clear_book.specs.declared.rules.StoreCause.TheVariants.{Row}
use Rattle.clear_money.specs.Rates.{Rate}
use Rattle.clear_office.specs.Office.{AtOffice}
use Rattle.clear_cli.specs.Ready.{imported_line, served_line}
use Rattle.clear_host.specs.declared.offices.Opened.{Opened}
use Rattle.clear_server.specs.declared.connections.Ended.{Ended}
use Rattle.clear_server.specs.declared.connections.Ended.TheVariants.{NoConnections, Served, StoreGone}
use Rattle.clear_server.specs.Told.{Written}
use Rattle.clear_work.specs.Stops.{IsOfFile, IsOfStore, by_store, no_memory}
use Rattle.clear_work.specs.Works.{CannotServe, IsSaid, Works, import_said, serving_said, statement_said}
use Rattle.clear_work.specs.declared.stop.Stop.{Stop}
use Rattle.clear_work.specs.declared.stop.Stop.TheVariants as stop
use Rattle.clear_work.specs.declared.work.Work.{Work}
use Rattle.clear_work.specs.declared.work.Work.TheVariants as work
use Rattle.clear_program.specs.Ends.{CannotWork, SaysDone, TellsOf}
use Rattle.clear_program.specs.Made.{Makes}
use Rattle.clear_program.specs.Opening.{WorksOn}
use Rattle.clear_program.specs.declared.opening.Unopened.{Unopened}
use Rattle.clear_program.specs.declared.opening.Whole.{Whole}

-- the text that is said, and why none is
abbrev text_in : Result (List ℕ) Stop → List ℕ
text_in (Ok text) = text
text_in (Err why) = []

abbrev why_in : Result (List ℕ) Stop → Stop
why_in (Ok text) = stop.Net
why_in (Err why) = why

-- ---- which texts may be said, and why none is

abbrev IsRule : Stop → Type 0
IsRule why = (rule : Rule) × (why ≡ stop.Rule rule)

-- counts are said, or a rule
abbrev IsImport : Result (List ℕ) Stop → Type 0
IsImport right = ((new : ℕ) × (repeats : ℕ) × (right ≡ Ok (imported_line new repeats))) ⊎ ((rule : Rule) × (right ≡ Err (stop.Rule rule)))

import_is : (outcome : Outcome) → IsImport (import_said outcome)
import_is (Replied reply.Done) = inr (rules.Store Row, refl)
import_is (Replied (reply.Imported new repeats)) = inl (new, repeats, refl)
import_is (Replied (reply.Reported version charge)) = inr (rules.Store Row, refl)
import_is (Replied (reply.Claimed claim)) = inr (rules.Store Row, refl)
import_is (Replied (reply.Released settlement)) = inr (rules.Store Row, refl)
import_is (Replied (reply.Listed list items total)) = inr (rules.Store Row, refl)
import_is (Replied (reply.Reminded run firms)) = inr (rules.Store Row, refl)
import_is (Answered answer) = inr (rules.Store Row, refl)
import_is (Refused rule) = inr (rule, refl)

-- a document is said, or a rule
abbrev IsStatement : Result (List ℕ) Stop → Type 0
IsStatement right = ((document : List ℕ) × (right ≡ Ok document)) ⊎ ((rule : Rule) × (right ≡ Err (stop.Rule rule)))

statement_is : (outcome : Outcome) → IsStatement (statement_said outcome)
statement_is (Replied reply) = inr (rules.Store Row, refl)
statement_is (Answered (Text document)) = inl (document, refl)
statement_is (Answered (Owed charged credited arrears prepaid)) = inr (rules.Store Row, refl)
statement_is (Refused rule) = inr (rule, refl)

module _ {A : Type 0} (bytes : A → List ℕ) where
  import_so : (result : Result A Stop) (right : Result (List ℕ) Stop) → IsImport right → IsSaid bytes right result
      → IfOk result (λ it. (new : ℕ) × (repeats : ℕ) × (bytes it ≡ imported_line new repeats)) × IfErr result IsRule
  import_so (Ok it) right (inl (new, repeats, is)) said = ((new, repeats, ap text_in (sym said ∙ is)), tt)
  import_so (Ok it) right (inr (rule, is)) said = absurd (cc (sym said ∙ is))
  import_so (Err why) right which (inl none) = (tt, (rules.Memory, none))
  import_so (Err why) right (inl (new, repeats, is)) (inr said) = absurd (cc (sym said ∙ is))
  import_so (Err why) right (inr (rule, is)) (inr said) = (tt, (rule, ap why_in (sym said ∙ is)))

  statement_so : (result : Result A Stop) (right : Result (List ℕ) Stop) → IsStatement right → IsSaid bytes right result → IfErr result IsRule
  statement_so (Ok it) right which said = tt
  statement_so (Err why) right which (inl none) = (rules.Memory, none)
  statement_so (Err why) right (inl (document, is)) (inr said) = absurd (cc (sym said ∙ is))
  statement_so (Err why) right (inr (rule, is)) (inr said) = (rule, ap why_in (sym said ∙ is))

  serve_so : (count : ℕ) (ended : Ended) (result : Result A Stop) → IsSaid bytes (serving_said count ended) result
      → IfOk result (λ it. bytes it ≡ served_line count) × IfErr result CannotServe
  serve_so count Served (Ok it) said = (sym (ap text_in said), tt)
  serve_so count StoreGone (Ok it) said = absurd (cc said)
  serve_so count NoConnections (Ok it) said = absurd (cc said)
  serve_so count ended (Err why) (inl none) = (tt, inl none)
  serve_so count Served (Err why) (inr said) = absurd (cc said)
  serve_so count StoreGone (Err why) (inr said) = (tt, inr (inl (sym (ap why_in said))))
  serve_so count NoConnections (Err why) (inr said) = (tt, inr (inr (sym (ap why_in said))))

  -- what work that is done says, and why it isn't done
  abbrev Says : Work → Result A Stop → Type 0
  Says work result = IfOk result (λ it. SaysDone work (bytes it)) × IfErr result (CannotWork work)

  abbrev pub MaySayOf : Work → Result A Stop → Type 0
  MaySayOf work result = IfOk result (λ it. SaysDone work (bytes it)) × IfErr result (λ why. IsOfStore why ⊎ CannotWork work why)

  statement_any : (day employer : ℕ) (result : Result A Stop) → IfErr result IsRule → Says (work.Statement day employer) result
  statement_any day employer (Ok it) why = (tt, tt)
  statement_any day employer (Err reason) why = (tt, why)

  module _ {S : Type 0} (g : Ghosts S) where
    works_say : (old new : AtOffice S) (result : Result A Stop) (ledger_day : Option ℕ) (told told' : Written) (work : Work)
        → Works bytes g old new result ledger_day told told' work → Says work result
    works_say old new result ledger_day told told' (work.Serve directory day port count) (inl (served, telling)) = serve_so count served.0 result served.3
    works_say old new result ledger_day told told' (work.Serve directory day port count) (inr none) =
        subst (λ (r : Result A Stop). Says (work.Serve directory day port count) r) (sym none.2.2) (tt, none.2.1)
    works_say old new result ledger_day told told' (work.Import day number command) (done, same) = import_so result (import_said done.0) (import_is done.0) done.2
    works_say old new result ledger_day told told' (work.Statement day employer) (done, same) =
        statement_any day employer result (statement_so result (statement_said done.0) (statement_is done.0) done.2)
    works_say old new result ledger_day told told' (work.Backup copy) (same, copied, quiet) =
        (IfOk-weaker result _ _ (λ it is. (is.0, (ledger_day, is.1))) copied.0, copied.1)

    works_tell : (old new : AtOffice S) (result : Result A Stop) (ledger_day : Option ℕ) (told told' : Written) (work : Work)
        → Works bytes g old new result ledger_day told told' work → TellsOf work told told'
    works_tell old new result ledger_day told told' (work.Serve directory day port count) (inl (served, telling)) =
        inr (ledger_day, telling.0, telling.1, (old.failed, new.failed, telling.2))
    works_tell old new result ledger_day told told' (work.Serve directory day port count) (inr none) = inl none.1
    works_tell old new result ledger_day told told' (work.Import day number command) (done, same) = same
    works_tell old new result ledger_day told told' (work.Statement day employer) (done, same) = same
    works_tell old new result ledger_day told told' (work.Backup copy) (same, copied, quiet) = quiet

    nothing_told : (told told' : Written) (work : Work) → told' ≡ told → TellsOf work told told'
    nothing_told told told' (work.Serve directory day port count) same = inl same
    nothing_told told told' (work.Import day number command) same = same
    nothing_told told told' (work.Statement day employer) same = same
    nothing_told told told' (work.Backup copy) same = same

    or_store : (work : Work) (result : Result A Stop) → Says work result → MaySayOf work result
    or_store work (Ok it) says = (says.0, tt)
    or_store work (Err why) says = (tt, inr says.1)

    -- work on a store that was opened, or wasn't
    pub worked : (whole : Result (Whole S) Unopened) (result : Result A Stop) (told told' : Written) (work : Work)
        → WorksOn g bytes whole result told told' work → MaySayOf work result × TellsOf work told told'
    worked (Ok whole) result told told' work (done, none) = (
      or_store work result (works_say whole.opened.office done.0 result whole.opened.ledger_day told told' work done.1),
      works_tell whole.opened.office done.0 result whole.opened.ledger_day told told' work done.1,
    )
    worked (Err why) result told told' work (done, none) = (
      subst (λ (r : Result A Stop). MaySayOf work r) (sym none.0) (tt, inl (why.fault, refl)),
      nothing_told told told' work none.1,
    )

module _ {A M E : Type 0} (bytes : A → List ℕ) (line : List ℕ) (stop_by : E → Stop) (P : Stop → Type 0) where
  -- a line is said of what was made, or why it wasn't
  pub said_so : (made : Result M E) (result : Result A Stop) → P no_memory → IfOk made (λ _. IsSaid bytes (Ok line) result)
      → IfErr made (λ e. result ≡ Err (stop_by e)) → IfErr made (λ e. P (stop_by e)) → IfOk result (λ it. bytes it ≡ line) × IfErr result P
  said_so (Ok it) (Ok text) none said refused why = (sym (ap text_in said), tt)
  said_so (Ok it) (Err reason) none (inl is) refused why = (tt, subst P (sym is) none)
  said_so (Ok it) (Err reason) none (inr is) refused why = absurd (cc is)
  said_so (Err e) result none said is why = subst (λ (r : Result A Stop). IfOk r (λ it. bytes it ≡ line) × IfErr r P) (sym is) (tt, why)

-- why no store is made
abbrev pub IsUnmade : Stop → Type 0
IsUnmade why = IsOfFile why ⊎ IsOfStore why

pub unmade : {S : Type 0} (g : Ghosts S) (image : Image) (left : Bool) (rates : List Rate) (made : Result (Opened S) Stop)
    → Makes g image left rates made → IfErr made IsUnmade
unmade g image true rates made is = subst (λ r. IfErr r IsUnmade) (sym is) (inl (inr refl))
unmade g image false rates made makes = IfErr-weaker made _ _ (λ why it. inr (it.0.fault, it.3)) makes.1

-- why a store isn't opened is a reason of stores
pub why_of_store : {M : Type 0} (made : Result M Unopened) → IfErr made (λ why. IsOfStore (by_store why.fault))
why_of_store (Ok it) = tt
why_of_store (Err why) = (why.fault, refl)
