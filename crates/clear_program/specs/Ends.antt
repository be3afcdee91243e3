-- How the program ends: what the words ask for is done and said, or why it is not is told.
use Rattle.std.specs.Prelude.{◌≡◌, ◌⊎◌, ⊤, ℕ, Bool, false, List, Option, Result, Ok, Err, IfErr, IfOk}
use Rattle.std.specs.Prelude.{if◌then◌else◌, string_bytes}
use Rattle.std.specs.Global.{Global}
use Rattle.std.specs.declared.string.String.{String}
use Rattle.sqlite.specs.Held.{Held}
use Rattle.sqlite.specs.Store.{Ghosts}
use Rattle.clear_book.specs.declared.rules.Rule.{Rule}
use Rattle.clear_schema.specs.Held.{this_schema}
use Rattle.clear_schema.specs.declared.fault.OpenFault.{OpenFault}
use Rattle.clear_wire.specs.Counted.{Noted}
use Rattle.clear_routes.specs.Reading.{Reads}
use Rattle.clear_texts.specs.Look.{look_text}
use Rattle.clear_texts.specs.declared.look.Look.{Look}
use Rattle.clear_cli.specs.Lines.{Text}
use Rattle.clear_cli.specs.Ready.{copied_line, imported_line, ready_text, schema_line, served_line}
use Rattle.clear_files.specs.Names.{is_of_another_use}
use Rattle.clear_files.specs.declared.paths.PathKind.{PathKind}
use Rattle.clear_host.specs.declared.hindrance.Hindrance.{Hindrance}
use Rattle.clear_server.specs.Told.{AreTold, Writes, Written}
use Rattle.clear_work.specs.Looks.{Looks}
use Rattle.clear_work.specs.Says.{Puts}
use Rattle.clear_work.specs.Stops.{IsOfFile, IsOfStore, IsOfStoreFault, Tells, by_store}
use Rattle.clear_work.specs.Streams.{AnswersAll, AnswersFront, IsCutShort}
use Rattle.clear_work.specs.Works.{CannotCopy, CannotServe}
use Rattle.clear_work.specs.declared.stop.Stop.{Stop}
use Rattle.clear_work.specs.declared.stop.Stop.TheVariants as stop
use Rattle.clear_work.specs.declared.work.Work.{Work}
use Rattle.clear_work.specs.declared.work.Work.TheVariants as work
use Rattle.clear_program.specs.Asked.{IsAsked, IsNotDone}
use Rattle.clear_program.specs.Reasons.{IsWhyRefused, reason}
use Rattle.clear_program.specs.declared.opening.Unopened.{Unopened}
use Rattle.clear_program.specs.declared.tasks.Task.{Task}
use Rattle.clear_program.specs.declared.tasks.Task.TheVariants as task

-- ---- what a task has to say at its end

-- what work that is done says; a copy has a name of its own then
abbrev pub SaysDone : Work → List ℕ → Type 0
SaysDone (work.Serve directory day port count) text = text ≡ served_line count
SaysDone (work.Import day number command) text =
    (new : ℕ) × (repeats : ℕ) × (text ≡ imported_line new repeats)
SaysDone (work.Statement day employer) text = ⊤
SaysDone (work.Backup copy) text =
    (is_of_another_use copy.now ≡ false) × ((day : Option ℕ) × (text ≡ copied_line day))

-- why work on a store that was opened isn't done
abbrev pub CannotWork : Work → Stop → Type 0
CannotWork (work.Serve directory day port count) why = CannotServe why
CannotWork (work.Import day number command) why = (rule : Rule) × (why ≡ stop.Rule rule)
CannotWork (work.Statement day employer) why = (rule : Rule) × (why ≡ stop.Rule rule)
CannotWork (work.Backup copy) why = CannotCopy why

module _ {A : Type 0} (bytes : A → List ℕ) where
  -- what a task has to say, or why it has nothing to say
  abbrev pub MaySay : Task → Result A Stop → Type 0
  MaySay (task.Say text) said =
      IfOk said (λ it. bytes it ≡ string_bytes text) × IfErr said (λ why. ⊥)
  MaySay (task.Check checked) said =
      IfOk said (λ it. bytes it ≡ string_bytes checked.text) × IfErr said (λ why. ⊥)
  MaySay (task.Stream rates directory day) said = ⊥
  MaySay (task.Look at) said =
      IfOk said (λ it. (look : Look) × (bytes it ≡ look_text this_schema look))
      × IfErr said IsOfStoreFault
  MaySay (task.Migrate at) said =
      IfOk said (λ it. bytes it ≡ schema_line this_schema) × IfErr said IsOfStore
  MaySay (task.Init at rates) said =
      IfOk said (λ it. bytes it ≡ schema_line this_schema)
      × IfErr said (λ why. IsOfFile why ⊎ IsOfStore why)
  MaySay (task.OnStore at work) said =
      IfOk said (λ it. SaysDone work (bytes it))
      × IfErr said (λ why. IsOfStore why ⊎ CannotWork work why)

-- the status of a task that is done
abbrev pub status_for : Task → ℕ
status_for (task.Check checked) = if checked.good then 0 else 2
status_for task = 0

-- ---- what is told before that

-- while connections are served, that they are taken, and what is to be told of them; or nothing, where
-- none can be; of other work nothing
abbrev pub TellsOf : Work → Written → Written → Type 0
TellsOf (work.Serve directory day port count) told told' =
    (told' ≡ told)
    ⊎ ((ledger_day : Option ℕ) × (mid : Written) × Writes (ready_text port day ledger_day) told mid
    × ((before : Bool) × (after : Bool) × AreTold count before after mid told'))
TellsOf work told told' = told' ≡ told

abbrev pub TellsMeanwhile : Task → Written → Written → Type 0
TellsMeanwhile (task.OnStore at work) told told' = TellsOf work told told'
TellsMeanwhile task told told' = told' ≡ told

-- what stands in the store of a connection is said on the output, and nothing is told
abbrev pub SaysLook : {S : Type 0} → Ghosts S → Written → Written → Written → Written → Held S
    → Result ℕ Stop → Type 0
SaysLook {S} g out out' told told' connection result =
    (said : Result (String Global) Stop) × (left : Held S) × Looks string_bytes g said connection left
    × Puts string_bytes said 0 out out' result × (told' ≡ told)

-- why a store isn't opened is told in its line, and behind that in words, unless there was no memory
-- for these
abbrev pub TellsWhy : PathKind → Option Hindrance → OpenFault → Written → Written → ℕ → Type 0
TellsWhy kind stood fault told told' status =
    (mid : Written) × Tells told mid (by_store fault) status
    × ((told' ≡ mid) ⊎ Writes (reason kind stood fault) mid told')

-- ---- the end

-- what is written on the output, and what is told, each before and after
module _ (out out' told told' : Written) where
  -- what a task has to say is said, and nothing else
  abbrev pub SaysAll : Task → Result ℕ Stop → Type 0
  SaysAll task result =
      (said : Result (String Global) Stop) × MaySay string_bytes task said
      × Puts string_bytes said (status_for task) out out' result × TellsMeanwhile task told told'

  -- why a store isn't opened is told, with its status, and nothing is said
  abbrev pub TellsUnopened : Unopened → Result ℕ Stop → Type 0
  TellsUnopened why result =
      (status : ℕ) × TellsWhy why.kind why.hindrance why.fault told told' status
      × (result ≡ Ok status) × (out' ≡ out)

  -- there is no store to look at, and why is told
  abbrev pub TellsNoStore : Result ℕ Stop → Type 0
  TellsNoStore result =
      (why : Unopened) × IsWhyRefused why.kind why.hindrance why.fault × TellsUnopened why result

  -- a task is done; nothing is read for one but a stream, whose requests in these bytes are answered
  -- while neither input nor output fails, or those up to a fault
  abbrev pub Does : Option (List ℕ) → Noted → Noted → Task → Result ℕ Stop → Type 0
  Does bytes input input' (task.Stream rates directory day) result =
      (told' ≡ told)
      × IfOk result (λ status. (status ≡ 0) × (input'.failed ≡ false) × (out'.failed ≡ false)
      × AnswersAll (Reads directory day) rates bytes out.bytes out'.bytes)
      × IfErr result (λ why. AnswersFront (Reads directory day) rates bytes out.bytes out'.bytes
      × IsCutShort input'.failed out'.failed input.reads input'.reads why)
  Does bytes input input' (task.Look at) result =
      (SaysAll (task.Look at) result ⊎ TellsNoStore result) × (input' ≡ input)
  Does bytes input input' task result = SaysAll task result × (input' ≡ input)

  -- the words give a task, which is done; or they give none, and that is the end
  abbrev pub DoesWords : Option (List ℕ) → Noted → Noted → List Text → Result ℕ Stop → Type 0
  DoesWords bytes input input' line result =
      ((task : Task) × IsAsked line task × Does bytes input input' task result)
      ⊎ ((why : Stop) × IsNotDone line why × (result ≡ Err why)
      × (input' ≡ input) × (out' ≡ out) × (told' ≡ told))

-- the status is that of the end, or why that came is told, with its status
abbrev pub EndsBy : Result ℕ Stop → Written → Written → ℕ → Type 0
EndsBy (Ok status) told told' given = (given ≡ status) × (told' ≡ told)
EndsBy (Err why) told told' given = Tells told told' why given

-- what the words ask for comes to its end, and with that the program
abbrev pub Ends : List Text → Option (List ℕ) → Noted → Noted
    → Written → Written → Written → Written → ℕ → Type 0
Ends line bytes input input' out out' told told' status =
    (mid : Written) × (result : Result ℕ Stop)
    × DoesWords out out' told mid bytes input input' line result × EndsBy result mid told' status
