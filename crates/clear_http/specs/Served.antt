-- What is served over a book: the outcomes of the machine, and their answers. `reads` says which
-- call a request is, or what refuses it before the office sees it.
use Rattle.std.specs.Prelude.{◌≡◌, ℕ, ◌≤◌, ◌⊎◌, ◌++◌, Bool, true, List, [], ◌∷◌, length, Option}
use Rattle.std.specs.Prelude.{Result, Ok, Err, IfSome}
use Rattle.std.specs.Io.KnownBytes.{Appends}
use Rattle.sqlite.specs.Store.{Ghosts}
use Rattle.clear_book.specs.declared.calls.Call.{Call}
use Rattle.clear_book.specs.declared.outcomes.Outcome.{Outcome}
use Rattle.clear_routes.specs.declared.refused.Refused.{Refused}
use Rattle.clear_book.specs.declared.rules.Rule.TheVariants.{Memory}
use Rattle.clear_book.specs.Book.{Book}
use Rattle.clear_book.specs.Machine.{IsLawful, Goes}
use Rattle.clear_office.specs.Office.{Acts, AtOffice, IsHonest, Keeps, LeavesOnly, StaysFailed}
use Rattle.clear_answers.specs.declared.said.Said.{Said}
use Rattle.clear_answers.specs.declared.said.Said.TheVariants.{No}
use Rattle.clear_answers.specs.Said.{by_stream, refused_by, said_of}
use Rattle.clear_wire.specs.Cut.{BeginsCut}
use Rattle.clear_wire.specs.Head.{Heading}
use Rattle.clear_wire.specs.Limits.{request_limit}
use Rattle.clear_wire.specs.Stream.{NextItem, whole, bad, ended}
use Rattle.clear_http.specs.declared.serve.Served.{Served}
use Rattle.clear_http.specs.Serve.{answer_text, ends_by_rule, ends_stream, IsCutBy, IsProper}
use Rattle.clear_http.specs.Serve.{NoneEnds}

-- ---- over offices

module _ {S : Type 0} (g : Ghosts S) where
  -- an office keeps each lawful book that it kept, and has failed just if it had
  abbrev pub KeepsOn : AtOffice S → AtOffice S → Type 0
  KeepsOn old new =
      IsHonest g new → (b : Book) → IsLawful b → Keeps g old b
      → (new.failed ≡ old.failed) × Keeps g new b

  -- want of memory is told, and nothing was done
  abbrev pub ForgetsMemory : Said → AtOffice S → AtOffice S → Type 0
  ForgetsMemory told old new =
      (told ≡ refused_by Memory) × KeepsOn old new × StaysFailed old new

  module _ (reads : Heading → List ℕ → Result Call Refused → Type 0) where
    -- a call that was read is taken; what was none is refused, and the office stays
    abbrev pub CallSteps : Result Call Refused → AtOffice S → Said → AtOffice S → Type 0
    CallSteps (Ok call) old told new = (o : Outcome) × (told ≡ said_of o) × Acts g old call o new
    CallSteps (Err refused) old told new = (told ≡ No refused) × (new ≡ old)

    -- a request goes as its call, or is refused before; or there is no memory
    abbrev pub RequestSteps : AtOffice S → Heading → List ℕ → Said → AtOffice S → Type 0
    RequestSteps old heading body told new =
        ((read : Result Call Refused) × reads heading body read × CallSteps read old told new)
        ⊎ ForgetsMemory told old new

-- ---- over books: by whether the office has failed before, and whether it has then

module _ (reads : Heading → List ℕ → Result Call Refused → Type 0) where
  -- a call that was read is taken; what was none is refused, and the book stays
  abbrev pub CallTakes : Bool → Bool → Book → Result Call Refused → Said → Book → Type 0
  CallTakes failed then b (Ok call) told next =
      (o : Outcome) × (told ≡ said_of o) × Goes failed then b call o next
  CallTakes failed then b (Err refused) told next =
      (told ≡ No refused) × (next ≡ b) × (then ≡ failed)

  -- a request goes as its call, or is refused before; a rule of the stream is told; or there is no
  -- memory
  abbrev pub ItemTakes : Bool → Bool → Book → NextItem → Said → Book → Type 0
  ItemTakes failed then b (whole heading body) told next =
      ((read : Result Call Refused) × reads heading body read × CallTakes failed then b read told next)
      ⊎ ((told ≡ refused_by Memory) × (next ≡ b) × (then ≡ failed))
  ItemTakes failed then b (bad rule bare) told next =
      ((told ≡ No (by_stream rule)) ⊎ (told ≡ refused_by Memory)) × (next ≡ b) × (then ≡ failed)
  ItemTakes failed then b ended told next = ⊥

  -- one outcome for each item
  abbrev pub ItemsTake : Bool → Bool → Book → List NextItem → List Said → Book → Type 0
  ItemsTake failed end b [] [] last = (end ≡ failed) × (last ≡ b)
  ItemsTake failed end b (item ∷ items) (told ∷ rest) last =
      (then : Bool) × (next : Book) × ItemTakes failed then b item told next
      × ItemsTake then end next items rest last
  ItemsTake failed end b [] (told ∷ rest) last = ⊥
  ItemsTake failed end b (item ∷ items) [] last = ⊥

  -- the call as which a request reads whose answer tells of a fault of the store
  abbrev pub IsFailedItem : NextItem → Said → Call → Type 0
  IsFailedItem (whole heading body) told call =
      reads heading body (Ok call) × (ends_stream told ≡ true)
  IsFailedItem (bad rule bare) told call = ⊥
  IsFailedItem ended told call = ⊥

  -- the call is that of one of these items
  abbrev pub IsFailedRequest : List NextItem → List Said → Call → Type 0
  IsFailedRequest (item ∷ items) (told ∷ saids) call =
      IsFailedItem item told call ⊎ IsFailedRequest items saids call
  IsFailedRequest [] saids call = ⊥
  IsFailedRequest (item ∷ items) [] call = ⊥

module _ {S : Type 0} (g : Ghosts S) (reads : Heading → List ℕ → Result Call Refused → Type 0) where
  -- all of a stream was served over a book: one outcome for each request in its bytes and for the
  -- rule that ends it, or, where the store has failed, for those up to this; the answers to these
  -- were written and nothing else, and the office keeps the book that was left; a crash leaves that
  -- or, besides, the request that met the fault
  pub record IsServed
      (old : AtOffice S) (b : Book) (bytes written written' : Option (List ℕ)) (new : AtOffice S)
      (served : Served)
      : Type 0 where
    pub items : List NextItem
    pub saids : List Said
    pub last : Book
    pub cut : IfSome bytes (λ bs. IsCutBy bs items saids)
    pub takes : ItemsTake reads old.failed new.failed b items saids last
    pub wrote : Appends written written' (answer_text request_limit items saids)
    pub count : served.requests ≡ length items
    pub rule : served.by_rule ≡ ends_by_rule items
    pub lawful : IsLawful last
    pub keeps : Keeps g new last
    pub left : LeavesOnly g (IsFailedRequest reads items saids) new last

  -- a stream was served up to a fault: so many answers were written whole, at most one request more
  -- was taken, and a part of its answer was written; the office keeps the book that was left, and a
  -- crash leaves that or, besides, the request that met a fault of the store
  pub record IsServedPart
      (old : AtOffice S) (b : Book) (bytes written written' : Option (List ℕ)) (new : AtOffice S)
      (answered : ℕ)
      : Type 0 where
    pub items : List NextItem
    pub saids : List Said
    pub more : List NextItem
    pub more_said : List Said
    pub last : Book
    pub begins : IfSome bytes (λ bs. BeginsCut bs (items ++ more))
    pub takes : ItemsTake reads old.failed new.failed b (items ++ more) (saids ++ more_said) last
    pub goes_on : NoneEnds saids
    pub one : length more ≤ 1
    pub part : List ℕ
    pub rest : List ℕ
    pub wrote : Appends written written' (answer_text request_limit items saids ++ part)
    pub split : answer_text request_limit (items ++ more) (saids ++ more_said)
        ≡ answer_text request_limit items saids ++ (part ++ rest)
    pub proper : IsProper more rest
    pub count : answered ≡ length items
    pub lawful : IsLawful last
    pub keeps : Keeps g new last
    pub left : LeavesOnly g (IsFailedRequest reads (items ++ more) (saids ++ more_said)) new last
