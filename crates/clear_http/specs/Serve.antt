-- What is served: the items of a stream, what is said to each, and the bytes of their answers.
-- `responds` says what may be said to a request in a state, and what the state is then.
use Rattle.std.specs.Prelude.{◌≡◌, ℕ, ◌≤◌, ◌<◌, ◌⊎◌, Bool, true, false, List, [], ◌∷◌, ◌++◌}
use Rattle.std.specs.Prelude.{Result, Ok, Err}
use Rattle.std.specs.Prelude.{length, Option, ◌==◌, IfSome, ⊤, if◌then◌else◌}
use Rattle.std.specs.List.{AllByRecursion}
use Rattle.std.specs.Io.KnownBytes.{Appends}
use Rattle.clear_book.specs.Rules.{tells_fault}
use Rattle.clear_book.specs.declared.rules.Rule.TheVariants.{Memory, Failed}
use Rattle.clear_answers.specs.declared.said.Said.{Said}
use Rattle.clear_answers.specs.declared.said.Said.TheVariants.{Reply, Answer, No}
use Rattle.clear_answers.specs.Answer.{answer_of}
use Rattle.clear_answers.specs.Said.{by_stream, refused_by}
use Rattle.clear_wire.specs.Cut.{left_after, left_after_all, IsAnswered, Cuts, IsCut, BeginsCut}
use Rattle.clear_wire.specs.Head.{Heading}
use Rattle.clear_wire.specs.Known.{Leads}
use Rattle.clear_wire.specs.Limits.{chunk_size, request_limit}
use Rattle.clear_wire.specs.Method.{is_head}
use Rattle.clear_wire.specs.Stream.{NextItem, whole, bad, ended, Next}
use Rattle.clear_http.specs.declared.serve.Fault.{Fault}
use Rattle.clear_http.specs.declared.serve.Fault.TheVariants.{Read, Reads, Write}
use Rattle.clear_http.specs.declared.serve.ServeFault.{ServeFault}
use Rattle.clear_http.specs.declared.serve.Served.{Served}
use Rattle.clear_http.specs.declared.serve.Behind.{Behind}

-- an answer without a body
abbrev pub is_bare : NextItem → Bool
is_bare (whole heading body) = is_head heading.method
is_bare (bad rule bare) = bare
is_bare ended = false

-- a rule that ends the stream
abbrev pub is_bad : NextItem → Bool
is_bad (whole heading body) = false
is_bad (bad rule bare) = true
is_bad ended = false

-- the last of these is a rule that ends the stream: what comes behind it isn't read
abbrev pub ends_by_rule : List NextItem → Bool
ends_by_rule [] = false
ends_by_rule (item ∷ []) = is_bad item
ends_by_rule (item ∷ next ∷ items) = ends_by_rule (next ∷ items)

-- what is said ends the stream: the store has failed
abbrev pub ends_stream : Said → Bool
ends_stream (Reply reply) = false
ends_stream (Answer answer) = false
ends_stream (No refused) = tells_fault refused.rule

-- how many requests may follow an item to which this is said, where so many might come with it
abbrev pub left_then : ℕ → NextItem → Said → ℕ
left_then left item said = if ends_stream said then 0 else left_after left item

-- the bytes of one answer, where so many requests may still come with its item
abbrev pub item_answer : ℕ → NextItem → Said → List ℕ
item_answer left item said = answer_of said (left_then left item said == 0) (is_bare item)

-- the bytes of all answers
abbrev pub answer_text : ℕ → List NextItem → List Said → List ℕ
answer_text left [] saids = []
answer_text left (item ∷ items) [] = []
answer_text left (item ∷ items) (said ∷ saids) =
    item_answer left item said ++ answer_text (left_after left item) items saids

-- something was done for what is said, or may have been: a command has its reply, or the store has
-- failed
abbrev pub was_done : Said → Bool
was_done (Reply reply) = true
was_done (Answer answer) = false
was_done (No refused) = tells_fault refused.rule

-- nothing of what is said ends the stream
abbrev pub NoneEnds : List Said → Type 0
NoneEnds saids = AllByRecursion (λ said. ends_stream said ≡ false) saids

-- what is said last ends the stream, and nothing before it does
abbrev pub LastEnds : List Said → Type 0
LastEnds saids =
    (front : List Said) × (last : Said) × (saids ≡ front ++ last ∷ []) × NoneEnds front
    × (ends_stream last ≡ true)

-- the items are all those of the stream that have an answer; or, where the store has failed, those
-- up to this
abbrev pub IsCutBy : List ℕ → List NextItem → List Said → Type 0
IsCutBy bytes items saids =
    (IsCut bytes items × NoneEnds saids) ⊎ (BeginsCut bytes items × LastEnds saids)

-- what may be sent for what is to be said: that, or, where nothing was done, that there is no
-- memory
abbrev pub MaySend : Said → Said → Type 0
MaySend wanted said = (said ≡ wanted) ⊎ ((was_done wanted ≡ false) × (said ≡ refused_by Memory))

-- why the requests of a stream aren't read any further
abbrev pub IsOfReader : Fault → Type 0
IsOfReader fault = (fault ≡ Read) ⊎ (fault ≡ Reads)

-- an answer that was begun isn't whole: some of its bytes are left
abbrev pub IsProper : List NextItem → List ℕ → Type 0
IsProper [] rest = ⊤
IsProper (item ∷ items) rest = 0 < length rest

-- the one answer of an office that has failed before, which ends the stream
abbrev pub failed_answer : List ℕ
failed_answer = answer_of (refused_by Failed) true false

-- this answer is written, and counted; or a write failed, after a front of it that isn't all of it
abbrev pub TellsFailed : Option (List ℕ) → Option (List ℕ) → Result Served ServeFault → Type 0
TellsFailed written written' (Ok served) =
    (served.requests ≡ 1) × (served.by_rule ≡ true) × Appends written written' failed_answer
TellsFailed written written' (Err fault) =
    (fault.fault ≡ Write) × (fault.answered ≡ 0) × (part : List ℕ) × (rest : List ℕ)
    × (failed_answer ≡ part ++ rest) × (0 < length rest) × Appends written written' part

-- so many items of the bytes are answered, and these are left to be read: behind the items fewer were
-- read than one read asks for, unless no further item is there
abbrev pub IsReadTo : ℕ → List ℕ → List ℕ → Type 0
IsReadTo count bytes left =
    (items : List NextItem) × (rest : List ℕ) × Cuts request_limit bytes items rest
    × (count ≡ length items)
    × (((end : List ℕ) × Next rest ended end)
    ⊎ ((ahead : List ℕ) × (rest ≡ ahead ++ left) × (length ahead < chunk_size)))

-- where the bytes are known, before and now
abbrev pub StandsBehind : ℕ → Option (List ℕ) → Option (List ℕ) → Type 0
StandsBehind count bytes bytes' =
    IfSome bytes (λ before. IfSome bytes' (λ left. IsReadTo count before left))

module _ {H : Type 0} (responds : H → Heading → List ℕ → Said → H → Type 0) where
  -- a request is answered; a rule that ends the stream is told, or, in its place, want of memory
  abbrev pub Says : H → NextItem → Said → H → Type 0
  Says h (whole heading body) said h' = responds h heading body said h'
  Says h (bad rule bare) said h' =
      ((said ≡ No (by_stream rule)) ⊎ (said ≡ refused_by Memory)) × (h' ≡ h)
  Says h ended said h' = ⊥

  -- one thing is said to each item
  abbrev pub Responds : H → List NextItem → List Said → H → Type 0
  Responds h [] [] h' = h' ≡ h
  Responds h (item ∷ items) (said ∷ saids) h' =
      (mid : H) × Says h item said mid × Responds mid items saids h'
  Responds h [] (said ∷ saids) h' = ⊥
  Responds h (item ∷ items) [] h' = ⊥

  -- the stream goes on with one item, and its answer is written
  abbrev pub AnswersOne : ℕ → H → Option (List ℕ) → Option (List ℕ)
      → Option (List ℕ) → Option (List ℕ) → Behind → H → Type 0
  AnswersOne left h bytes bytes' written written' behind h' =
      (item : NextItem) × (said : Said) × IsAnswered item
      × Leads (λ b r. Next b item r) bytes bytes'
      × (behind.after ≡ left_then left item said) × Says h item said h'
      × Appends written written' (item_answer left item said) × (behind.by_rule ≡ is_bad item)

  -- at most one item more was taken, and a front of its answer is written
  abbrev pub BreaksOff : ℕ → H → Option (List ℕ) → Option (List ℕ) → Option (List ℕ) → H → Type 0
  BreaksOff left h bytes written written' h' =
      (last : List NextItem) × (said : List Said) × (part : List ℕ) × (rest : List ℕ)
      × (length last ≤ 1) × IfSome bytes (λ b. (r : List ℕ) × Cuts left b last r)
      × Responds h last said h' × Appends written written' part
      × (answer_text left last said ≡ part ++ rest) × IsProper last rest

  -- so many items were answered so far
  pub record Progress
      (h : H) (bytes bytes' written written' : Option (List ℕ)) (left : ℕ) (h' : H)
      (served : Served) : Type 0 where
    pub items : List NextItem
    pub saids : List Said
    pub cuts : Leads (λ b r. Cuts request_limit b items r) bytes bytes'
    pub runs : Responds h items saids h'
    pub left_is : ((left ≡ left_after_all request_limit items) × NoneEnds saids)
        ⊎ ((left ≡ 0) × LastEnds saids)
    pub wrote : Appends written written' (answer_text request_limit items saids)
    pub count : served.requests ≡ length items
    pub rule : served.by_rule ≡ ends_by_rule items

  -- all of the stream was answered: the answers to its items were written, and nothing else
  pub record Serves
      (h : H) (bytes written written' : Option (List ℕ)) (h' : H) (served : Served)
      : Type 0 where
    pub items : List NextItem
    pub saids : List Said
    pub cut : IfSome bytes (λ b. IsCutBy b items saids)
    pub runs : Responds h items saids h'
    pub wrote : Appends written written' (answer_text request_limit items saids)
    pub count : served.requests ≡ length items
    pub rule : served.by_rule ≡ ends_by_rule items

  -- so many items were answered whole; at most one more was taken, and a front of its answer is
  -- written, which isn't all of it
  pub record ServesPart
      (h : H) (bytes written written' : Option (List ℕ)) (h' : H) (answered : ℕ) : Type 0 where
    pub items : List NextItem
    pub saids : List Said
    pub last : List NextItem
    pub last_said : List Said
    pub begins : IfSome bytes (λ b. BeginsCut b (items ++ last))
    pub runs : Responds h (items ++ last) (saids ++ last_said) h'
    pub goes_on : NoneEnds saids
    pub one : length last ≤ 1
    pub part : List ℕ
    pub rest : List ℕ
    pub wrote : Appends written written' (answer_text request_limit items saids ++ part)
    pub split : answer_text request_limit (items ++ last) (saids ++ last_said)
        ≡ answer_text request_limit items saids ++ (part ++ rest)
    pub proper : IsProper last rest
    pub count : answered ≡ length items

  -- so many items were answered whole, and no other was taken
  abbrev pub ServesWhole : H → Option (List ℕ) → Option (List ℕ) → Option (List ℕ) → H → ℕ
      → Type 0
  ServesWhole h bytes written written' h' answered =
      (part : ServesPart h bytes written written' h' answered) × (part.last ≡ [])
