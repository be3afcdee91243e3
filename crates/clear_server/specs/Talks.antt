-- What is said on connections, one after another. `reads` says which call a request is, or what
-- refuses it before the office sees it.
use Rattle.std.specs.Prelude.{◌≡◌, ℕ, ◌<◌, ◌≤◌, ◌⊎◌, ◌++◌, Bool, false, List, [], ◌∷◌, All, length}
use Rattle.std.specs.Prelude.{Result}
use Rattle.sqlite.specs.Store.{Ghosts}
use Rattle.clear_book.specs.declared.calls.Call.{Call}
use Rattle.clear_book.specs.Book.{Book}
use Rattle.clear_book.specs.Machine.{IsLawful}
use Rattle.clear_office.specs.Office.{AtOffice, IsHonest, Keeps, LeavesOnly}
use Rattle.clear_answers.specs.declared.said.Said.{Said}
use Rattle.clear_routes.specs.declared.refused.Refused.{Refused}
use Rattle.clear_wire.specs.Head.{Heading}
use Rattle.clear_wire.specs.Stream.{NextItem}
use Rattle.clear_http.specs.Guarded.{Admits}
use Rattle.clear_http.specs.Serve.{Responds}
use Rattle.clear_http.specs.Served.{IsFailedRequest, ItemsTake}
use Rattle.clear_server.specs.declared.connections.Ended.{Ended}
use Rattle.clear_server.specs.declared.connections.Ended.TheVariants.{NoConnections, Served, StoreGone}

-- what was said on one connection: one thing to each item that was taken of what its peer sent
pub record Talk : Type 0 where
  pub items : List NextItem
  pub saids : List Said

-- how often in turn the system may refuse a connection
abbrev pub most_failures : ℕ
most_failures = 100

-- nothing was said on a connection: so it is with one that the system refuses
abbrev pub IsSilent : Talk → Type 0
IsSilent talk = (talk.items ≡ []) × (talk.saids ≡ [])

-- so many of the talks at their end, or more, are silent
abbrev pub EndSilent : ℕ → List Talk → Type 0
EndSilent count talks =
    (others : List Talk) × (silent : List Talk) × (talks ≡ others ++ silent) × (count ≤ length silent)
    × All IsSilent silent

-- which of so many connections were served: all of them, unless the store was gone before, or the
-- system gave no more, and had refused that many in turn
abbrev pub EndsAfter : Ended → ℕ → List Talk → Type 0
EndsAfter Served count talks = length talks ≡ count
EndsAfter StoreGone count talks = length talks < count
EndsAfter NoConnections count talks = EndSilent most_failures talks × (length talks < count)

module _ {H : Type 0} (responds : H → Heading → List ℕ → Said → H → Type 0) where
  -- the items of each connection are answered, one connection after another
  abbrev pub Talks : H → List Talk → H → Type 0
  Talks h [] h' = h' ≡ h
  Talks h (talk ∷ talks) h' =
      (mid : H) × Responds responds h talk.items talk.saids mid × Talks mid talks h'

module _ (reads : Heading → List ℕ → Result Call Refused → Type 0) where
  -- one outcome of the machine for each item of each connection
  abbrev pub TalksTake : Bool → Bool → Book → List Talk → Book → Type 0
  TalksTake failed end b [] last = (end ≡ failed) × (last ≡ b)
  TalksTake failed end b (talk ∷ talks) last =
      (then : Bool) × (next : Book) × ItemsTake reads failed then b talk.items talk.saids next
      × TalksTake then end next talks last

  -- the call as which a request of one of these reads whose answer tells of a fault of the store
  abbrev pub IsFailedTalk : List Talk → Call → Type 0
  IsFailedTalk [] call = ⊥
  IsFailedTalk (talk ∷ talks) call =
      IsFailedRequest reads talk.items talk.saids call ⊎ IsFailedTalk talks call

module _ {S : Type 0} (g : Ghosts S) (reads : Heading → List ℕ → Result Call Refused → Type 0) where
  -- the clearing theorem over connections: whatever lawful book the office keeps, what was said is
  -- what the machine says over it, and the office then keeps the lawful book that it leaves, so far
  -- as its disk returned what was written; of an office that hadn't failed, a crash leaves that book
  -- or, besides, the request that met a fault of the store
  abbrev pub RunsTalks : AtOffice S → List Talk → AtOffice S → Type 0
  RunsTalks old talks new =
      IsHonest g new → (b : Book) → IsLawful b → Keeps g old b
      → (last : Book) × TalksTake reads old.failed new.failed b talks last × IsLawful last
      × Keeps g new last
      × (old.failed ≡ false → LeavesOnly g (IsFailedTalk reads talks) new last)

  -- of so many connections those were served, one after another, that came before serving ended so
  pub record AreServed (ended : Ended) (count : ℕ) (old new : AtOffice S) : Type 0 where
    pub talks : List Talk
    pub each : EndsAfter ended count talks
    pub runs : RunsTalks old talks new
    -- this holds whatever the records are, also those of no lawful book
    pub access : Talks (Admits reads) old talks new
