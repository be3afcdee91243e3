-- What access makes of a stream, whatever the records hold. `reads` says which call a request is, or
-- what refuses it before the office sees it.
use Rattle.std.specs.Prelude.{◌≡◌, ℕ, ◌⊎◌, Bool, true, false, List, Result, Ok}
use Rattle.clear_book.specs.declared.calls.Call.{Call}
use Rattle.clear_book.specs.declared.rules.Rule.TheVariants.{Memory, NotYours}
use Rattle.clear_book.specs.Machine.{is_allowed}
use Rattle.clear_office.specs.Office.{AtOffice}
use Rattle.clear_answers.specs.declared.said.Said.{Said}
use Rattle.clear_answers.specs.Said.{refused_by}
use Rattle.clear_routes.specs.declared.refused.Refused.{Refused}
use Rattle.clear_wire.specs.Head.{Heading}
use Rattle.clear_http.specs.Serve.{ends_stream}

-- what is said to a call that access doesn't allow: that it isn't the caller's, or that there is no
-- memory
abbrev pub TurnsAway : Said → Type 0
TurnsAway told = (told ≡ refused_by NotYours) ⊎ (told ≡ refused_by Memory)

module _ (reads : Heading → List ℕ → Result Call Refused → Type 0) where
  -- each call as which the request reads is turned away, if access doesn't allow it
  abbrev pub IsGuarded : Heading → List ℕ → Said → Type 0
  IsGuarded heading body told =
      (call : Call) → reads heading body (Ok call) → is_allowed call ≡ false → TurnsAway told

  -- by whether the office has failed before a request, and whether it has then: one that hasn't
  -- guards the request, and fails only by an answer that ends the stream
  abbrev pub Guards : Bool → Heading → List ℕ → Said → Bool → Type 0
  Guards failed heading body told then =
      failed ≡ false
      → IsGuarded heading body told × (ends_stream told ≡ false → then ≡ false)

  -- the request reads as a call that access allows
  abbrev pub IsAllowed : Heading → List ℕ → Type 0
  IsAllowed heading body =
      (call : Call) × reads heading body (Ok call) × (is_allowed call ≡ true)

  -- access guards a request to an office, which stays as it is but for a call that access allows
  abbrev pub Admits : {S : Type 0} → AtOffice S → Heading → List ℕ → Said → AtOffice S → Type 0
  Admits old heading body told new =
      Guards old.failed heading body told new.failed × ((new ≡ old) ⊎ IsAllowed heading body)
