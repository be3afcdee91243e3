-- A stream over a desk is one that access guards.
use Rattle.std.proofs.Common.{◌≡◌, ◌∙◌, ◌⊎◌, ℕ, Bool, true, false, List, [], ◌∷◌, ◌++◌, Option, Ok, Err, refl, ap, subst, inl, inr}
use Rattle.clear_book.specs.declared.calls.Call.{Call}
use Rattle.clear_book.specs.declared.rules.Rule.TheVariants.{Memory, NotYours}
use Rattle.clear_book.specs.Machine.{is_allowed}
use Rattle.clear_answers.specs.declared.said.Said.{Said}
use Rattle.clear_answers.specs.declared.said.Said.TheVariants.{No}
use Rattle.clear_answers.specs.Said.{refused_by, by_rule}
use Rattle.clear_callers.specs.Callers.{KeyOf}
use Rattle.clear_office.specs.Office.{AtOffice}
use Rattle.clear_routes.proofs.ReadingLemmas.{one_reading}
use Rattle.clear_routes.specs.declared.refused.Refused.{Refused}
use Rattle.clear_routes.specs.Reading.{Reads}
use Rattle.clear_wire.specs.Head.{Heading}
use Rattle.clear_wire.specs.Stream.{NextItem, whole, bad, ended}
use Rattle.clear_http.specs.Guarded.{Guards, IsAllowed, IsGuarded}
use Rattle.clear_http.specs.declared.serve.Served.{Served}
use Rattle.clear_http.specs.Serve.{ends_stream, Responds, Serves, ServesPart}

-- ---- one request

module _ (keys : List KeyOf) (day : ℕ) (heading : Heading) (body : List ℕ) where
  -- a call that the office took: it is the only one as which the request reads
  pub guards_call : (failed : Bool) (call : Call) (told : Said) (then : Bool) → Reads keys day heading body (Ok call)
      → (failed ≡ false → is_allowed call ≡ false → told ≡ refused_by NotYours)
      → (failed ≡ false → ends_stream told ≡ false → then ≡ false)
      → Guards (Reads keys day) failed heading body told then
  guards_call failed call told then here access fails working = (guarded, fails working)
    where
      same : (other : Call) → Reads keys day heading body (Ok other) → other ≡ call
      same other there = elim (one_reading keys day heading body call (Ok other) here there) [
        | inl is ↦ cc is
        | inr other_is ↦ absurd (cc other_is)
      ]

      guarded : IsGuarded (Reads keys day) heading body told
      guarded other there denied = inl (access working (subst (λ (k : Call). is_allowed k ≡ false) (same other there) denied))

  -- a request that is refused before the office sees it reads as a call only where memory is wanting
  pub guards_refusal : (failed : Bool) (refused : Refused) (then : Bool) → Reads keys day heading body (Err refused)
      → then ≡ failed → Guards (Reads keys day) failed heading body (No refused) then
  guards_refusal failed refused then here still working = (guarded, λ _. still ∙ working)
    where
      forgets : (other : Call) → Reads keys day heading body (Ok other) → refused ≡ by_rule Memory
      forgets other there = elim (one_reading keys day heading body other (Err refused) there here) [
        | inl other_is ↦ absurd (cc other_is)
        | inr is ↦ cc is
      ]

      guarded : IsGuarded (Reads keys day) heading body (No refused)
      guarded other there denied = inr (ap No (forgets other there))

  -- an office that stays at a call that access doesn't allow stays but for one that it allows
  pub stays_unless : {S : Type 0} (old new : AtOffice S) (call : Call) → Reads keys day heading body (Ok call)
      → (is_allowed call ≡ false → new ≡ old) → (new ≡ old) ⊎ IsAllowed (Reads keys day) heading body
  stays_unless old new call here stays = by_access (is_allowed call) refl
    where
      by_access : (allowed : Bool) → is_allowed call ≡ allowed → (new ≡ old) ⊎ IsAllowed (Reads keys day) heading body
      by_access true is = inr (call, here, is)
      by_access false is = inl (stays is)

-- ---- all requests of a stream

module _ {S T : Type 0} (seen : S → T)
    (responds : S → Heading → List ℕ → Said → S → Type 0) (guards : T → Heading → List ℕ → Said → T → Type 0)
    (step : (old : S) (heading : Heading) (body : List ℕ) (told : Said) (new : S)
    → responds old heading body told new → guards (seen old) heading body told (seen new)) where
  pub responds_as : (old : S) (items : List NextItem) (saids : List Said) (new : S)
      → Responds responds old items saids new → Responds guards (seen old) items saids (seen new)
  responds_as old [] [] new runs = ap seen runs
  responds_as old [] (told ∷ saids) new runs = absurd runs
  responds_as old (item ∷ items) [] new runs = absurd runs
  responds_as old (whole heading body ∷ items) (told ∷ saids) new runs =
      (seen runs.0, step old heading body told runs.0 runs.1, responds_as runs.0 items saids new runs.2)
  responds_as old (bad rule bare ∷ items) (told ∷ saids) new runs =
      (seen runs.0, (runs.1.0, ap seen runs.1.1), responds_as runs.0 items saids new runs.2)
  responds_as old (ended ∷ items) (told ∷ saids) new runs = absurd runs.1

  pub serves_as : (old : S) (bytes written written' : Option (List ℕ)) (new : S) (done : Served)
      → Serves responds old bytes written written' new done
      → Serves guards (seen old) bytes written written' (seen new) done
  serves_as old bytes written written' new done all = record {
    items = all.items;
    saids = all.saids;
    cut = all.cut;
    runs = responds_as old all.items all.saids new all.runs;
    wrote = all.wrote;
    count = all.count;
    rule = all.rule;
  }

  pub serves_part_as : (old : S) (bytes written written' : Option (List ℕ)) (new : S) (answered : ℕ)
      → ServesPart responds old bytes written written' new answered
      → ServesPart guards (seen old) bytes written written' (seen new) answered
  serves_part_as old bytes written written' new answered all = record {
    items = all.items;
    saids = all.saids;
    last = all.last;
    last_said = all.last_said;
    begins = all.begins;
    runs = responds_as old (all.items ++ all.last) (all.saids ++ all.last_said) new all.runs;
    goes_on = all.goes_on;
    one = all.one;
    part = all.part;
    rest = all.rest;
    wrote = all.wrote;
    split = all.split;
    proper = all.proper;
    count = all.count;
  }
