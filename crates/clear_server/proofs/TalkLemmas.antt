-- Talks, one more after others, and what follows from them.
use Rattle.std.proofs.Common.{◌≡◌, ℕ, ◌+◌, inl, inr, Bool, true, false, List, [], ◌∷◌, ◌++◌, length, refl, sym, ap, ◌∙◌, subst, Result, Ok, Err, ◌≤◌, ◌<◌, arith}
use Rattle.std.specs.Prelude.{OnErr, OnOk}
use Rattle.std.proofs.lemmas.List.{append_assoc, append-nil, length-append}
use Rattle.std.proofs.lemmas.List.Elements.{All-nil, All-push}
use Rattle.sqlite.specs.Store.{Ghosts}
use Rattle.clear_book.specs.declared.calls.Call.{Call}
use Rattle.clear_book.specs.Book.{Book}
use Rattle.clear_office.specs.Office.{AtOffice, IsHonest, Keeps, LeavesOnly, StaysFailed}
use Rattle.clear_office.proofs.LeftLemmas.{leaves_such, leaves_working}
use Rattle.clear_answers.specs.declared.said.Said.{Said}
use Rattle.clear_callers.specs.Callers.{KeyOf}
use Rattle.clear_routes.specs.Reading.{Reads}
use Rattle.clear_wire.specs.Head.{Heading}
use Rattle.clear_http.proofs.GuardedLemmas.{responds_as}
use Rattle.clear_http.proofs.ServedLemmas.{items_go, items_stay, responds_stay, was_honest}
use Rattle.clear_http.specs.Desk.{MaySay, MayServe}
use Rattle.clear_http.specs.Guarded.{Admits}
use Rattle.clear_http.specs.Served.{IsFailedRequest, RequestSteps}
use Rattle.clear_http.specs.Serve.{Responds}
use Rattle.clear_server.specs.declared.connections.Ended.{Ended}
use Rattle.clear_server.specs.declared.connections.Ended.TheVariants.{NoConnections, Served, StoreGone}
use Rattle.clear_server.specs.Talks.{Talk, Talks, EndsAfter, EndSilent, IsSilent, IsFailedTalk, TalksTake, RunsTalks, AreServed, most_failures}

module _ {H : Type 0} (responds : H → Heading → List ℕ → Said → H → Type 0) where
  talks_then : (a : H) (xs ys : List Talk) (b c : H) → Talks responds a xs b → Talks responds b ys c → Talks responds a (xs ++ ys) c
  talks_then a [] ys b c x y = subst (λ h. Talks responds h ys c) x y
  talks_then a (t ∷ xs) ys b c x y = (x.0, x.1, talks_then x.0 xs ys b c x.2 y)

module _ {S : Type 0} (g : Ghosts S) (keys : List KeyOf) (day : ℕ) where
  -- what is said on one connection
  abbrev Says : AtOffice S → Talk → AtOffice S → Type 0
  Says old talk new = Responds (MaySay g keys day) old talk.items talk.saids new

  -- so many talks lead from one office to another, and so many at their end are silent
  abbrev pub Talked : ℕ → ℕ → AtOffice S → AtOffice S → Type 0
  Talked n failures old new = (talks : List Talk) × (length talks ≡ n) × Talks (MaySay g keys day) old talks new × EndSilent failures talks

  pub none_talked : (office : AtOffice S) → Talked 0 0 office office
  none_talked office = ([], refl, refl, ([], [], refl, omega arith, All-nil IsSilent))

  then_talk : (n failures after : ℕ) (old mid new : AtOffice S) (before : Talked n failures old mid) (talk : Talk) → Says mid talk new → EndSilent after (before.0 ++ talk ∷ [])
      → Talked (n + 1) after old new
  then_talk n failures after old mid new before talk one silent = (
    before.0 ++ talk ∷ [],
    length-append before.0 (talk ∷ []) ∙ ap (λ n. n + 1) before.1,
    talks_then (MaySay g keys day) old before.0 (talk ∷ []) mid new before.2 (new, one, refl),
    silent,
  )

  -- one connection more, which the system gave or refused
  pub one_more_talked : {A E : Type 0} (accepted : Result A E) (n failures after : ℕ) (old mid new : AtOffice S) → Talked n failures old mid → MayServe g keys day mid new
      → OnErr accepted (new ≡ mid) → OnOk accepted (after ≡ 0) → after ≤ failures + 1 → Talked (n + 1) after old new
  one_more_talked (Ok stream) n failures after old mid new before one same anew few =
      let talk : Talk = record { items = one.0; saids = one.1 } in
      then_talk n failures after old mid new before talk one.2 (before.0 ++ talk ∷ [], [], sym (append-nil (before.0 ++ talk ∷ [])), omega (arith, anew), All-nil IsSilent)
  one_more_talked (Err error) n failures after old mid new before one same anew few =
      let talk : Talk = record { items = []; saids = [] } in
      let (others, silent, is, count, all) = before.3 in
      then_talk n failures after old mid new before talk same (
        others,
        silent ++ talk ∷ [],
        ap (λ (ts : List Talk). ts ++ talk ∷ []) is ∙ append_assoc others silent (talk ∷ []),
        omega (arith, few, count, length-append silent (talk ∷ [])),
        All-push IsSilent silent talk all (refl, refl),
      )

  -- ---- what follows

  steps : (old : AtOffice S) (heading : Heading) (body : List ℕ) (told : Said) (new : AtOffice S)
      → MaySay g keys day old heading body told new
      → (IsHonest g new → IsHonest g old) × RequestSteps g (Reads keys day) old heading body told new
  steps old heading body told new said = (said.0, said.1)

  talks_honest : (old : AtOffice S) (talks : List Talk) (new : AtOffice S) → Talks (MaySay g keys day) old talks new → IsHonest g new → IsHonest g old
  talks_honest old [] new said honest = subst (λ (a : AtOffice S). IsHonest g a) said honest
  talks_honest old (talk ∷ talks) new said honest =
      was_honest g (Reads keys day) (MaySay g keys day) steps old talk.items talk.saids said.0 said.1 (talks_honest said.0 talks new said.2 honest)

  -- an office that has failed stays so, and its book stays
  talks_stay : (old : AtOffice S) (talks : List Talk) (new : AtOffice S) → Talks (MaySay g keys day) old talks new → StaysFailed old new
  talks_stay old [] new said was = said
  talks_stay old (talk ∷ talks) new said was =
      let one = responds_stay g (Reads keys day) (MaySay g keys day) steps old talk.items talk.saids said.0 said.1 was in
      talks_stay said.0 talks new said.2 (ap (λ (a : AtOffice S). a.failed) one ∙ was) ∙ one

  book_stays : (failed end : Bool) (b : Book) (talks : List Talk) (last : Book) → failed ≡ true → TalksTake (Reads keys day) failed end b talks last → last ≡ b
  book_stays failed end b [] last was takes = takes.1
  book_stays failed end b (talk ∷ talks) last was takes =
      let one = items_stay g (Reads keys day) failed takes.0 b talk.items talk.saids takes.1 was takes.2 in
      book_stays takes.0 end takes.1 talks last one.0 takes.3 ∙ one.1

  -- after one talk, what a crash leaves after the others
  left_behind : (mid new : AtOffice S) (next last : Book) (talk : Talk) (talks : List Talk) → Talks (MaySay g keys day) mid talks new → TalksTake (Reads keys day) mid.failed new.failed next talks last
      → LeavesOnly g (IsFailedRequest (Reads keys day) talk.items talk.saids) mid next → (mid.failed ≡ false → LeavesOnly g (IsFailedTalk (Reads keys day) talks) new last)
      → LeavesOnly g (IsFailedTalk (Reads keys day) (talk ∷ talks)) new last
  left_behind mid new next last talk talks said takes one others = by mid.failed refl
    where
      Such : Call → Type 0
      Such = IsFailedTalk (Reads keys day) (talk ∷ talks)

      by : (f : Bool) → mid.failed ≡ f → LeavesOnly g Such new last
      by false is = leaves_such g (IsFailedTalk (Reads keys day) talks) Such new last (λ c late. inr late) (others is)
      by true is =
          let same = talks_stay mid talks new said is in
          let stays = book_stays mid.failed new.failed next talks last is takes in
          subst (λ (p : AtOffice S × Book). LeavesOnly g Such p.0 p.1) (λ i. (sym same i, sym stays i))
          (leaves_such g (IsFailedRequest (Reads keys day) talk.items talk.saids) Such mid next (λ c early. inl early) one)

  talks_run : (old : AtOffice S) (talks : List Talk) (new : AtOffice S) → Talks (MaySay g keys day) old talks new → RunsTalks g (Reads keys day) old talks new
  talks_run old [] new said honest b lawful keeps =
      let same = ap (λ (a : AtOffice S). a.failed) said in
      let kept : Keeps g new b = subst (λ (a : AtOffice S). Keeps g a b) (sym said) keeps in
      (b, (same, refl), lawful, kept, λ working. leaves_working g (IsFailedTalk (Reads keys day) []) new b (same ∙ working) kept)
  talks_run old (talk ∷ talks) new said honest b lawful keeps =
      let here = talks_honest said.0 talks new said.2 honest in
      let one = items_go g (Reads keys day) (MaySay g keys day) steps old talk.items talk.saids said.0 said.1 here b lawful keeps in
      let rest = talks_run said.0 talks new said.2 honest one.0 one.2 one.3 in
      (rest.0, (said.0.failed, one.0, one.1, rest.1), rest.2, rest.3, λ working. left_behind said.0 new one.0 rest.0 talk talks said.2 rest.1 (one.4 working) rest.4)

  talks_admit : (old : AtOffice S) (talks : List Talk) (new : AtOffice S) → Talks (MaySay g keys day) old talks new → Talks (Admits (Reads keys day)) old talks new
  talks_admit old [] new said = said
  talks_admit old (talk ∷ talks) new said = (
    said.0,
    responds_as (λ (a : AtOffice S). a) (MaySay g keys day) (Admits (Reads keys day)) (λ old heading body told new said. said.2) old talk.items talk.saids said.0 said.1,
    talks_admit said.0 talks new said.2,
  )

  pub clean : (n failures : ℕ) (old new : AtOffice S) → Talked n failures old new → IsHonest g new → IsHonest g old
  clean n failures old new said = talks_honest old said.0 new said.2

  -- serving ends so, where so many talks have led there, of which so many at the end are silent
  abbrev pub MayEnd : Ended → ℕ → ℕ → ℕ → Type 0
  MayEnd Served count n failures = n ≡ count
  MayEnd StoreGone count n failures = n < count
  MayEnd NoConnections count n failures = (most_failures ≤ failures) × (n < count)

  ends : (ended : Ended) (n failures count : ℕ) (talks : List Talk) → MayEnd ended count n failures → length talks ≡ n → EndSilent failures talks → EndsAfter ended count talks
  ends Served n failures count talks may is silent = is ∙ may
  ends StoreGone n failures count talks may is silent = omega (arith, may, is)
  ends NoConnections n failures count talks may is (others, silent, split, many, all) = ((others, silent, split, omega (arith, may.0, many), all), omega (arith, may.1, is))

  pub served : (ended : Ended) (n failures count : ℕ) (old new : AtOffice S) → MayEnd ended count n failures → Talked n failures old new → AreServed g (Reads keys day) ended count old new
  served ended n failures count old new may said = record {
    talks = said.0;
    each = ends ended n failures count said.0 may said.1 said.3;
    runs = talks_run old said.0 new said.2;
    access = talks_admit old said.0 new said.2;
  }
