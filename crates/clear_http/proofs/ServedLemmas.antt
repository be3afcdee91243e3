-- From what is served over an office to what is served over a book.
use Rattle.std.proofs.Common.{◌≡◌, ℕ, inl, inr, Bool, true, false, List, [], ◌∷◌, ◌++◌, Option, Result, Ok, Err, refl, sym, ap, ◌∙◌, subst}
use Rattle.sqlite.specs.Store.{Ghosts}
use Rattle.clear_book.specs.declared.calls.Call.{Call}
use Rattle.clear_book.specs.declared.calls.Call.TheVariants.{Do, Ask}
use Rattle.clear_book.specs.declared.outcomes.Outcome.{Outcome}
use Rattle.clear_book.specs.declared.outcomes.Outcome.TheVariants.{Refused}
use Rattle.clear_routes.specs.declared.refused.Refused.{Refused as Refusal}
use Rattle.clear_book.specs.declared.rules.Rule.TheVariants.{Store}
use Rattle.clear_book.specs.declared.rules.StoreCause.TheVariants.{Other}
use Rattle.clear_book.specs.Book.{Book}
use Rattle.clear_book.specs.Judge.{Verdict, new_reply, kept_reply, an_answer, a_refusal, judge, outcome_of}
use Rattle.clear_book.specs.Machine.{IsLawful, Goes, after}
use Rattle.clear_office.specs.Office.{AtOffice, IsHonest, Keeps, LeavesOnly, StaysFailed, Steps}
use Rattle.clear_office.proofs.LeftLemmas.{ByCall, leaves_by, leaves_such, leaves_working, stays_after}
use Rattle.clear_answers.specs.declared.said.Said.{Said}
use Rattle.clear_answers.specs.Said.{said_of}
use Rattle.clear_wire.specs.Head.{Heading}
use Rattle.clear_wire.specs.Stream.{NextItem, whole, bad, ended}
use Rattle.clear_http.specs.declared.serve.Served.{Served}
use Rattle.clear_http.specs.Serve.{ends_stream, Responds, Serves, ServesPart, was_done}
use Rattle.clear_http.specs.Served.{CallSteps, CallTakes, RequestSteps, KeepsOn, ItemTakes, ItemsTake, IsFailedItem, IsFailedRequest, IsServed, IsServedPart}

-- ---- where nothing was done

after_stays : (b : Book) (call : Call) (said : Verdict) → was_done (said_of (outcome_of said)) ≡ false → after b call said ≡ b
after_stays b (Do caller number day command) (new_reply reply) none = absurd (cc none)
after_stays b (Do caller number day command) (kept_reply reply) none = refl
after_stays b (Do caller number day command) (an_answer answer) none = refl
after_stays b (Do caller number day command) (a_refusal why) none = refl
after_stays b (Ask caller day query) said none = refl

-- the book stays, and the office hasn't failed now
stays_undone : (failed then : Bool) (b : Book) (call : Call) (o : Outcome) (next : Book) → was_done (said_of o) ≡ false → Goes failed then b call o next → (then ≡ failed) × (next ≡ b)
stays_undone false false b call o next none (inl (is, goes)) =
    (refl, goes ∙ after_stays b call (judge b call) (subst (λ (o : Outcome). was_done (said_of o) ≡ false) is none))
stays_undone false false b call o next none (inr memory) = (refl, memory.2)
stays_undone false true b call o next none faults =
    let told : was_done (said_of (Refused (Store Other))) ≡ false = subst (λ (o : Outcome). was_done (said_of o) ≡ false) faults.0 none in
    absurd (cc told)
stays_undone true true b call o next none failed = (refl, failed.1)
stays_undone true false b call o next none never = absurd never

module _ {S : Type 0} (g : Ghosts S) where
  pub goes_on_undone : (old new : AtOffice S) (call : Call) (o : Outcome) → was_done (said_of o) ≡ false → Steps g old call o new → KeepsOn g old new
  goes_on_undone old new call o none steps honest b lawful keeps =
      let there = steps honest b lawful keeps in
      let stays = stays_undone old.failed new.failed b call o there.0 none there.1 in
      (stays.0, subst (Keeps g new) stays.1 there.3)

  pub goes_on_unchanged : (old new : AtOffice S) → new ≡ old → KeepsOn g old new
  goes_on_unchanged old new same honest b lawful keeps =
      (ap (λ (a : AtOffice S). a.failed) same, subst (λ (a : AtOffice S). Keeps g a b) (sym same) keeps)

-- ---- over a book

module _ {S : Type 0} (g : Ghosts S) (reads : Heading → List ℕ → Result Call Refusal → Type 0) where
  -- the book after an item, and what a crash leaves of an office that hadn't failed
  abbrev GoesItem : AtOffice S → Book → NextItem → Said → AtOffice S → Type 0
  GoesItem old b item told new =
      (next : Book) × ItemTakes reads old.failed new.failed b item told next × IsLawful next × Keeps g new next
      × (old.failed ≡ false → LeavesOnly g (IsFailedItem reads item told) new next)

  -- where it hasn't failed, it leaves the book alone
  left_alone : (Such : Call → Type 0) (old new : AtOffice S) (b : Book) → new.failed ≡ old.failed → Keeps g new b → old.failed ≡ false → LeavesOnly g Such new b
  left_alone Such old new b same keeps working = leaves_working g Such new b (same ∙ working) keeps

  goes_call : (b : Book) (heading : Heading) (body : List ℕ) (read : Result Call Refusal) → reads heading body read
      → (old : AtOffice S) (told : Said) (new : AtOffice S) → IsHonest g new → IsLawful b → Keeps g old b
      → CallSteps g reads read old told new
      → GoesItem old b (whole heading body) told new
  goes_call b heading body (Ok call) is old told new honest lawful keeps steps =
      let there = steps.2.steps honest b lawful keeps in (
        there.0,
        inl (Ok call, is, (steps.0, steps.1, there.1)),
        there.2,
        there.3,
        λ working. leaves_such g (ByCall call steps.0) (IsFailedItem reads (whole heading body) told) new there.0
            (λ c one. (subst (λ (k : Call). reads heading body (Ok k)) (sym one.0) is, ap ends_stream (steps.1 ∙ ap said_of one.1.1)))
            (leaves_by g old new call steps.0 b there.0 working keeps there.1 there.3 (steps.2.leaves honest b lawful keeps)),
      )
  goes_call b heading body (Err refused) is old told new honest lawful keeps steps =
      let kept = goes_on_unchanged g old new steps.1 honest b lawful keeps in
      (b, inl (Err refused, is, (steps.0, refl, kept.0)), lawful, kept.1, left_alone (IsFailedItem reads (whole heading body) told) old new b kept.0 kept.1)

  goes_whole : (b : Book) (heading : Heading) (body : List ℕ) (old : AtOffice S) (told : Said) (new : AtOffice S)
      → IsHonest g new → IsLawful b → Keeps g old b → RequestSteps g reads old heading body told new
      → GoesItem old b (whole heading body) told new
  goes_whole b heading body old told new honest lawful keeps (inl steps) =
      goes_call b heading body steps.0 steps.1 old told new honest lawful keeps steps.2
  goes_whole b heading body old told new honest lawful keeps (inr none) =
      let kept = none.1 honest b lawful keeps in
      (b, inr (none.0, refl, kept.0), lawful, kept.1, left_alone (IsFailedItem reads (whole heading body) told) old new b kept.0 kept.1)

  -- ---- an office that has failed

  request_stays : (old : AtOffice S) (heading : Heading) (body : List ℕ) (told : Said) (new : AtOffice S) → RequestSteps g reads old heading body told new → StaysFailed old new
  request_stays old heading body told new (inl (Ok call, is, steps)) = steps.2.stays
  request_stays old heading body told new (inl (Err refused, is, steps)) = λ was. steps.1
  request_stays old heading body told new (inr none) = none.2

  -- the book stays, too
  call_stays : (failed then : Bool) (b : Book) (read : Result Call Refusal) (told : Said) (next : Book) → failed ≡ true → CallTakes reads failed then b read told next → (then ≡ true) × (next ≡ b)
  call_stays true true b (Ok call) told next was takes = (refl, stays_after true b call takes.0 next takes.2)
  call_stays true false b (Ok call) told next was takes = absurd takes.2
  call_stays false then b (Ok call) told next was takes = absurd (cc was)
  call_stays failed then b (Err refused) told next was takes = (takes.2 ∙ was, takes.1)

  item_stays : (failed then : Bool) (b : Book) (item : NextItem) (told : Said) (next : Book) → failed ≡ true → ItemTakes reads failed then b item told next → (then ≡ true) × (next ≡ b)
  item_stays failed then b (whole heading body) told next was (inl takes) = call_stays failed then b takes.0 told next was takes.2
  item_stays failed then b (whole heading body) told next was (inr none) = (none.2 ∙ was, none.1)
  item_stays failed then b (bad rule bare) told next was takes = (takes.2 ∙ was, takes.1)
  item_stays failed then b ended told next was takes = absurd takes

  pub items_stay : (failed end : Bool) (b : Book) (items : List NextItem) (saids : List Said) (last : Book) → failed ≡ true → ItemsTake reads failed end b items saids last → (end ≡ true) × (last ≡ b)
  items_stay failed end b [] [] last was takes = (takes.0 ∙ was, takes.1)
  items_stay failed end b [] (told ∷ saids) last was takes = absurd takes
  items_stay failed end b (item ∷ items) [] last was takes = absurd takes
  items_stay failed end b (item ∷ items) (told ∷ saids) last was takes =
      let one = item_stays failed takes.0 b item told takes.1 was takes.2 in
      let rest = items_stay takes.0 end takes.1 items saids last one.0 takes.3 in
      (rest.0, rest.1 ∙ one.1)

  module _ (responds : AtOffice S → Heading → List ℕ → Said → AtOffice S → Type 0)
      (steps : (old : AtOffice S) (heading : Heading) (body : List ℕ) (told : Said) (new : AtOffice S)
      → responds old heading body told new
      → (IsHonest g new → IsHonest g old) × RequestSteps g reads old heading body told new) where
    -- an end that is honest was so before
    pub was_honest : (old : AtOffice S) (items : List NextItem) (saids : List Said) (new : AtOffice S)
        → Responds responds old items saids new → IsHonest g new → IsHonest g old
    was_honest old [] [] new runs honest = subst (λ (a : AtOffice S). IsHonest g a) runs honest
    was_honest old [] (told ∷ saids) new runs honest = absurd runs
    was_honest old (item ∷ items) [] new runs honest = absurd runs
    was_honest old (whole heading body ∷ items) (told ∷ saids) new runs honest =
        (steps old heading body told runs.0 runs.1).0 (was_honest runs.0 items saids new runs.2 honest)
    was_honest old (bad rule bare ∷ items) (told ∷ saids) new runs honest =
        subst (λ (a : AtOffice S). IsHonest g a) runs.1.1 (was_honest runs.0 items saids new runs.2 honest)
    was_honest old (ended ∷ items) (told ∷ saids) new runs honest = absurd runs.1

    -- an office that has failed stays so
    pub responds_stay : (old : AtOffice S) (items : List NextItem) (saids : List Said) (new : AtOffice S)
        → Responds responds old items saids new → StaysFailed old new
    responds_stay old [] [] new runs was = runs
    responds_stay old [] (told ∷ saids) new runs was = absurd runs
    responds_stay old (item ∷ items) [] new runs was = absurd runs
    responds_stay old (whole heading body ∷ items) (told ∷ saids) new runs was =
        let one = request_stays old heading body told runs.0 (steps old heading body told runs.0 runs.1).1 was in
        responds_stay runs.0 items saids new runs.2 (ap (λ (a : AtOffice S). a.failed) one ∙ was) ∙ one
    responds_stay old (bad rule bare ∷ items) (told ∷ saids) new runs was =
        responds_stay runs.0 items saids new runs.2 (ap (λ (a : AtOffice S). a.failed) runs.1.1 ∙ was) ∙ runs.1.1
    responds_stay old (ended ∷ items) (told ∷ saids) new runs was = absurd runs.1

    -- the book after all items, and what a crash leaves of an office that hadn't failed
    abbrev pub AllGo : AtOffice S → Book → List NextItem → List Said → AtOffice S → Type 0
    AllGo old b items saids new =
        (last : Book) × ItemsTake reads old.failed new.failed b items saids last
        × IsLawful last × Keeps g new last
        × (old.failed ≡ false → LeavesOnly g (IsFailedRequest reads items saids) new last)

    -- after an item, what a crash leaves after the rest
    left_behind : (mid : AtOffice S) (next : Book) (item : NextItem) (told : Said) (items : List NextItem) (saids : List Said) (new : AtOffice S)
        → Responds responds mid items saids new → (rest : AllGo mid next items saids new) → LeavesOnly g (IsFailedItem reads item told) mid next
        → LeavesOnly g (IsFailedRequest reads (item ∷ items) (told ∷ saids)) new rest.0
    left_behind mid next item told items saids new runs rest one = by mid.failed refl
      where
        Such : Call → Type 0
        Such = IsFailedRequest reads (item ∷ items) (told ∷ saids)

        by : (f : Bool) → mid.failed ≡ f → LeavesOnly g Such new rest.0
        by false is = leaves_such g (IsFailedRequest reads items saids) Such new rest.0 (λ c late. inr late) (rest.4 is)
        by true is =
            let same = responds_stay mid items saids new runs is in
            let stays = items_stay mid.failed new.failed next items saids rest.0 is rest.1 in
            subst (λ (p : AtOffice S × Book). LeavesOnly g Such p.0 p.1) (λ i. (sym same i, sym stays.1 i))
            (leaves_such g (IsFailedItem reads item told) Such mid next (λ c early. inl early) one)

    pub items_go : (old : AtOffice S) (items : List NextItem) (saids : List Said) (new : AtOffice S)
        → Responds responds old items saids new → IsHonest g new
        → (b : Book) → IsLawful b → Keeps g old b
        → AllGo old b items saids new
    items_go old [] [] new runs honest b lawful keeps =
        let kept : Keeps g new b = subst (λ (a : AtOffice S). Keeps g a b) (sym runs) keeps in
        let same = ap (λ (a : AtOffice S). a.failed) runs in
        (b, (same, refl), lawful, kept, left_alone (IsFailedRequest reads [] []) old new b same kept)
    items_go old [] (told ∷ saids) new runs honest b lawful keeps = absurd runs
    items_go old (item ∷ items) [] new runs honest b lawful keeps = absurd runs
    items_go old (whole heading body ∷ items) (told ∷ saids) new runs honest b lawful keeps =
        let here = was_honest runs.0 items saids new runs.2 honest in
        let one = goes_whole b heading body old told runs.0 here lawful keeps (steps old heading body told runs.0 runs.1).1 in
        let rest = items_go runs.0 items saids new runs.2 honest one.0 one.2 one.3 in
        (rest.0, (runs.0.failed, one.0, one.1, rest.1), rest.2, rest.3, λ working. left_behind runs.0 one.0 (whole heading body) told items saids new runs.2 rest (one.4 working))
    items_go old (bad rule bare ∷ items) (told ∷ saids) new runs honest b lawful keeps =
        let kept : Keeps g runs.0 b = subst (λ (a : AtOffice S). Keeps g a b) (sym runs.1.1) keeps in
        let rest = items_go runs.0 items saids new runs.2 honest b lawful kept in
        let same = ap (λ (a : AtOffice S). a.failed) runs.1.1 in
        (rest.0, (runs.0.failed, b, (runs.1.0, refl, same), rest.1), rest.2, rest.3, λ working. left_behind runs.0 b (bad rule bare) told items saids new runs.2 rest (left_alone (IsFailedItem reads (bad rule bare) told) old runs.0 b same kept working))
    items_go old (ended ∷ items) (told ∷ saids) new runs honest b lawful keeps = absurd runs.1

    pub served : (old : AtOffice S) → old.failed ≡ false → (bytes written written' : Option (List ℕ)) (new : AtOffice S) (done : Served)
        → Serves responds old bytes written written' new done → IsHonest g new
        → (b : Book) → IsLawful b → Keeps g old b
        → IsServed g reads old b bytes written written' new done
    served old working bytes written written' new done all honest b lawful keeps =
        let there = items_go old all.items all.saids new all.runs honest b lawful keeps in
        record {
          items = all.items;
          saids = all.saids;
          last = there.0;
          cut = all.cut;
          takes = there.1;
          wrote = all.wrote;
          count = all.count;
          rule = all.rule;
          lawful = there.2;
          keeps = there.3;
          left = there.4 working;
        }

    pub served_part : (old : AtOffice S) → old.failed ≡ false → (bytes written written' : Option (List ℕ)) (new : AtOffice S) (answered : ℕ)
        → ServesPart responds old bytes written written' new answered → IsHonest g new
        → (b : Book) → IsLawful b → Keeps g old b
        → IsServedPart g reads old b bytes written written' new answered
    served_part old working bytes written written' new answered all honest b lawful keeps =
        let there = items_go old (all.items ++ all.last) (all.saids ++ all.last_said) new all.runs honest b lawful keeps in
        record {
          items = all.items;
          saids = all.saids;
          more = all.last;
          more_said = all.last_said;
          last = there.0;
          begins = all.begins;
          takes = there.1;
          one = all.one;
          part = all.part;
          rest = all.rest;
          wrote = all.wrote;
          split = all.split;
          goes_on = all.goes_on;
          proper = all.proper;
          count = all.count;
          lawful = there.2;
          keeps = there.3;
          left = there.4 working;
        }
