-- What reminder runs have reminded of: each run has just its reminders, and they stay; the levels, and how far the reminders of a firm lie apart.
use Rattle.std.proofs.Common.{◌≡◌, ℕ, ◌+◌, ◌<◌, ◌≤◌, List, [], ◌∷◌, ◌++◌, length, filter, Option, Some, None, IsSome, IfSome, min, Bool, true, false, cond, ◌==◌, ◌&&◌, nat_le, nat_lt, refl, sym, ap, ◌∙◌, subst, arith}
use Rattle.std.proofs.lemmas.Bool.Decides.{nat_tests}
use Rattle.std.proofs.lemmas.List.{append-nil}
use Rattle.std.proofs.lemmas.List.Elements.{filter-append}
use Rattle.std.specs.List.{AllByRecursion}
use Rattle.std.specs.Option.{option_map, option_map_or}
use Rattle.clear_values.specs.declared.replies.Reply.{Reply}
use Rattle.clear_values.specs.declared.rows.ReminderRow.{ReminderRow}
use Rattle.clear_values.specs.declared.rows.RunRow.{RunRow}
use Rattle.clear_values.specs.Keyed.{find_row, newer}
use Rattle.clear_book.specs.declared.calls.Command.{Command}
use Rattle.clear_book.specs.declared.calls.Command.TheVariants.{RemindRun}
use Rattle.clear_book.specs.Book.{Book, Entry, RateTable}
use Rattle.clear_book.specs.Documents.Reminders.{reminders_text}
use Rattle.clear_book.specs.Judge.{own_rule, reply_to, run_text}
use Rattle.clear_book.specs.Machine.{AreJudged, IsLawful, appended}
use Rattle.clear_book.specs.Reminded.{IsRunOf}
use Rattle.clear_book.specs.Reminders.{LastReminder, Overdue, is_in_default, last_among, last_reminder, level_due, overdue_on, reminder, reminder_due, reminders_behind, reminders_by, reminders_due, reminders_in, reminders_of, run_of, runs_by, runs_in, runs_of}
use Rattle.clear_book.specs.Tables.{run_key}
use Rattle.clear_book.specs.Workers.{employers_of}
use Rattle.clear_values.proofs.KeyedChangesLemmas.{found_holds}
use Rattle.clear_values.proofs.KeyedLemmas.{found_key}
use Rattle.clear_values.proofs.KeyedRowsLemmas.{find_row-append}
use Rattle.clear_values.proofs.ListLemmas.{both, each}
use Rattle.clear_laws.proofs.DistinctLemmas.{itself}
use Rattle.clear_laws.proofs.JudgeLemmas.{unrefused}
use Rattle.clear_laws.proofs.RemindersLemmas.{after_next, reminders_between, runs_between}
use Rattle.clear_laws.proofs.ReminderRangeLemmas.{chosen_hold, level-in-range}
use Rattle.clear_laws.proofs.RunRangeLemmas.{some_due}

-- ---- the reminders of a run

other_run : (a n : ℕ) → a < n → a == n ≡ false
other_run a n h = grind (arith, nat_tests)

later_run : (a n : ℕ) → n < a → a == n ≡ false
later_run a n h = grind (arith, nat_tests)

same_run : (a n : ℕ) → a ≡ n → a == n ≡ true
same_run a n h = grind (arith, nat_tests)

-- what passes no test is not there, and all that passes it is
none_pass : {X : Type 0} (test : X → Bool) (xs : List X) → AllByRecursion (λ x. test x ≡ false) xs → filter test xs ≡ []
none_pass test [] all = refl
none_pass test (x ∷ xs) all = ap (λ b. cond b (x ∷ filter test xs) (filter test xs)) all.0 ∙ none_pass test xs all.1

all_pass : {X : Type 0} (test : X → Bool) (xs : List X) → AllByRecursion (λ x. test x ≡ true) xs → filter test xs ≡ xs
all_pass test [] all = refl
all_pass test (x ∷ xs) all = ap (λ b. cond b (x ∷ filter test xs) (filter test xs)) all.0 ∙ ap (λ ys. x ∷ ys) (all_pass test xs all.1)

abbrev of_run : ℕ → ReminderRow → Bool
of_run run row = row.run == run

module _ (b : Book) where
  abbrev last_run : ℕ
  last_run = length (runs_of b.entries)

  -- those that a command gives are of no run that there is
  none_of : (t n : ℕ) (command : Command) → n ≤ last_run → filter (of_run n) (reminders_by b (reminders_of b) t command) ≡ []
  none_of t n RemindRun low =
      none_pass (of_run n) (reminders_due b t)
      (each (λ row. row.run ≡ last_run + 1) (λ row. of_run n row ≡ false) (λ row next. later_run row.run n (omega (arith, next, low))) (reminders_due b t) (after_next b (reminders_of b) t))
  none_of t n command low = refl

  -- so the reminders of each run that there is stay
  still_in : (x : Entry) (n : ℕ) → n ≤ last_run → reminders_in (appended b x) n ≡ reminders_in b n
  still_in x n low =
      filter-append (of_run n) (reminders_of b) (reminders_by b (reminders_of b) x.day x.command)
      ∙ ap (λ rows. reminders_in b n ++ rows) (none_of x.day n x.command low)
      ∙ append-nil (reminders_in b n)

  -- and those of the next are just the new ones
  next_in : (t : ℕ) → IsLawful b → filter (of_run (last_run + 1)) (reminders_of b ++ reminders_due b t) ≡ reminders_due b t
  next_in t lawful =
      filter-append (of_run (last_run + 1)) (reminders_of b) (reminders_due b t)
      ∙ (λ i. old i ++ new i)
    where
      old : filter (of_run (last_run + 1)) (reminders_of b) ≡ []
      old =
          none_pass (of_run (last_run + 1)) (reminders_of b)
          (each (λ row. (0 < row.run) × (row.run ≤ last_run)) (λ row. of_run (last_run + 1) row ≡ false) (λ row between. let high = between.1 in other_run row.run (last_run + 1) (omega (arith, high)))
          (reminders_of b) (reminders_between b.opening b.entries lawful))

      new : filter (of_run (last_run + 1)) (reminders_due b t) ≡ reminders_due b t
      new =
          all_pass (of_run (last_run + 1)) (reminders_due b t)
          (each (λ row. row.run ≡ last_run + 1) (λ row. of_run (last_run + 1) row ≡ true) (λ row next. same_run row.run (last_run + 1) next) (reminders_due b t) (after_next b (reminders_of b) t))

-- ---- each run has just its reminders

new_run : (b : Book) (t : ℕ) (reply : Reply) (command : Command) → IsLawful b → own_rule b t command ≡ None → reply_to b t command ≡ reply
    → AllByRecursion (λ run. (1 ≤ run.firms) × (run.firms ≡ length (filter (of_run run.run) (reminders_of b ++ reminders_by b (reminders_of b) t command)))) (runs_by t reply command)
new_run b t reply RemindRun lawful own replied =
    subst (λ (r : Reply). AllByRecursion (λ run. (1 ≤ run.firms) × (run.firms ≡ length (filter (of_run run.run) (reminders_of b ++ reminders_due b t)))) (runs_in t r)) replied
    ((some_due (reminders_due b t) own, ap length (sym (next_in b t lawful))), tt)
new_run b t reply command lawful own replied = tt

-- a run that there is has its reminders still
still_right : (b : Book) (x : Entry) (runs : List RunRow) → AllByRecursion (IsRunOf b) runs → AllByRecursion (λ run. (0 < run.run) × (run.run ≤ length (runs_of b.entries))) runs → AllByRecursion (IsRunOf (appended b x)) runs
still_right b x [] right between = tt
still_right b x (run ∷ runs) right between =
    (record { some = right.0.some; firms = right.0.firms ∙ ap length (sym (still_in b x run.run between.0.1)) }, still_right b x runs right.1 between.1)

pub runs_right : (rates : RateTable) (xs : List Entry) → AreJudged rates xs → AllByRecursion (IsRunOf (record { opening = rates; entries = xs })) (runs_of xs)
runs_right rates [] h = tt
runs_right rates (x ∷ xs) h =
    let b : Book = record { opening = rates; entries = xs } in
    let said = unrefused b x.caller x.number x.day x.command x.reply h.2 in
    let new = runs_by x.day x.reply x.command in
    both (IsRunOf (appended b x)) (runs_of xs) new
    (still_right b x (runs_of xs) (runs_right rates xs h.0) (runs_between rates xs h.0))
    (each (λ run. (1 ≤ run.firms) × (run.firms ≡ length (reminders_in (appended b x) run.run))) (IsRunOf (appended b x)) (λ run is. record { some = is.0; firms = is.1 })
    new (new_run b x.day x.reply x.command h.0 said.unruled said.replied))

-- ---- the run of each reminder is there

still_found : (old new : Option RunRow) → IsSome old → newer old new ≡ old
still_found None new h = absurd (cc h)
still_found (Some run) new h = refl

-- a run that is found is the same behind a further entry
run_stays : (xs : List Entry) (x : Entry) (n : ℕ) → IsSome (run_of xs n) → run_of (x ∷ xs) n ≡ run_of xs n
run_stays xs x n there =
    find_row-append run_key (runs_of xs) (runs_by x.day x.reply x.command) (n ∷ [])
    ∙ still_found (run_of xs n) (find_row run_key (runs_by x.day x.reply x.command) (n ∷ [])) there

new_there : (b : Book) (t : ℕ) (reply : Reply) (command : Command) → reply_to b t command ≡ reply
    → AllByRecursion (λ row. IsSome (find_row run_key (runs_of b.entries ++ runs_by t reply command) (row.run ∷ []))) (reminders_by b (reminders_of b) t command)
new_there b t reply RemindRun replied =
    subst (λ (r : Reply). AllByRecursion (λ row. IsSome (find_row run_key (runs_of b.entries ++ runs_in t r) (row.run ∷ []))) (reminders_due b t)) replied
    (each (λ row. row.run ≡ n) (λ row. IsSome (find_row run_key (runs_of b.entries ++ next ∷ []) (row.run ∷ [])))
    (λ row is. subst (λ (k : ℕ). IsSome (find_row run_key (runs_of b.entries ++ next ∷ []) (k ∷ []))) (sym is) found) (reminders_due b t) (after_next b (reminders_of b) t))
  where
    n : ℕ
    n = length (runs_of b.entries) + 1

    next : RunRow
    next = record { run = n; day = t; firms = length (reminders_due b t) }

    told : (old : Option RunRow) → IsSome (newer old (Some next))
    told None = refl
    told (Some run) = refl

    found : IsSome (find_row run_key (runs_of b.entries ++ next ∷ []) (n ∷ []))
    found =
        subst (λ (o : Option RunRow). IsSome o)
        (sym (find_row-append run_key (runs_of b.entries) (next ∷ []) (n ∷ []) ∙ ap (λ c. newer (run_of b.entries n) (cond (c && true) (Some next) None)) (itself n)))
        (told (run_of b.entries n))
new_there b t reply command replied = tt

pub run_there : (rates : RateTable) (xs : List Entry) → AreJudged rates xs → AllByRecursion (λ row. IsSome (run_of xs row.run)) (reminders_behind rates xs)
run_there rates [] h = tt
run_there rates (x ∷ xs) h =
    let b : Book = record { opening = rates; entries = xs } in
    let said = unrefused b x.caller x.number x.day x.command x.reply h.2 in
    both (λ row. IsSome (run_of (x ∷ xs) row.run)) (reminders_of b) (reminders_by b (reminders_of b) x.day x.command)
    (each (λ row. IsSome (run_of xs row.run)) (λ row. IsSome (run_of (x ∷ xs) row.run)) (λ row there. subst (λ (o : Option RunRow). IsSome o) (sym (run_stays xs x row.run there)) there)
    (reminders_of b) (run_there rates xs h.0))
    (new_there b x.day x.reply x.command said.replied)

-- ---- the document of a run stays

numbered_run : (b : Book) → IsLawful b → (n : ℕ) (found : Option RunRow) → run_of b.entries n ≡ found → IsSome found → n ≤ length (runs_of b.entries)
numbered_run b lawful n None is there = absurd (cc there)
numbered_run b lawful n (Some run) is there =
    let between = found_holds run_key (λ row. (0 < row.run) × (row.run ≤ length (runs_of b.entries))) (runs_of b.entries) (n ∷ []) run (runs_between b.opening b.entries lawful) is in
    let low = between.1 in
    let key : run.run ∷ [] ≡ n ∷ [] = found_key run_key (runs_of b.entries) (n ∷ []) run is in
    let number : run.run ≡ n = cc key in
    omega (arith, low, number)

pub text_stays : (x : Entry) (b : Book) (n : ℕ) → IsLawful (appended b x) → IsSome (run_of b.entries n) → run_text (appended b x) n ≡ run_text b n
text_stays x b n lawful there =
    let run = run_stays b.entries x n there in
    let rows = still_in b x n (numbered_run b lawful.0 n (run_of b.entries n) refl there) in
    λ i. option_map_or (λ run. reminders_text run (rows i)) (run i) []

-- ---- levels

abbrev HasLevel : ReminderRow → Type 0
HasLevel row = (1 ≤ row.level) × (row.level ≤ 3)

anything : {X : Type 0} (xs : List X) → AllByRecursion (λ x. Unit {0}) xs
anything [] = tt
anything (x ∷ xs) = (tt, anything xs)

due_level : (run e t : ℕ) (overdue : Overdue) (last : Option LastReminder) → IfSome (reminder_due run e overdue last t) HasLevel
due_level run e t overdue last = told (is_in_default overdue) (level_due last t) (level-in-range last t)
  where
    told : (c : Bool) (o : Option ℕ) → IfSome o (λ level. (1 ≤ level) × (level ≤ 3)) → IfSome (cond c (option_map (reminder run e overdue) o) None) HasLevel
    told true None level = tt
    told true (Some n) level = level
    told false o level = tt

by_level : (b : Book) (given : List ReminderRow) (t : ℕ) (command : Command) → AllByRecursion HasLevel (reminders_by b given t command)
by_level b given t RemindRun =
    let next = length (runs_of b.entries) + 1 in
    chosen_hold (λ e. Unit {0}) HasLevel (λ e. reminder_due next e (overdue_on b t e) (last_among (runs_of b.entries) given e) t)
    (λ e any. due_level next e t (overdue_on b t e) (last_among (runs_of b.entries) given e)) (employers_of b.entries) (anything (employers_of b.entries))
by_level b given t command = tt

pub levels_right : (rates : RateTable) (xs : List Entry) → AllByRecursion HasLevel (reminders_behind rates xs)
levels_right rates [] = tt
levels_right rates (x ∷ xs) =
    let b : Book = record { opening = rates; entries = xs } in
    both HasLevel (reminders_of b) (reminders_by b (reminders_of b) x.day x.command) (levels_right rates xs) (by_level b (reminders_of b) x.day x.command)

-- ---- days between the reminders of a firm

-- a level is due fourteen days after the last reminder or later
fortnight : (last : Option LastReminder) (t level : ℕ) → level_due last t ≡ Some level → IfSome last (λ l. l.day + 14 ≤ t)
fortnight None t level h = tt
fortnight (Some last) t level h = told (nat_lt t (last.day + 14)) refl h
  where
    not_before : nat_lt t (last.day + 14) ≡ false → last.day + 14 ≤ t
    not_before k = grind (arith, nat_tests)

    told : (early : Bool) → nat_lt t (last.day + 14) ≡ early → cond early None (cond (nat_le t (last.day + 60)) (Some (min (last.level + 1) 3)) (Some 1)) ≡ Some level → last.day + 14 ≤ t
    told true is k = absurd (cc k)
    told false is k = not_before is

module _ (b : Book) (t : ℕ) where
  abbrev IsApart : ReminderRow → Type 0
  IsApart row = IfSome (last_reminder b row.employer) (λ last. last.day + 14 ≤ t)

  due_apart : (e : ℕ) → IfSome (reminder_due (length (runs_of b.entries) + 1) e (overdue_on b t e) (last_reminder b e) t) IsApart
  due_apart e = told (is_in_default (overdue_on b t e)) (level_due (last_reminder b e) t) refl
    where
      told : (c : Bool) (o : Option ℕ) → level_due (last_reminder b e) t ≡ o → IfSome (cond c (option_map (reminder (length (runs_of b.entries) + 1) e (overdue_on b t e)) o) None) IsApart
      told true None is = tt
      told true (Some level) is = fortnight (last_reminder b e) t level is
      told false o is = tt

  pub reminders_apart : AllByRecursion IsApart (reminders_due b t)
  reminders_apart =
      chosen_hold (λ e. Unit {0}) IsApart (λ e. reminder_due (length (runs_of b.entries) + 1) e (overdue_on b t e) (last_reminder b e) t)
      (λ e any. due_apart e) (employers_of b.entries) (anything (employers_of b.entries))
