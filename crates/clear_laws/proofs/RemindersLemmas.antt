-- The reminder runs of a book and its reminders: which commands make none, and the numbers and the order of those of a lawful book.
use Rattle.std.proofs.Common.{◌≡◌, ℕ, ◌+◌, ◌<◌, ◌≤◌, List, [], ◌∷◌, ◌++◌, length, map, Option, Some, None, Bool, true, false, cond, refl, sym, ap, ◌∙◌, subst, arith, length-append}
use Rattle.std.proofs.lemmas.Bool.Decides.{nat_tests}
use Rattle.std.proofs.lemmas.List.{append-nil}
use Rattle.std.specs.List.{range_with_len, cons_option, AllByRecursion, filter_map}
use Rattle.std.specs.Option.{option_map}
use Rattle.clear_values.specs.declared.replies.Reply.{Reply}
use Rattle.clear_values.specs.declared.rows.ReminderRow.{ReminderRow}
use Rattle.clear_values.specs.declared.rows.RunRow.{RunRow}
use Rattle.clear_values.specs.Keyed.{is_before, AllBehind, AreInOrder, with_row, with_rows}
use Rattle.clear_book.specs.declared.calls.Command.{Command}
use Rattle.clear_book.specs.declared.calls.Command.TheVariants.{RemindRun}
use Rattle.clear_book.specs.Book.{RateTable, Book, Entry}
use Rattle.clear_book.specs.Calls.{is_remind_run}
use Rattle.clear_book.specs.Judge.{reply_to}
use Rattle.clear_book.specs.Machine.{AreJudged, IsLawful, appended}
use Rattle.clear_book.specs.Reminders.{LastReminder, Overdue, is_in_default, last_among, level_due, overdue_on, reminder, reminder_due, reminders_after, reminders_behind, reminders_by, reminders_due, reminders_of, runs_by, runs_in, runs_of}
use Rattle.clear_book.specs.Tables.{reminder_key, run_key}
use Rattle.clear_book.specs.Workers.{employers_of, number_key}
use Rattle.clear_laws.proofs.JudgeLemmas.{unrefused}
use Rattle.clear_laws.proofs.LinesLemmas.{follow-append}
use Rattle.clear_laws.proofs.SerialLemmas.{follow-between, follow-in_order, follow-last, in_order-both, with_rows-last}
use Rattle.clear_laws.proofs.WorkersLemmas.{employers_right}
use Rattle.clear_values.proofs.KeyedLemmas.{first_less}
use Rattle.clear_values.proofs.ListLemmas.{both, each}

-- ---- a command that is no reminder run leaves the runs and the reminders

no_runs : (t : ℕ) (reply : Reply) (command : Command) → is_remind_run command ≡ false → runs_by t reply command ≡ []
no_runs t reply RemindRun other = absurd (cc other)
no_runs t reply command other = refl

no_reminders : (b : Book) (given : List ReminderRow) (t : ℕ) (command : Command) → is_remind_run command ≡ false → reminders_by b given t command ≡ []
no_reminders b given t RemindRun other = absurd (cc other)
no_reminders b given t command other = refl

pub runs_left : (xs : List Entry) (x : Entry) → is_remind_run x.command ≡ false → runs_of (x ∷ xs) ≡ runs_of xs
runs_left xs x other = ap (λ (new : List RunRow). runs_of xs ++ new) (no_runs x.day x.reply x.command other) ∙ append-nil (runs_of xs)

pub reminders_left : (b : Book) (x : Entry) → is_remind_run x.command ≡ false → reminders_of (appended b x) ≡ reminders_of b
reminders_left b x other =
    ap (λ (new : List ReminderRow). reminders_of b ++ new) (no_reminders b (reminders_of b) x.day x.command other)
    ∙ append-nil (reminders_of b)

-- ---- the numbers of runs

abbrev run_no : RunRow → ℕ
run_no run = run.run

-- the run that a command makes takes the next number
next_run : (b : Book) (t : ℕ) (reply : Reply) (command : Command) → reply_to b t command ≡ reply → map run_no (runs_by t reply command) ≡ range_with_len (length (runs_of b.entries) + 1) (length (runs_by t reply command))
next_run b t reply RemindRun replied =
    subst (λ (r : Reply). map run_no (runs_in t r) ≡ range_with_len (length (runs_of b.entries) + 1) (length (runs_in t r))) replied refl
next_run b t reply command replied = refl

-- the first run has number 1, and each further one the next
pub runs_numbered : (rates : RateTable) (xs : List Entry) → AreJudged rates xs → map (λ (run : RunRow). run.run) (runs_of xs) ≡ range_with_len 1 (length (runs_of xs))
runs_numbered rates [] h = refl
runs_numbered rates (x ∷ xs) h =
    let b : Book = record { opening = rates; entries = xs } in
    let said = unrefused b x.caller x.number x.day x.command x.reply h.2 in
    follow-append run_no (runs_of xs) (runs_by x.day x.reply x.command) (length (runs_of xs)) refl (runs_numbered rates xs h.0) (next_run b x.day x.reply x.command said.replied)

-- so they rise
pub runs_in_order : (rates : RateTable) (xs : List Entry) → AreJudged rates xs → AreInOrder run_key (runs_of xs)
runs_in_order rates xs h = follow-in_order run_no 1 (length (runs_of xs)) (runs_of xs) (runs_numbered rates xs h)

-- a further one comes behind those of a lawful book
pub run_last : (b : Book) → IsLawful b → (run : RunRow) → run.run ≡ length (runs_of b.entries) + 1 → with_row run_key (runs_of b.entries) run ≡ runs_of b.entries ++ run ∷ []
run_last b lawful run is = follow-last run_no (length (runs_of b.entries)) (runs_of b.entries) run (runs_numbered b.opening b.entries lawful) is

-- each is from 1 to as many as there are runs
pub runs_between : (rates : RateTable) (xs : List Entry) → AreJudged rates xs → AllByRecursion (λ run. (0 < run.run) × (run.run ≤ length (runs_of xs))) (runs_of xs)
runs_between rates xs h = follow-between run_no 0 (length (runs_of xs)) 1 (length (runs_of xs)) (runs_of xs) (omega arith) (omega arith) (runs_numbered rates xs h)

-- ---- the reminders of one run

first_same : (a : ℕ) (k l : List ℕ) → is_before k l ≡ true → is_before (a ∷ k) (a ∷ l) ≡ true
first_same a k l h = grind (arith, nat_tests)

-- a reminder is of its run and for its firm
of_run : (run e : ℕ) (overdue : Overdue) (last : Option LastReminder) (t : ℕ) (row : ReminderRow) → reminder_due run e overdue last t ≡ Some row → (row.run ≡ run) × (row.employer ≡ e)
of_run run e overdue last t row h = told (is_in_default overdue) (level_due last t) h
  where
    told : (b : Bool) (level : Option ℕ) → cond b (option_map (reminder run e overdue) level) None ≡ Some row → (row.run ≡ run) × (row.employer ≡ e)
    told true None k = absurd (cc k)
    told true (Some level) k =
        let same : reminder run e overdue level ≡ row = cc k in
        (ap (λ (r : ReminderRow). r.run) (sym same), ap (λ (r : ReminderRow). r.employer) (sym same))
    told false level k = absurd (cc k)

-- rows of one run, one a firm at most
module _ (run : ℕ) (due : ℕ → Option ReminderRow) (of : (e : ℕ) (row : ReminderRow) → due e ≡ Some row → (row.run ≡ run) × (row.employer ≡ e)) where
  all_of_run : (firms : List ℕ) → AllByRecursion (λ row. row.run ≡ run) (filter_map due firms)
  all_of_run [] = tt
  all_of_run (e ∷ firms) = told (due e) refl (all_of_run firms)
    where
      told : (o : Option ReminderRow) → due e ≡ o → AllByRecursion (λ row. row.run ≡ run) (filter_map due firms) → AllByRecursion (λ row. row.run ≡ run) (cons_option o (filter_map due firms))
      told None is rest = rest
      told (Some row) is rest = ((of e row is).0, rest)

  behind_firm : (e : ℕ) (firms : List ℕ) → AllBehind number_key (e ∷ []) firms → AllBehind reminder_key (run ∷ e ∷ []) (filter_map due firms)
  behind_firm e [] behind = tt
  behind_firm e (d ∷ firms) behind = told (due d) refl (behind_firm e firms behind.1)
    where
      told : (o : Option ReminderRow) → due d ≡ o → AllBehind reminder_key (run ∷ e ∷ []) (filter_map due firms) → AllBehind reminder_key (run ∷ e ∷ []) (cons_option o (filter_map due firms))
      told None is rest = rest
      told (Some row) is rest =
          let row_of = of d row is in
          (subst (λ (p : ℕ × ℕ). is_before (run ∷ e ∷ []) (p.0 ∷ p.1 ∷ []) ≡ true) (λ i. (sym row_of.0 i, sym row_of.1 i)) (first_same run (e ∷ []) (d ∷ []) behind.0), rest)

  -- where the firms rise, so do the rows
  firms_in_order : (firms : List ℕ) → AreInOrder number_key firms → AreInOrder reminder_key (filter_map due firms)
  firms_in_order [] order = tt
  firms_in_order (e ∷ firms) order = told (due e) refl (firms_in_order firms order.1)
    where
      told : (o : Option ReminderRow) → due e ≡ o → AreInOrder reminder_key (filter_map due firms) → AreInOrder reminder_key (cons_option o (filter_map due firms))
      told None is rest = rest
      told (Some row) is rest =
          let row_of = of e row is in
          (subst (λ (p : ℕ × ℕ). AllBehind reminder_key (p.0 ∷ p.1 ∷ []) (filter_map due firms)) (λ i. (sym row_of.0 i, sym row_of.1 i)) (behind_firm e firms order.0), rest)

-- so it is with what a run on a day gives
module _ (b : Book) (given : List ReminderRow) (t : ℕ) where
  abbrev due_to : ℕ → Option ReminderRow
  due_to e = reminder_due (length (runs_of b.entries) + 1) e (overdue_on b t e) (last_among (runs_of b.entries) given e) t

  due_of : (e : ℕ) (row : ReminderRow) → due_to e ≡ Some row → (row.run ≡ length (runs_of b.entries) + 1) × (row.employer ≡ e)
  due_of e row h = of_run (length (runs_of b.entries) + 1) e (overdue_on b t e) (last_among (runs_of b.entries) given e) t row h

  -- each is of the next run
  pub after_next : AllByRecursion (λ row. row.run ≡ length (runs_of b.entries) + 1) (reminders_after b given t)
  after_next = all_of_run (length (runs_of b.entries) + 1) due_to due_of (employers_of b.entries)

  after_in_order : IsLawful b → AreInOrder reminder_key (reminders_after b given t)
  after_in_order lawful = firms_in_order (length (runs_of b.entries) + 1) due_to due_of (employers_of b.entries) (employers_right b lawful).order

-- ---- the runs of reminders

by_between : (b : Book) (given : List ReminderRow) (t : ℕ) (reply : Reply) (command : Command) → reply_to b t command ≡ reply
    → AllByRecursion (λ row. (0 < row.run) × (row.run ≤ length (runs_of b.entries ++ runs_by t reply command))) (reminders_by b given t command)
by_between b given t reply RemindRun replied =
    let n = length (runs_of b.entries) in
    let firms = length (reminders_due b t) in
    let next : RunRow = record { run = n + 1; day = t; firms = firms } in
    subst (λ (r : Reply). AllByRecursion (λ row. (0 < row.run) × (row.run ≤ length (runs_of b.entries ++ runs_in t r))) (reminders_after b given t)) replied
    (each (λ row. row.run ≡ n + 1) (λ row. (0 < row.run) × (row.run ≤ length (runs_of b.entries ++ next ∷ [])))
    (λ row e. (omega (arith, e), omega (arith, e, length-append (runs_of b.entries) (next ∷ [])))) (reminders_after b given t) (after_next b given t))
by_between b given t reply command replied = tt

-- each reminder is of one of the runs
pub reminders_between : (rates : RateTable) (xs : List Entry) → AreJudged rates xs → AllByRecursion (λ row. (0 < row.run) × (row.run ≤ length (runs_of xs))) (reminders_behind rates xs)
reminders_between rates [] h = tt
reminders_between rates (x ∷ xs) h =
    let b : Book = record { opening = rates; entries = xs } in
    let said = unrefused b x.caller x.number x.day x.command x.reply h.2 in
    let new = runs_by x.day x.reply x.command in
    both (λ row. (0 < row.run) × (row.run ≤ length (runs_of xs ++ new))) (reminders_of b) (reminders_by b (reminders_of b) x.day x.command)
    (each (λ row. (0 < row.run) × (row.run ≤ length (runs_of xs))) (λ row. (0 < row.run) × (row.run ≤ length (runs_of xs ++ new)))
    (λ row between. let high = between.1 in (between.0, omega (arith, high, length-append (runs_of xs) new))) (reminders_of b) (reminders_between rates xs h.0))
    (by_between b (reminders_of b) x.day x.reply x.command said.replied)

-- ---- their order

-- a row of an earlier run comes before those of a later one
behind_run : (row : ReminderRow) (run : ℕ) (rows : List ReminderRow) → row.run < run → AllByRecursion (λ later. later.run ≡ run) rows → AllBehind reminder_key (reminder_key row) rows
behind_run row run [] low all = tt
behind_run row run (later ∷ rows) low all =
    let is = all.0 in
    (first_less row.run later.run (row.employer ∷ []) (later.employer ∷ []) (omega (arith, low, is)), behind_run row run rows low all.1)

module _ (b : Book) (lawful : IsLawful b) (order : AreInOrder reminder_key (reminders_of b)) where
  -- those of a further run come behind all
  then_in_order : (t : ℕ) → AreInOrder reminder_key (reminders_of b ++ reminders_due b t)
  then_in_order t =
      let n = length (runs_of b.entries) in
      in_order-both reminder_key (reminders_of b) (reminders_due b t) order (after_in_order b (reminders_of b) t lawful)
      (each (λ row. (0 < row.run) × (row.run ≤ n)) (λ row. AllBehind reminder_key (reminder_key row) (reminders_due b t))
      (λ row between. let high = between.1 in behind_run row (n + 1) (reminders_due b t) (omega (arith, high)) (after_next b (reminders_of b) t)) (reminders_of b)
      (reminders_between b.opening b.entries lawful))

  by_in_order : (t : ℕ) (command : Command) → AreInOrder reminder_key (reminders_of b ++ reminders_by b (reminders_of b) t command)
  by_in_order t RemindRun = then_in_order t
  by_in_order t command = subst (AreInOrder reminder_key) (sym (append-nil (reminders_of b))) order

-- the reminders rise by run, then employer
pub reminders_in_order : (rates : RateTable) (xs : List Entry) → AreJudged rates xs → AreInOrder reminder_key (reminders_behind rates xs)
reminders_in_order rates [] h = tt
reminders_in_order rates (x ∷ xs) h =
    by_in_order (record { opening = rates; entries = xs }) h.0 (reminders_in_order rates xs h.0) x.day x.command

-- so those of a further run come last
pub reminders_last : (b : Book) → IsLawful b → (t : ℕ) → with_rows reminder_key (reminders_of b) (reminders_due b t) ≡ reminders_of b ++ reminders_due b t
reminders_last b lawful t =
    with_rows-last reminder_key (reminders_of b) (reminders_due b t) (then_in_order b lawful (reminders_in_order b.opening b.entries lawful) t)
