-- The tables of a book, after a reminder run more.
use Rattle.std.proofs.Common.{◌≡◌, ℕ, ◌+◌, List, [], ◌∷◌, ◌++◌, length, None, refl, sym, ap, ◌∙◌, subst, arith, length-append}
use Rattle.clear_values.specs.declared.callers.Caller.{Caller}
use Rattle.clear_values.specs.declared.replies.Reply.{Reply}
use Rattle.clear_values.specs.declared.replies.Reply.TheVariants.{Reminded}
use Rattle.clear_values.specs.declared.rows.Change.TheVariants.{AddRun}
use Rattle.clear_values.specs.declared.rows.ReminderRow.{ReminderRow}
use Rattle.clear_values.specs.declared.rows.RunRow.{RunRow}
use Rattle.clear_values.specs.Keyed.{with_row, with_rows}
use Rattle.clear_book.specs.declared.calls.Call.TheVariants.{Do}
use Rattle.clear_book.specs.declared.calls.Command.TheVariants.{RemindRun}
use Rattle.clear_book.specs.Book.{Book, entry, entry_under}
use Rattle.clear_book.specs.Judge.{Verdict, new_reply, judge}
use Rattle.clear_book.specs.Machine.{IsLawful, step, after, appended}
use Rattle.clear_book.specs.Reminders.{reminders_due, reminders_of, runs_of}
use Rattle.clear_book.specs.Tables.{Tables, Stands, reminder_key, run_key, changed, noted}
use Rattle.clear_laws.proofs.JudgeLemmas.{unrefused}
use Rattle.clear_laws.proofs.RemindersLemmas.{reminders_last, run_last}
use Rattle.clear_laws.proofs.TablesLemmas.{charges_left, employer_rows_left, employers_left, rates_left, rest_with_runs}

module _ (b : Book) (t : Tables) (stands : Stands b t) (caller : Caller) (number day : ℕ) where
  -- the tables with a run of this number and these reminders
  with_run : IsLawful b → (n : ℕ) → n ≡ length (runs_of b.entries) + 1 → (rows : List ReminderRow) → rows ≡ reminders_due b day → entry_under b.entries caller number ≡ None
      → Stands (appended b (entry caller number day RemindRun (Reminded n (length rows)))) (noted (entry caller number day RemindRun (Reminded n (length rows))) (changed (AddRun (record { run = n; day = day; firms = length rows }) rows) t))
  with_run lawful n next rows are free =
      let row : RunRow = record { run = n; day = day; firms = length rows } in
      let x = entry caller number day RemindRun (Reminded n (length rows)) in
      let runs : with_row run_key t.runs row ≡ runs_of b.entries ++ row ∷ [] =
      ap (λ (all : List RunRow). with_row run_key all row) stands.runs ∙ run_last b lawful row next in
      let more : t.last_run + 1 ≡ length (runs_of b.entries ++ row ∷ []) =
      omega (arith, stands.last_run, length-append (runs_of b.entries) (row ∷ [])) in
      let reminders : with_rows reminder_key t.reminders rows ≡ reminders_of b ++ reminders_due b day =
      (λ i. with_rows reminder_key (stands.reminders i) (are i)) ∙ reminders_last b lawful day in
      rest_with_runs b t stands x (record { no_report = refl; no_move = λ rows. refl; no_rows = refl; no_release = refl; no_claims = record { kept = λ claim. refl; none = λ last. refl }; no_list = refl })
      free t.rates t.employers (rates_left b t stands x refl) (charges_left b t stands x refl refl) (employers_left b t stands x (λ e old. refl)) (employer_rows_left b t stands x refl) stands.employers_in_order
      (with_row run_key t.runs row) (t.last_run + 1) (with_rows reminder_key t.reminders rows) runs more reminders

  pub run_takes : IsLawful b → (reply : Reply) → judge b (Do caller number day RemindRun) ≡ new_reply reply → (n : ℕ) (rows : List ReminderRow) → n ≡ length (runs_of b.entries) + 1 → rows ≡ reminders_due b day
      → Stands (step b (Do caller number day RemindRun)) (noted (entry caller number day RemindRun reply) (changed (AddRun (record { run = n; day = day; firms = length rows }) rows) t))
  run_takes lawful reply judged n rows next are =
      let said = unrefused b caller number day RemindRun reply judged in
      let replied : Reminded n (length rows) ≡ reply = (λ i. Reminded (next i) (length (are i))) ∙ said.replied in
      subst (λ (p : Verdict × Reply). Stands (after b (Do caller number day RemindRun) p.0) (noted (entry caller number day RemindRun p.1) (changed (AddRun (record { run = n; day = day; firms = length rows }) rows) t)))
      (λ i. (sym (judged ∙ ap new_reply (sym replied)) i, replied i)) (with_run lawful n next rows are said.free)
