-- A payout list or a reminder run that is found and the lines in suspense are answered by their
-- documents.
use Rattle.std.proofs.Common.{◌≡◌, ◌==◌, ℕ, List, [], ◌∷◌, Option, Some, None, filter, is_some, sym, ap, subst, ◌∙◌, ◌≤◌, arith}
use Rattle.std.specs.List.{AllByRecursion}
use Rattle.std.specs.Option.{option_map_or}
use Rattle.clear_book.specs.declared.calls.Query.TheVariants.{Payout, Reminder, Suspense}
use Rattle.clear_book.specs.declared.outcomes.Answer.TheVariants.{Text}
use Rattle.clear_book.specs.declared.rows.BankRow.{BankRow}
use Rattle.clear_book.specs.declared.rows.ClaimRow.{ClaimRow}
use Rattle.clear_book.specs.declared.rows.ListRow.{ListRow}
use Rattle.clear_book.specs.declared.rows.ReminderRow.{ReminderRow}
use Rattle.clear_book.specs.declared.rows.RunRow.{RunRow}
use Rattle.clear_book.specs.Book.{Book}
use Rattle.clear_book.specs.Documents.Payout.{payout_text}
use Rattle.clear_book.specs.Documents.Reminders.{reminders_text}
use Rattle.clear_book.specs.Documents.Suspense.{suspense_text}
use Rattle.clear_book.specs.Judge.{answer_to, own_query}
use Rattle.clear_book.specs.Keyed.{find_row}
use Rattle.clear_book.specs.Own.Payout.{own_payout}
use Rattle.clear_book.specs.Own.Reminder.{own_reminder}
use Rattle.clear_book.specs.Reminders.{reminders_in, run_of}
use Rattle.clear_book.specs.Tables.{Tables, Stands, list_key, run_key}
use Rattle.clear_book.specs.Workers.{claims_on, is_on, list_of}
use Rattle.clear_laws.proofs.SuspenseLemmas.{suspense_rows}
use Rattle.clear_values.proofs.KeyedLemmas.{found_key}
use Rattle.clear_book.specs.RowRanges.{IsClaimRow, IsReminderRow}
use Rattle.clear_queries.specs.Findings.{AreRightFor, HasRightRows, answer_of}
use Rattle.clear_queries.specs.declared.inquiry.Finding.TheVariants as finding
use Rattle.clear_queries.specs.declared.inquiry.RowDocument.TheVariants as rows
use Rattle.clear_book.specs.Lines.{is_in_suspense, lines_standing, suspense_count}
use Rattle.clear_values.specs.Limits.{most_suspense}
use Rattle.clear_book.specs.Machine.{IsLawful}
use Rattle.clear_values.specs.Tables.{Tables, bank_key}
use Rattle.clear_values.proofs.KeyedRowsLemmas.{count_by-ordered}
use Rattle.clear_laws.proofs.AccountLimitLemmas.{standing_within}
use Rattle.clear_laws.proofs.LinesLemmas.{references_standing}

module _ (b : Book) (t : Tables) (n : ℕ) (stands : Stands b t) where
  -- the list of the tables is that of the book
  list_is : list_of b.entries n ≡ find_row list_key t.lists (n ∷ [])
  list_is = ap (λ (rows : List ListRow). find_row list_key rows (n ∷ [])) (sym stands.lists)

  claims_are : (row : ListRow) → row.list ≡ n → filter (λ (claim : ClaimRow). is_on row.list claim.state) t.claims ≡ claims_on b.entries n
  claims_are row same =
      ap (λ (k : ℕ). filter (λ (claim : ClaimRow). is_on k claim.state) t.claims) same
      ∙ ap (λ (claims : List ClaimRow). filter (λ (claim : ClaimRow). is_on n claim.state) claims) stands.claims

  pub list_found : (day : ℕ) (row : ListRow) → find_row list_key t.lists (n ∷ []) ≡ Some row
      → (own_query b (Payout n) ≡ None) × (answer_of t (finding.Document (rows.List row)) ≡ answer_to b day (Payout n))
  list_found day row is =
      let there : list_of b.entries n ≡ Some row = list_is ∙ is in
      let number : list_key row ≡ n ∷ [] = found_key list_key t.lists (n ∷ []) row is in
      let same : row.list ≡ n = cc in (
        ap (λ (o : Option ListRow). own_payout (is_some o)) there,
        ap (λ (claims : List ClaimRow). Text (payout_text row claims)) (claims_are row same)
            ∙ sym (ap (λ (o : Option ListRow). Text (option_map_or (λ list. payout_text list (claims_on b.entries n)) o [])) there),
      )

  -- and so is the run
  run_is : run_of b.entries n ≡ find_row run_key t.runs (n ∷ [])
  run_is = ap (λ (rows : List RunRow). find_row run_key rows (n ∷ [])) (sym stands.runs)

  reminders_are : (row : RunRow) → row.run ≡ n → filter (λ (r : ReminderRow). r.run == row.run) t.reminders ≡ reminders_in b n
  reminders_are row same =
      ap (λ (k : ℕ). filter (λ (r : ReminderRow). r.run == k) t.reminders) same
      ∙ ap (λ (rows : List ReminderRow). filter (λ (r : ReminderRow). r.run == n) rows) stands.reminders

  pub run_found : (day : ℕ) (row : RunRow) → find_row run_key t.runs (n ∷ []) ≡ Some row
      → (own_query b (Reminder n) ≡ None) × (answer_of t (finding.Document (rows.Run row)) ≡ answer_to b day (Reminder n))
  run_found day row is =
      let there : run_of b.entries n ≡ Some row = run_is ∙ is in
      let number : run_key row ≡ n ∷ [] = found_key run_key t.runs (n ∷ []) row is in
      let same : row.run ≡ n = cc in (
        ap (λ (o : Option RunRow). own_reminder (is_some o)) there,
        ap (λ (given : List ReminderRow). Text (reminders_text row given)) (reminders_are row same)
            ∙ sym (ap (λ (o : Option RunRow). Text (option_map_or (λ run. reminders_text run (reminders_in b n)) o [])) there),
      )

-- the rows of a list and of a run that were found are those of their numbers
module _ (t : Tables) (n : ℕ) where
  pub list_right : (row : ListRow) → find_row list_key t.lists (n ∷ []) ≡ Some row → HasRightRows (rows.List row) t → AreRightFor (Payout n) t
  list_right row is =
      let number : list_key row ≡ n ∷ [] = found_key list_key t.lists (n ∷ []) row is in
      let same : row.list ≡ n = cc in
      subst (λ (k : ℕ). AllByRecursion IsClaimRow (filter (λ (claim : ClaimRow). is_on k claim.state) t.claims)) same

  pub run_right : (row : RunRow) → find_row run_key t.runs (n ∷ []) ≡ Some row → HasRightRows (rows.Run row) t → AreRightFor (Reminder n) t
  run_right row is =
      let number : run_key row ≡ n ∷ [] = found_key run_key t.runs (n ∷ []) row is in
      let same : row.run ≡ n = cc in
      subst (λ (k : ℕ). AllByRecursion IsReminderRow (filter (λ (r : ReminderRow). r.run == k) t.reminders)) same

-- the document of the lines in suspense is that over the lines of the book
pub suspense_told : (b : Book) (t : Tables) → Stands b t → (day : ℕ) → answer_of t (finding.Document (rows.Suspense day)) ≡ answer_to b day Suspense
suspense_told b t stands day = ap (λ (lines : List BankRow). Text (suspense_text day lines)) (suspense_rows b t stands)

-- at most as many lines are in suspense as may be
pub suspense_few : (b : Book) (t : Tables) → IsLawful b → Stands b t → suspense_count t.bank ≤ most_suspense
suspense_few b t lawful stands =
    let same = count_by-ordered bank_key is_in_suspense t.bank (lines_standing b.entries) stands.bank_in_order (references_standing b.entries) stands.bank in
    let few = (standing_within b.opening b.entries lawful).0 in
    omega (arith, same, few)
