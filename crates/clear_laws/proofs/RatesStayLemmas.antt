-- No later entry changes the rates of a month that has a report: the month isn't ahead of the day of the report, days never go back, and new rates begin behind the month of their day.
use Rattle.std.proofs.Common.{◌≡◌, ℕ, ◌<◌, ◌≤◌, ⊎_elim, List, [], ◌∷◌, ◌++◌, Option, Some, None, IsSome, is_some, true, false, cond, nat_le, nat_lt, refl, ap, ◌∙◌, subst, arith}
use Rattle.std.proofs.lemmas.Bool.Decides.{nat_tests}
use Rattle.std.proofs.lemmas.List.{append-nil}
use Rattle.std.proofs.lemmas.List.Sums.{sum_by-le-sum_by}
use Rattle.std.proofs.lemmas.Option.{cond_some}
use Rattle.clear_money.specs.Calendar.{calendar_months, day_in, month_of}
use Rattle.clear_money.specs.Rates.{Rate, later_row, rate_in_force}
use Rattle.clear_values.specs.declared.callers.Caller.{Caller}
use Rattle.clear_values.specs.declared.replies.Reply.{Reply}
use Rattle.clear_values.specs.declared.texts.WageLine.{WageLine}
use Rattle.clear_book.specs.declared.calls.Call.TheVariants.{Do}
use Rattle.clear_book.specs.declared.calls.Command.{Command}
use Rattle.clear_book.specs.declared.calls.Command.TheVariants.{AddRate, Report, Correct}
use Rattle.clear_book.specs.declared.calls.WageReport.{WageReport}
use Rattle.clear_book.specs.declared.rules.Rule.TheVariants.{DayBack, MonthAhead}
use Rattle.clear_book.specs.Book.{Book, Entry, RateTable, is_for, latest_lines, ledger_day, member_of, newer, rates_added, rates_behind, rates_of, reported_by, reported_version}
use Rattle.clear_book.specs.Judge.{day_back, judge, new_reply, own_rule}
use Rattle.clear_book.specs.Machine.{AreJudged, IsLawful}
use Rattle.clear_book.specs.Own.Correct.{correct_rules}
use Rattle.clear_book.specs.Own.Report.{report_rules}
use Rattle.clear_laws.proofs.ChecksLemmas.{none_applies, when-none}
use Rattle.clear_laws.proofs.JudgeLemmas.{unrefused}
use Rattle.clear_laws.proofs.LimitsLemmas.{latest_means, not_early}
use Rattle.clear_laws.proofs.VersionLemmas.{key_is}

-- the month of a later day is the same one or a later
month_of-mono : (t u : ℕ) → t ≤ u → month_of t ≤ month_of u
unfolding month_of
month_of-mono t u le =
    let counts = sum_by-le-sum_by (λ (m : ℕ). cond {A = ℕ} (nat_le (day_in m 1) t) 1 0) (λ (m : ℕ). cond {A = ℕ} (nat_le (day_in m 1) u) 1 0) calendar_months (λ m. begun (day_in m 1)) in
    omega (arith, counts)
  where
    begun : (first : ℕ) → cond {A = ℕ} (nat_le first t) 1 0 ≤ cond {A = ℕ} (nat_le first u) 1 0
    begun first = grind (arith, nat_tests)

-- ---- a reported month has come

-- the month isn't ahead of the ledger day
abbrev HasCome : Option ℕ → ℕ → Type 0
HasCome None m = ⊥
HasCome (Some ledger) m = m ≤ month_of ledger

chosen_come : (e m t : ℕ) (r : WageReport) (lines : List WageLine) → cond (is_for e m r) (Some r.lines) None ≡ Some lines → nat_lt (month_of t) r.month ≡ false → m ≤ month_of t
chosen_come e m t r lines h not_ahead =
    let month = (key_is r.employer e r.month m (cond_some (is_for e m r) r.lines lines h).0).1 in
    subst (λ (n : ℕ). n ≤ month_of t) month (up_to r.month (month_of t) not_ahead)
  where
    up_to : (n last : ℕ) → nat_lt last n ≡ false → n ≤ last
    up_to n last k = grind (arith, nat_tests)

-- a month that is reported isn't ahead of the day
reported_come : (b : Book) (t : ℕ) (command : Command) (e m : ℕ) (lines : List WageLine) → own_rule b t command ≡ None → reported_by command e m ≡ Some lines → m ≤ month_of t
reported_come b t (Report r) e m lines own h =
    let none = none_applies (report_rules (member_of b.entries r.employer) (reported_version b.entries r.employer r.month) t r.month r.lines) own in
    chosen_come e m t r lines h (when-none (nat_lt (month_of t) r.month) MonthAhead none.1.1.0)
reported_come b t (Correct c) e m lines own h =
    let none = none_applies (correct_rules (member_of b.entries c.report.employer) (reported_version b.entries c.report.employer c.report.month) t c) own in
    chosen_come e m t c.report lines h (when-none (nat_lt (month_of t) c.report.month) MonthAhead none.1.1.0)
reported_come b t command e m lines own h = absurd (cc)

-- a month that has come isn't ahead of a day that doesn't go back
still_come : (ledger : Option ℕ) (t m : ℕ) → day_back ledger t ≡ None → HasCome ledger m → m ≤ month_of t
still_come None t m back come = absurd come
still_come (Some ledger) t m back come =
    omega (arith, come, month_of-mono ledger t (not_back (when-none (nat_lt t ledger) (DayBack ledger) back)))
  where
    not_back : nat_lt t ledger ≡ false → ledger ≤ t
    not_back k = grind (arith, nat_tests)

module _ (rates : RateTable) where
  lawful_come : (xs : List Entry) → AreJudged rates xs → (e m : ℕ) (lines : List WageLine) → latest_lines xs e m ≡ Some lines → HasCome (ledger_day xs) m
  lawful_come [] h e m lines is = absurd (cc)
  lawful_come (x ∷ xs) h e m lines is =
      let b : Book = record { opening = rates; entries = xs } in
      let said = unrefused b x.caller x.number x.day x.command x.reply h.2 in
      ⊎_elim
      (λ (new : reported_by x.command e m ≡ Some lines). reported_come b x.day x.command e m lines said.unruled new)
      (λ (old : latest_lines xs e m ≡ Some lines). still_come (ledger_day xs) x.day m said.in_order (lawful_come xs h.0 e m lines old))
      (latest_means (reported_by x.command e m) (latest_lines xs e m) lines is)

  come : (xs : List Entry) → AreJudged rates xs → (e m : ℕ) → IsSome (latest_lines xs e m) → HasCome (ledger_day xs) m
  come xs h e m there = told (latest_lines xs e m) refl there
    where
      told : (o : Option (List WageLine)) → latest_lines xs e m ≡ o → is_some o ≡ true → HasCome (ledger_day xs) m
      told None is k = absurd (cc k)
      told (Some lines) is k = lawful_come xs h e m lines is

-- a month that has a report keeps one
still_reported : (more xs : List Entry) (e m : ℕ) → IsSome (latest_lines xs e m) → IsSome (latest_lines (more ++ xs) e m)
still_reported [] xs e m there = there
still_reported (x ∷ more) xs e m there = told (reported_by x.command e m) (still_reported more xs e m there)
  where
    told : (o : Option (List WageLine)) → is_some (latest_lines (more ++ xs) e m) ≡ true → is_some (newer o (latest_lines (more ++ xs) e m)) ≡ true
    told None rest = rest
    told (Some lines) rest = refl

-- ---- its rates stay

-- a row that begins behind the month isn't in force in it
rate-behind : (rates : List Rate) (row : Rate) (m : ℕ) → m < row.first → rate_in_force (rates ++ row ∷ []) m ≡ rate_in_force rates m
rate-behind [] row m behind = ap (λ c. cond c (Some row) None) (not_yet row.first behind)
  where
    not_yet : (first : ℕ) → m < first → nat_le first m ≡ false
    not_yet first h = grind (arith, nat_tests)
rate-behind (r ∷ rates) row m behind = ap (λ (o : Option Rate). cond (nat_le r.first m) (later_row r o) o) (rate-behind rates row m behind)

-- the rates that a command adds leave those of a month that isn't ahead of the day
added_behind : (b : Book) (t : ℕ) (command : Command) (m : ℕ) → own_rule b t command ≡ None → m ≤ month_of t → rate_in_force (rates_of b ++ rates_added command) m ≡ rate_in_force (rates_of b) m
added_behind b t (AddRate row) m own come =
    let late = (not_early (rates_of b) t row.first own).1 in
    rate-behind (rates_of b) row m (omega (arith, late, come))
added_behind b t command m own come = ap (λ (rates : List Rate). rate_in_force rates m) (append-nil (rates_of b))

-- so an accepted command leaves the rates of each month that has a report
pub rates_left_there : (b : Book) → IsLawful b → (caller : Caller) (number day : ℕ) (command : Command) (reply : Reply) → judge b (Do caller number day command) ≡ new_reply reply
    → (e m : ℕ) → IsSome (latest_lines b.entries e m) → rate_in_force (rates_of b ++ rates_added command) m ≡ rate_in_force (rates_of b) m
rates_left_there b lawful caller number day command reply judged e m there =
    let said = unrefused b caller number day command reply judged in
    added_behind b day command m said.unruled (still_come (ledger_day b.entries) day m said.in_order (come b.opening b.entries lawful e m there))

-- and so do all later entries
pub rates_stay : (rates : RateTable) (more xs : List Entry) → AreJudged rates (more ++ xs) → (e m : ℕ) → IsSome (latest_lines xs e m) → rate_in_force (rates_behind rates (more ++ xs)) m ≡ rate_in_force (rates_behind rates xs) m
rates_stay rates [] xs h e m there = refl
rates_stay rates (x ∷ more) xs h e m there =
    rates_left_there (record { opening = rates; entries = more ++ xs }) h.0 x.caller x.number x.day x.command x.reply h.2 e m (still_reported more xs e m there)
    ∙ rates_stay rates more xs h.0 e m there
