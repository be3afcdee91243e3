-- The tables of a book, after a report or a correction more.
use Rattle.std.proofs.Common.{◌≡◌, ℕ, ◌+◌, List, [], ◌∷◌, length, Option, Some, None, IsSome, is_some, Bool, true, false, cond, ◌&&◌, ◌==◌, refl, sym, ap, ◌∙◌, subst, arith}
use Rattle.std.specs.List.{AllByRecursion}
use Rattle.std.specs.Option.{option_map}
use Rattle.clear_money.specs.Rates.{Rate, rate_in_force}
use Rattle.clear_book.specs.declared.calls.Call.TheVariants.{Do}
use Rattle.clear_values.specs.declared.callers.Caller.{Caller}
use Rattle.clear_book.specs.declared.calls.Command.TheVariants.{Report, Correct}
use Rattle.clear_book.specs.declared.calls.Correction.{Correction}
use Rattle.clear_book.specs.declared.calls.WageReport.{WageReport}
use Rattle.clear_values.specs.declared.replies.Reply.{Reply}
use Rattle.clear_values.specs.declared.rows.Change.TheVariants.{AddReport, ReplaceReport}
use Rattle.clear_values.specs.declared.rows.BankRow.{BankRow}
use Rattle.clear_values.specs.declared.rows.ClaimRow.{ClaimRow}
use Rattle.clear_values.specs.declared.rows.KeptCharge.{KeptCharge}
use Rattle.clear_values.specs.declared.rows.ListRow.{ListRow}
use Rattle.clear_values.specs.declared.rows.RunRow.{RunRow}
use Rattle.clear_values.specs.declared.rows.ReportRow.{ReportRow}
use Rattle.clear_values.specs.declared.rows.WageRow.{WageRow}
use Rattle.clear_values.specs.declared.texts.WageLine.{WageLine}
use Rattle.clear_book.specs.Accounts.{base_of, book_charge, kept_charge, month_charge, reported_charge}
use Rattle.clear_book.specs.Book.{Book, Entry, Member, entry, entry_under, is_for, newer, member_after, member_of, is_registration, reported_by, latest_lines, is_report_of, version_of, reported_version, rates_added, rates_of}
use Rattle.clear_book.specs.Calls.{is_remind_run}
use Rattle.clear_book.specs.Judge.{Verdict, new_reply, judge}
use Rattle.clear_values.specs.Keyed.{find_row, AreInOrder, put_row}
use Rattle.clear_book.specs.Laws.{AreFew}
use Rattle.clear_book.specs.Lines.{is_release, lines_seen, moved_by, rows_by}
use Rattle.clear_book.specs.Machine.{IsLawful, step, after, appended}
use Rattle.clear_book.specs.Own.Correct.{own_correct, correct_rules}
use Rattle.clear_book.specs.Own.Lines.{twice_rule, worker_twice}
use Rattle.clear_book.specs.Own.Report.{own_report, report_rules}
use Rattle.clear_book.specs.Tables.{IsPaidInRange, Tables, Stands, charge_at, charge_in, charge_key, corrected, report_key, version_at, gross_at, gross_of, reported_gross, with_wages, changed, noted}
use Rattle.clear_book.specs.Workers.{lists_by}
use Rattle.clear_laws.proofs.ChecksLemmas.{none_applies}
use Rattle.clear_laws.proofs.DistinctLemmas.{AreDistinct, distinct}
use Rattle.clear_laws.proofs.ClaimsLemmas.{LeavesClaims, claims_left}
use Rattle.clear_laws.proofs.CorrectedLemmas.{corrected-all, corrected-found, corrected-in_order}
use Rattle.clear_laws.proofs.JudgeLemmas.{unrefused}
use Rattle.clear_laws.proofs.LimitsLemmas.{few_charge, few_corrected, few_lines, lawful_rates}
use Rattle.clear_values.proofs.KeyedChangesLemmas.{AllByRecursion-put_row, find_row-put_row, AreInOrder-put_row, put_row-new}
use Rattle.clear_laws.proofs.LinesLemmas.{none_taken}
use Rattle.clear_laws.proofs.ListNumbersLemmas.{lists_left}
use Rattle.clear_laws.proofs.RemindersLemmas.{reminders_left, runs_left}
use Rattle.clear_laws.proofs.RequestLemmas.{requests_found, requests_still_in_order}
use Rattle.clear_laws.proofs.TablesLemmas.{bank_left, credits_left, employer_rows_left, employers_left, no_map, rates_left, same_charge, same_rates}
use Rattle.clear_laws.proofs.VersionLemmas.{is_some-cond, version_of-other, version_of-more, version_of-none, unreported, corrected as corrected_version, reported_some, reported_none, key_is}
use Rattle.clear_laws.proofs.WagesLemmas.{gross_at-with_wages, with_wages-in_order, with_wages-first}

-- ---- the lines of an accepted report

not_twice : (o : Option ℕ) → twice_rule o ≡ None → o ≡ None
not_twice None h = refl
not_twice (Some w) h = absurd (cc)

pub report_distinct : (member : Option Member) (version : Option ℕ) (t m : ℕ) (lines : List WageLine) → own_report member version t m lines ≡ None → AreDistinct lines
report_distinct member version t m lines h =
    distinct lines (not_twice (worker_twice lines) (none_applies (report_rules member version t m lines) h).1.1.1.1.0)

pub correction_distinct : (member : Option Member) (version : Option ℕ) (t : ℕ) (c : Correction) → own_correct member version t c ≡ None → AreDistinct c.report.lines
correction_distinct member version t c h =
    distinct c.report.lines (not_twice (worker_twice c.report.lines) (none_applies (correct_rules member version t c) h).1.1.1.1.0)

-- ---- a command that reports

-- an entry whose command reports a month, and nothing else
pub record Reports (xs : List Entry) (x : Entry) (r : WageReport) : Type 0 where
  pub lines : (e m : ℕ) → reported_by x.command e m ≡ cond (is_for e m r) (Some r.lines) None
  pub counted : (e m : ℕ) → is_report_of e m x.command ≡ is_for e m r
  pub no_member : (e : ℕ) (old : Option Member) → member_after old x.command e ≡ old
  pub no_registration : is_registration x.command ≡ false
  pub no_move : (rows : List BankRow) → moved_by x.command rows ≡ rows
  pub no_rows : rows_by xs (lines_seen xs) x.command ≡ []
  pub no_release : is_release x.command ≡ false
  pub no_claims : LeavesClaims x.day x.reply x.command
  pub no_list : lists_by x.day x.reply x.command ≡ []
  pub no_run : is_remind_run x.command ≡ false
  pub no_rates : rates_added x.command ≡ []

-- the contribution of a month with a report is kept
is_kept : (b : Book) (m : ℕ) (o : Option KeptCharge) (latest : Option (List WageLine)) → option_map charge_in o ≡ reported_charge b m latest → IsSome latest → is_some o ≡ true
is_kept b m (Some row) latest kept there = refl
is_kept b m None (Some lines) kept there = absurd (cc)
is_kept b m None None kept there = absurd (cc)

-- a month whose latest report has a version has one
has_lines : (n v : ℕ) (latest : Option (List WageLine)) → option_map (λ lines. n) latest ≡ Some v → IsSome latest
has_lines n v None h = absurd (cc)
has_lines n v (Some lines) h = refl

abbrev version_in : ReportRow → ℕ
version_in row = row.version

module _ (b : Book) (t : Tables) (lawful : IsLawful b) (stands : Stands b t) (x : Entry) (r : WageReport) (reports : Reports b.entries x r) (version : ℕ) (next : version_of b.entries r.employer r.month + 1 ≡ version) (apart : AreDistinct r.lines) (few : AreFew r.lines) (free : entry_under b.entries x.caller x.number ≡ None) where
  abbrev row : ReportRow
  row = record { employer = r.employer; month = r.month; version = version }

  found : (p q : Bool) (o : Option ReportRow) (latest : Option (List WageLine)) (before now : ℕ) → option_map version_in o ≡ option_map (λ lines. before) latest → (p && q ≡ true → now ≡ version) → (p && q ≡ false → now ≡ before) → option_map version_in (cond (p && (q && true)) (Some row) o) ≡ option_map (λ lines. now) (newer (cond (p && q) (Some r.lines) None) latest)
  found true true o latest before now old one same = ap Some (sym (one refl))
  found true false o latest before now old one same = old ∙ ap (λ (n : ℕ). option_map (λ lines. n) latest) (sym (same refl))
  found false q o latest before now old one same = old ∙ ap (λ (n : ℕ). option_map (λ lines. n) latest) (sym (same refl))

  now_version : (e m : ℕ) → is_for e m r ≡ true → version_of (x ∷ b.entries) e m ≡ version
  now_version e m is =
      let same = key_is r.employer e r.month m is in
      let before : version_of b.entries e m + 1 ≡ version = subst (λ (p : ℕ × ℕ). version_of b.entries p.0 p.1 + 1 ≡ version) (λ i. (same.0 i, same.1 i)) next in
      version_of-more b.entries x e m (reports.counted e m ∙ is) ∙ before

  versions : (e m : ℕ) → version_at (put_row report_key t.reports row) e m ≡ reported_version (x ∷ b.entries) e m
  versions e m =
      ap (option_map version_in) (find_row-put_row report_key t.reports row (e ∷ m ∷ []))
      ∙ found (r.employer == e) (r.month == m) (find_row report_key t.reports (e ∷ m ∷ [])) (latest_lines b.entries e m) (version_of b.entries e m) (version_of (x ∷ b.entries) e m) (stands.reports e m) (now_version e m) (λ no. version_of-other b.entries x e m (reports.counted e m ∙ no))
      ∙ ap (λ (o : Option (List WageLine)). option_map (λ lines. version_of (x ∷ b.entries) e m) (newer o (latest_lines b.entries e m))) (sym (reports.lines e m))

  gross_found : (p : Bool) (g : Option ℕ) (latest : Option (List WageLine)) (w : ℕ) → g ≡ reported_gross latest w → cond p (gross_of r.lines w) g ≡ reported_gross (newer (cond p (Some r.lines) None) latest) w
  gross_found true g latest w is = refl
  gross_found false g latest w is = is

  gross : (e m w : ℕ) → gross_at (with_wages r.employer r.month r.lines t.wages) e m w ≡ reported_gross (latest_lines (x ∷ b.entries) e m) w
  gross e m w =
      gross_at-with_wages r.employer r.month r.lines t.wages apart e m w
      ∙ gross_found (is_for e m r) (gross_at t.wages e m w) (latest_lines b.entries e m) w (stands.wages e m w)
      ∙ ap (λ (o : Option (List WageLine)). reported_gross (newer o (latest_lines b.entries e m)) w) (sym (reports.lines e m))

  -- the contribution for the report
  abbrev charge : KeptCharge
  charge = kept_charge (rate_in_force (rates_of b) r.month) r.employer r.month r.lines

  charge_found : (e m : ℕ) (p q : Bool) (o : Option KeptCharge) (latest : Option (List WageLine)) → option_map charge_in o ≡ reported_charge b m latest → (p && q ≡ true → r.month ≡ m)
      → option_map charge_in (cond (p && (q && true)) (Some charge) o) ≡ reported_charge b m (newer (cond (p && q) (Some r.lines) None) latest)
  charge_found e m true true o latest old here = ap (λ (n : ℕ). Some (month_charge (rates_of b) n (base_of r.lines))) (here refl)
  charge_found e m true false o latest old here = old
  charge_found e m false q o latest old here = old

  charges : (e m : ℕ) → charge_at (put_row charge_key t.charges charge) e m ≡ book_charge (appended b x) e m
  charges e m =
      ap (option_map charge_in) (find_row-put_row charge_key t.charges charge (e ∷ m ∷ []))
      ∙ charge_found e m (r.employer == e) (r.month == m) (find_row charge_key t.charges (e ∷ m ∷ [])) (latest_lines b.entries e m) (stands.charges e m) (λ is. (key_is r.employer e r.month m is).1)
      ∙ ap (λ (o : Option (List WageLine)). reported_charge b m (newer o (latest_lines b.entries e m))) (sym (reports.lines e m))
      ∙ same_charge b (appended b x) m (latest_lines (x ∷ b.entries) e m) (λ there. ap (λ (rates : List Rate). rate_in_force rates m) (same_rates b x reports.no_rates))

  -- what is open of it, and its weight, are in their ranges
  charge_paid : IsPaidInRange charge
  charge_paid = (few_charge (rates_of b) r.month r.lines (lawful_rates b.opening b.entries lawful).ranges few, omega arith)

  -- the month's row and wages in the place of what stood, and contributions as if its contribution stood there
  put_tables : (kept : List KeptCharge) → ((e m : ℕ) → charge_at kept e m ≡ charge_at (put_row charge_key t.charges charge) e m) → AreInOrder charge_key kept → AllByRecursion IsPaidInRange kept
      → Stands (appended b x) (noted x (record t { reports = put_row report_key t.reports row; wages = with_wages r.employer r.month r.lines t.wages; charges = kept }))
  put_tables kept same order paid = record {
    rates = rates_left b t stands x reports.no_rates;
    day = refl;
    entries = omega (arith, stands.entries);
    employers = employers_left b t stands x reports.no_member;
    employer_rows = employer_rows_left b t stands x reports.no_registration;
    employers_in_order = stands.employers_in_order;
    reports = versions;
    reports_in_order = AreInOrder-put_row report_key t.reports row stands.reports_in_order;
    wages = gross;
    wages_in_order = with_wages-in_order r.employer r.month r.lines t.wages apart stands.wages_in_order;
    charges = λ e m. same e m ∙ charges e m;
    charges_in_order = order;
    charges_paid = paid;
    bank = bank_left b t stands x reports.no_move reports.no_rows;
    bank_in_order = stands.bank_in_order;
    credits = credits_left b t stands x reports.no_move reports.no_rows reports.no_release;
    credits_in_order = stands.credits_in_order;
    requests = requests_found b t stands x free;
    requests_in_order = requests_still_in_order b t stands x free;
    claims = stands.claims ∙ sym (claims_left b.entries x reports.no_claims);
    last_claim = stands.last_claim ∙ sym (ap (λ (claims : List ClaimRow). length claims) (claims_left b.entries x reports.no_claims));
    lists = stands.lists ∙ sym (lists_left b.entries x reports.no_list);
    last_list = stands.last_list ∙ sym (ap (λ (lists : List ListRow). length lists) (lists_left b.entries x reports.no_list));
    runs = stands.runs ∙ sym (runs_left b.entries x reports.no_run);
    last_run = stands.last_run ∙ sym (ap (λ (runs : List RunRow). length runs) (runs_left b.entries x reports.no_run));
    reminders = stands.reminders ∙ sym (reminders_left b x reports.no_run);
    serial = stands.serial ∙ sym (none_taken b.entries x reports.no_rows reports.no_release);
  }

  -- for a month that has a report, whose contribution is kept
  pub replaced_tables : IsSome (latest_lines b.entries r.employer r.month) → Stands (appended b x) (noted x (changed (ReplaceReport row r.lines charge) t))
  replaced_tables there =
      put_tables (corrected charge t.charges)
      (λ e m. corrected-found charge t.charges (is_kept b r.month (find_row charge_key t.charges (r.employer ∷ r.month ∷ [])) (latest_lines b.entries r.employer r.month) (stands.charges r.employer r.month) there) (e ∷ m ∷ []))
      (corrected-in_order charge t.charges stands.charges_in_order) (corrected-all IsPaidInRange charge t.charges stands.charges_paid charge_paid)

  -- for a month that has none, they are one more
  pub first_tables : latest_lines b.entries r.employer r.month ≡ None → Stands (appended b x) (noted x (changed (AddReport row r.lines charge) t))
  first_tables none =
      let no_row = no_map version_in (find_row report_key t.reports (r.employer ∷ r.month ∷ [])) (stands.reports r.employer r.month ∙ ap (option_map (λ (lines : List WageLine). version_of b.entries r.employer r.month)) none) in
      let no_wages = λ (w : ℕ). stands.wages r.employer r.month w ∙ ap (λ (o : Option (List WageLine)). reported_gross o w) none in
      let no_charge = no_map charge_in (find_row charge_key t.charges (r.employer ∷ r.month ∷ [])) (stands.charges r.employer r.month ∙ ap (reported_charge b r.month) none) in
      subst (λ (p : List ReportRow × List WageRow × List KeptCharge). Stands (appended b x) (noted x (record t { reports = p.0; wages = p.1; charges = p.2 })))
      (λ i. (put_row-new report_key t.reports row no_row i, with_wages-first r.employer r.month r.lines t.wages no_wages i, put_row-new charge_key t.charges charge no_charge i))
      (put_tables (put_row charge_key t.charges charge) (λ e m. refl) (AreInOrder-put_row charge_key t.charges charge stands.charges_in_order)
      (AllByRecursion-put_row charge_key IsPaidInRange t.charges charge stands.charges_paid charge_paid))

-- ---- the two commands

module _ (b : Book) (t : Tables) (lawful : IsLawful b) (stands : Stands b t) (caller : Caller) (number day : ℕ) where
  pub Stands-reported : (r : WageReport) (reply : Reply) → judge b (Do caller number day (Report r)) ≡ new_reply reply → (lines : List WageLine) → lines ≡ r.lines
      → (charge : KeptCharge) → charge ≡ kept_charge (rate_in_force (rates_of b) r.month) r.employer r.month r.lines
      → Stands (step b (Do caller number day (Report r))) (noted (entry caller number day (Report r) reply) (changed (AddReport (record { employer = r.employer; month = r.month; version = 1 }) lines charge) t))
  Stands-reported r reply judged lines same charge charged =
      let said = unrefused b caller number day (Report r) reply judged in
      let own = said.unruled in
      let no_lines = reported_none b.entries r.employer r.month (unreported (member_of b.entries r.employer) (reported_version b.entries r.employer r.month) day r.month r.lines own) in
      let zero : version_of b.entries r.employer r.month ≡ 0 = version_of-none b.entries r.employer r.month no_lines in
      let x = entry caller number day (Report r) reply in
      let there = first_tables b t lawful stands x r (record { lines = λ e m. refl; counted = λ e m. is_some-cond (is_for e m r) r.lines; no_member = λ e old. refl; no_registration = refl; no_move = λ rows. refl; no_rows = refl; no_release = refl; no_claims = record { kept = λ claim. refl; none = λ last. refl }; no_list = refl; no_run = refl; no_rates = refl }) 1 (omega (arith, zero))
      (report_distinct (member_of b.entries r.employer) (reported_version b.entries r.employer r.month) day r.month r.lines own) (few_lines (member_of b.entries r.employer) (reported_version b.entries r.employer r.month) day r.month r.lines own) said.free no_lines in
      subst (λ (p : Verdict × List WageLine × KeptCharge). Stands (after b (Do caller number day (Report r)) p.0) (noted x (changed (AddReport (record { employer = r.employer; month = r.month; version = 1 }) p.1 p.2) t)))
      (λ i. (sym judged i, sym same i, sym charged i)) there

  pub Stands-corrected : (c : Correction) (reply : Reply) → judge b (Do caller number day (Correct c)) ≡ new_reply reply → (version : ℕ) → version ≡ c.version + 1 → (lines : List WageLine) → lines ≡ c.report.lines
      → (charge : KeptCharge) → charge ≡ kept_charge (rate_in_force (rates_of b) c.report.month) c.report.employer c.report.month c.report.lines
      → Stands (step b (Do caller number day (Correct c))) (noted (entry caller number day (Correct c) reply) (changed (ReplaceReport (record { employer = c.report.employer; month = c.report.month; version = version }) lines charge) t))
  Stands-corrected c reply judged version more lines same charge charged =
      let said = unrefused b caller number day (Correct c) reply judged in
      let own = said.unruled in
      let member = member_of b.entries c.report.employer in
      let latest = corrected_version member (reported_version b.entries c.report.employer c.report.month) day c own in
      let now : version_of b.entries c.report.employer c.report.month ≡ c.version = reported_some b.entries c.report.employer c.report.month c.version latest.0 in
      let x = entry caller number day (Correct c) reply in
      let there = replaced_tables b t lawful stands x c.report (record { lines = λ e m. refl; counted = λ e m. is_some-cond (is_for e m c.report) c.report.lines; no_member = λ e old. refl; no_registration = refl; no_move = λ rows. refl; no_rows = refl; no_release = refl; no_claims = record { kept = λ claim. refl; none = λ last. refl }; no_list = refl; no_run = refl; no_rates = refl }) version (omega (arith, now, more))
      (correction_distinct member (reported_version b.entries c.report.employer c.report.month) day c own) (few_corrected member (reported_version b.entries c.report.employer c.report.month) day c own) said.free
      (has_lines _ c.version (latest_lines b.entries c.report.employer c.report.month) latest.0) in
      subst (λ (p : Verdict × List WageLine × KeptCharge). Stands (after b (Do caller number day (Correct c)) p.0) (noted x (changed (ReplaceReport (record { employer = c.report.employer; month = c.report.month; version = version }) p.1 p.2) t)))
      (λ i. (sym judged i, sym same i, sym charged i)) there
