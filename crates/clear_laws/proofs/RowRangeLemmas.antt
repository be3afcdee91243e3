-- Each row of the tables of a lawful book lies in its ranges.
use Rattle.std.proofs.Common.{◌≡◌, ℕ, ◌+◌, ◌≤◌, ◌⊎◌, ⊎_elim, inl, inr, List, [], ◌∷◌, map, Option, Some, None, IfSome, is_some, option_and_then, Bool, true, false, cond, ◌==◌, length, nat_le, refl, sym, ap, ◌∙◌, subst, arith}
use Rattle.std.proofs.lemmas.Option.{cond_some}
use Rattle.std.specs.Option.{option_map}
use Rattle.std.specs.List.{AllByRecursion}
use Rattle.clear_values.specs.declared.lines.BankLine.{BankLine}
use Rattle.clear_bank.specs.Newness.{Placed, is_new}
use Rattle.clear_values.specs.Ranges.{IsBankLine}
use Rattle.clear_money.specs.Calendar.{IsMonth, IsDay}
use Rattle.clear_money.specs.Numbers.{IsAmount, IsEmployerNo, IsWorkerNo}
use Rattle.clear_money.specs.Rates.{IsRate, Rate, rate_in_force}
use Rattle.clear_money.proofs.MonthLemmas.{day_in-is_day, month_length_bounds}
use Rattle.clear_account.specs.declared.entries.Charge.{Charge}
use Rattle.clear_values.specs.declared.texts.WageLine.{WageLine}
use Rattle.clear_book.specs.declared.calls.Command.{Command}
use Rattle.clear_book.specs.declared.calls.Command.TheVariants.{Register, EndMembership, Report, Correct, ImportBank, Assign, Claim, Release, PayoutList, RemindRun}
use Rattle.clear_book.specs.declared.calls.Assignment.{Assignment}
use Rattle.clear_book.specs.declared.calls.WageReport.{WageReport}
use Rattle.clear_values.specs.declared.rows.BankRow.{BankRow}
use Rattle.clear_values.specs.declared.rows.ClaimRow.{ClaimRow}
use Rattle.clear_values.specs.declared.rows.CreditRow.{CreditRow}
use Rattle.clear_values.specs.declared.rows.EmployerRow.{EmployerRow}
use Rattle.clear_values.specs.declared.rows.KeptCharge.{KeptCharge}
use Rattle.clear_values.specs.declared.rows.ReportRow.{ReportRow}
use Rattle.clear_values.specs.declared.rows.WageRow.{WageRow}
use Rattle.clear_book.specs.Accounts.{base_of, book_charge, credit_key, due_by, month_charge, reported_charge}
use Rattle.clear_book.specs.Book.{Book, Entry, Member, ended, ledger_day, newer, member_after, member_of, is_for, reported_by, latest_lines, is_report_of, version_of, reported_version, RateTable, rates_of}
use Rattle.clear_book.specs.Judge.{own_rule, reply_to}
use Rattle.clear_values.specs.Keyed.{is_key, find_row, in_key_order}
use Rattle.clear_book.specs.Lines.{assigned, moved_by, lines_in, new_lines, employer_of_line, rows_from, lines_of_rows, rows_by, lines_seen, lines_standing, credit_of_line, line_credit, credits_made, credits_of_lines, serial_count, serials_of, set_offs}
use Rattle.clear_book.specs.Machine.{AreJudged, IsLawful}
use Rattle.clear_book.specs.Own.Release.{Debts, debts_of, release_reply}
use Rattle.clear_book.specs.Workers.{claim_of, claims_of}
use Rattle.clear_book.specs.Calls.{IsWageLine, IsReport, IsCommand}
use Rattle.clear_values.specs.Limits.{most_entries}
use Rattle.clear_values.specs.Ranges.{AreRates}
use Rattle.clear_values.specs.RowRanges.{IsSerial, IsReply, IsRequestRow, IsEmployerRow, IsReportRow, IsWageRow, IsKeptCharge, IsBankRow, IsCreditRow, AreInRange, IsClaimRow, IsListRow, IsRunRow, IsReminderRow}
use Rattle.clear_book.specs.Tables.{IsPaidInRange, RequestRow, Tables, Stands, employer_key, report_key, wage_key, charge_in, charge_key, bank_key, claim_key, request_key, request_row, requests_of, gross_of, reported_gross, member_in}
use Rattle.clear_values.specs.Texts.{IsName}
use Rattle.clear_laws.proofs.ClaimsLemmas.{claims-in-range, claims_few, room_for, settled_whole}
use Rattle.clear_laws.proofs.CreditsLemmas.{credits-standing}
use Rattle.clear_laws.proofs.DistinctLemmas.{same_worker}
use Rattle.clear_laws.proofs.JudgeLemmas.{unrefused}
use Rattle.clear_laws.proofs.KeptChargesLemmas.{charge_of_row}
use Rattle.clear_values.proofs.KeyedChangesLemmas.{all_from_found, AllByRecursion-in_key_order, found_holds}
use Rattle.clear_values.proofs.KeyedRowsLemmas.{ordered}
use Rattle.clear_laws.proofs.LimitsLemmas.{lawful_rates, lawful_few, lawful_entries, few_lines, few_corrected, few_charge, rate_right}
use Rattle.clear_laws.proofs.LinesLemmas.{of_standing, references_standing, serials_small}
use Rattle.clear_laws.proofs.ListRangeLemmas.{last_list-in-range, lists-in-range, list-reply-in-range}
use Rattle.clear_laws.proofs.ReminderRangeLemmas.{reminders_in_range}
use Rattle.clear_laws.proofs.RunRangeLemmas.{last_run-in-range, run-reply-in-range, runs_in_range}
use Rattle.clear_values.proofs.ListLemmas.{both}
use Rattle.clear_laws.proofs.SeenLemmas.{by-few, chosen, file-few, HasRanges, lines-in-range, seen-in-range, set_offs-in-range, lawful_serials, of_credits}
use Rattle.clear_laws.proofs.SerialLemmas.{of_both}
use Rattle.clear_laws.proofs.VersionLemmas.{corrected, key_is, no_report, version_of-more, version_of-other, lawful_versions, reported_some}

-- the newer of two is one of them
newer_means : {A : Type 0} (o old : Option A) (x : A) → newer o old ≡ Some x → (o ≡ Some x) ⊎ (old ≡ Some x)
newer_means None old x h = inr h
newer_means (Some y) old x h = inl h

-- ---- employers

-- the number, the name, the first month and the last month, if an end is set, of a registered employer are in range
abbrev IsMember : ℕ → Member → Type 0
IsMember e member = IsEmployerNo e × IsName member.name × IsMonth member.start × IfSome member.last IsMonth

-- so it is with what a command makes of an employer
after-in-range : (command : Command) (e : ℕ) (old : Option Member) → IsCommand command → IfSome old (IsMember e) → IfSome (member_after old command e) (IsMember e)
after-in-range (Register r) e old in_range h = told (r.employer == e) refl
  where
    told : (b : Bool) → r.employer == e ≡ b → IfSome (newer (cond b (Some (record { name = r.name; start = r.start; last = None })) None) old) (IsMember e)
    told true is = (subst IsEmployerNo (same_worker r.employer e is) in_range.0, in_range.1, in_range.2, tt)
    told false is = h
after-in-range (EndMembership end) e old in_range h = told (end.employer == e) old h
  where
    told : (b : Bool) (o : Option Member) → IfSome o (IsMember e) → IfSome (cond b (option_map (ended end.last) o) o) (IsMember e)
    told true None k = tt
    told true (Some member) k = (k.0, k.1, k.2, in_range.1)
    told false o k = k
after-in-range command e old in_range h = h

-- and with each registered employer of a lawful book
member-in-range : (rates : RateTable) (xs : List Entry) → AreJudged rates xs → (e : ℕ) → IfSome (member_of xs e) (IsMember e)
member-in-range rates [] h e = tt
member-in-range rates (x ∷ xs) h e = after-in-range x.command e (member_of xs e) h.1.3 (member-in-range rates xs h.0 e)

-- so the row of a registered employer is in range
employer_row : (row : EmployerRow) → IsMember row.employer (member_in row) → IsEmployerRow row
employer_row row h = record { employer = h.0; name = h.1; start = h.2; last = h.3 }

-- ---- reports

-- the employer, the month and the lines of a report are in range
abbrev IsReported : ℕ → ℕ → List WageLine → Type 0
IsReported e m lines = IsEmployerNo e × IsMonth m × AllByRecursion IsWageLine lines

-- a report in range, where it is for the employer and the month
chosen-in-range : (e m : ℕ) (r : WageReport) (lines : List WageLine) → IsReport r → cond (is_for e m r) (Some r.lines) None ≡ Some lines → IsReported e m lines
chosen-in-range e m r lines in_range h =
    let parts = cond_some (is_for e m r) r.lines lines h in
    let same = key_is r.employer e r.month m parts.0 in
    (subst IsEmployerNo same.0 in_range.0, subst IsMonth same.1 in_range.1, subst (AllByRecursion IsWageLine) parts.1 in_range.2)

-- so it is with what a command reports
reported-in-range : (command : Command) (e m : ℕ) (lines : List WageLine) → IsCommand command → reported_by command e m ≡ Some lines → IsReported e m lines
reported-in-range (Report r) e m lines in_range h = chosen-in-range e m r lines in_range h
reported-in-range (Correct c) e m lines in_range h = chosen-in-range e m c.report lines in_range.1 h
reported-in-range command e m lines in_range h = absurd (cc)

-- and with each latest report of a lawful book
latest-in-range : (rates : RateTable) (xs : List Entry) → AreJudged rates xs → (e m : ℕ) (lines : List WageLine) → latest_lines xs e m ≡ Some lines → IsReported e m lines
latest-in-range rates [] h e m lines is = absurd (cc)
latest-in-range rates (x ∷ xs) h e m lines is =
    ⊎_elim
    (λ (new : reported_by x.command e m ≡ Some lines). reported-in-range x.command e m lines h.1.3 new)
    (λ (old : latest_lines xs e m ≡ Some lines). latest-in-range rates xs h.0 e m lines old)
    (newer_means (reported_by x.command e m) (latest_lines xs e m) lines is)

-- a month with a report has one version at least
version-some : (xs : List Entry) (e m : ℕ) (lines : List WageLine) → latest_lines xs e m ≡ Some lines → 1 ≤ version_of xs e m
version-some [] e m lines h = absurd (cc)
version-some (x ∷ xs) e m lines h = told (is_report_of e m x.command) refl (version-some xs e m lines)
  where
    older : is_report_of e m x.command ≡ false → latest_lines xs e m ≡ Some lines
    older is = ap (λ (o : Option (List WageLine)). newer o (latest_lines xs e m)) (sym (no_report x.command e m is)) ∙ h

    told : (b : Bool) → is_report_of e m x.command ≡ b → (latest_lines xs e m ≡ Some lines → 1 ≤ version_of xs e m) → 1 ≤ version_of (x ∷ xs) e m
    told true is rest = omega (arith, version_of-more xs x e m is)
    told false is rest = omega (arith, version_of-other xs x e m is, rest (older is))

-- so the row of a report is in range
report_row : (rates : RateTable) (xs : List Entry) → AreJudged rates xs → (row : ReportRow) → reported_version xs row.employer row.month ≡ Some row.version → IsReportRow row
report_row rates xs h row is = told (latest_lines xs row.employer row.month) refl is
  where
    count : version_of xs row.employer row.month ≡ row.version
    count = reported_some xs row.employer row.month row.version is

    told : (o : Option (List WageLine)) → latest_lines xs row.employer row.month ≡ o → option_map (λ (lines : List WageLine). version_of xs row.employer row.month) o ≡ Some row.version → IsReportRow row
    told None latest k = absurd (cc)
    told (Some lines) latest k =
        let within = latest-in-range rates xs h row.employer row.month lines latest in
        record {
          employer = within.0;
          month = within.1;
          some = subst (λ (n : ℕ). 1 ≤ n) count (version-some xs row.employer row.month lines latest);
          few = subst (λ (n : ℕ). n ≤ 10000) count (lawful_versions rates xs h row.employer row.month);
        }

-- ---- wages

-- a worker of a report and the gross amount of the line are in range
gross-in-range : (lines : List WageLine) (w g : ℕ) → AllByRecursion IsWageLine lines → AllByRecursion (λ line. line.gross ≤ 10000000) lines → gross_of lines w ≡ Some g → IsWorkerNo w × (g ≤ 10000000)
gross-in-range [] w g h small is = absurd (cc)
gross-in-range (line ∷ lines) w g h small is =
    told (line.worker == w) refl is (gross-in-range lines w g h.1 small.1)
  where
    told : (b : Bool) → line.worker == w ≡ b → cond b (Some line.gross) (gross_of lines w) ≡ Some g → (gross_of lines w ≡ Some g → IsWorkerNo w × (g ≤ 10000000)) → IsWorkerNo w × (g ≤ 10000000)
    told true here k rest =
        let same : line.gross ≡ g = cc in
        (subst IsWorkerNo (same_worker line.worker w here) h.0.0, subst (λ (n : ℕ). n ≤ 10000000) same small.0)
    told false here k rest = rest k

-- so the row of a worker of a report is in range
wage_row : (rates : RateTable) (xs : List Entry) → AreJudged rates xs → (row : WageRow) → reported_gross (latest_lines xs row.employer row.month) row.worker ≡ Some row.gross → IsWageRow row
wage_row rates xs h row is = told (latest_lines xs row.employer row.month) refl is
  where
    told : (o : Option (List WageLine)) → latest_lines xs row.employer row.month ≡ o → reported_gross o row.worker ≡ Some row.gross → IsWageRow row
    told None latest k = absurd (cc)
    told (Some lines) latest k =
        let within = latest-in-range rates xs h row.employer row.month lines latest in
        let few = lawful_few rates xs h row.employer row.month lines latest in
        let line = gross-in-range lines row.worker row.gross within.2 few.small k in
        record { employer = within.0; month = within.1; worker = line.0; gross = line.1 }

-- ---- kept contributions

-- the day on which a month's contribution is due lies in the calendar
due-in-range : (rate : Option Rate) (m : ℕ) → IsMonth m → ((r : Rate) → rate ≡ Some r → IsRate r) → IsDay (due_by rate m)
due-in-range None m month right = (omega arith, omega arith)
due-in-range (Some r) m month right =
    let day = (right r refl).due_day in
    let length = month_length_bounds (m + 1) in
    let last = month.1 in
    day_in-is_day (m + 1) r.due_day (omega (arith, month.0)) (omega (arith, last)) day.0 (omega (arith, day.1, length.0))

-- so the row of a reported month's contribution is in range
charge_row : (b : Book) → IsLawful b → (row : KeptCharge) → book_charge b row.employer row.month ≡ Some (charge_in row) → IsPaidInRange row → IsKeptCharge row
charge_row b lawful row is paid = told (latest_lines b.entries row.employer row.month) refl is
  where
    told : (o : Option (List WageLine)) → latest_lines b.entries row.employer row.month ≡ o → reported_charge b row.month o ≡ Some (charge_in row) → IsKeptCharge row
    told None latest k = absurd (cc k)
    told (Some lines) latest k =
        let within = latest-in-range b.opening b.entries lawful row.employer row.month lines latest in
        let few = lawful_few b.opening b.entries lawful row.employer row.month lines latest in
        let rates = (lawful_rates b.opening b.entries lawful).ranges in
        let same : month_charge (rates_of b) row.month (base_of lines) ≡ charge_in row = cc in
        record {
          employer = within.0;
          month = within.1;
          due = subst (λ (c : Charge). IsDay c.due) same (due-in-range (rate_in_force (rates_of b) row.month) row.month within.1 (λ r there. rate_right (rates_of b) row.month r rates there));
          cents = subst (λ (c : Charge). c.cents ≤ 5000000000) same (few_charge (rates_of b) row.month lines rates few);
          left = paid.0;
          weight = paid.1;
        }

-- ---- bank lines

-- the firm of a row, if it has one, is in range
abbrev HasFirm : BankRow → Type 0
HasFirm row = IfSome row.employer IsEmployerNo

-- the firm of a line is one that it names
firm-in-range : (is_registered : ℕ → Bool) (line : BankLine) → IsBankLine line → IfSome (employer_of_line is_registered line) IsEmployerNo
firm-in-range is_registered line h = told line.employer h.employer
  where
    kept : (b : Bool) (e : ℕ) → IsEmployerNo e → IfSome (cond b (Some e) None) IsEmployerNo
    kept true e h = h
    kept false e h = tt

    told : (o : Option ℕ) → IfSome o IsEmployerNo → IfSome (option_and_then (λ e. cond (is_registered e) (Some e) None) o) IsEmployerNo
    told None h = tt
    told (Some e) h = kept (is_registered e) e h

-- so it is with the rows of new lines
firms-of-rows : (is_registered : ℕ → Bool) (last : ℕ) (new : List Placed) → AllByRecursion (λ (p : Placed). IsBankLine p.1) new → AllByRecursion HasFirm (rows_from is_registered last new)
firms-of-rows is_registered last [] h = tt
firms-of-rows is_registered last (p ∷ new) h = (firm-in-range is_registered p.1 h.0, firms-of-rows is_registered (last + 1) new h.1)

-- and with those that a command brings
firms-by : (xs : List Entry) (seen : List BankRow) (command : Command) → AllByRecursion HasFirm (rows_by xs seen command)
firms-by xs seen (ImportBank file) =
    firms-of-rows (λ e. is_some (member_of xs e)) (serials_of xs seen) (new_lines (lines_of_rows seen) (lines_in file))
    (chosen IsBankLine (is_new (lines_of_rows seen) (lines_in file)) 0 (lines_in file) (lines-in-range file))
firms-by xs seen command = tt

-- a line that is assigned has a firm in range
assigned-firms : (a : Assignment) (rows : List BankRow) → IsEmployerNo a.employer → AllByRecursion HasFirm rows → AllByRecursion HasFirm (map (assigned a) rows)
assigned-firms a [] firm h = tt
assigned-firms a (row ∷ rows) firm h = (told (is_key (bank_key row) a.reference), assigned-firms a rows firm h.1)
  where
    told : (b : Bool) → HasFirm (cond b (record row { employer = Some a.employer }) row)
    told true = firm
    told false = h.0

moved-firms : (command : Command) (rows : List BankRow) → IsCommand command → AllByRecursion HasFirm rows → AllByRecursion HasFirm (moved_by command rows)
moved-firms (Assign a) rows in_range h = assigned-firms a rows in_range.1 h
moved-firms command rows in_range h = h

-- the firm of each line that stands is in range
standing-firms : (rates : RateTable) (xs : List Entry) → AreJudged rates xs → AllByRecursion HasFirm (lines_standing xs)
standing-firms rates [] h = tt
standing-firms rates (x ∷ xs) h =
    both HasFirm (moved_by x.command (lines_standing xs)) (rows_by xs (lines_seen xs) x.command)
    (moved-firms x.command (lines_standing xs) h.1.3 (standing-firms rates xs h.0)) (firms-by xs (lines_seen xs) x.command)

-- each line that stands is in range, its serial and its firm too
standing-rows : (rates : RateTable) (xs : List Entry) → AreJudged rates xs → AllByRecursion IsBankRow (lines_standing xs)
standing-rows rates xs h =
    of_both HasPlace HasFirm IsBankRow (λ row place firm. record { line = place.0; serial = place.1; employer = firm }) (lines_standing xs)
    (of_standing (λ p. IsBankLine p.0 × IsSerial p.1) xs
    (of_both HasRanges IsGiven HasPlace (λ row line serial. (line, (serial.0, given row.serial serial.1))) (lines_seen xs) (seen-in-range xs) (serials_small xs)))
    (standing-firms rates xs h)
  where
    IsGiven : BankRow → Type 0
    IsGiven row = (1 ≤ row.serial) × (row.serial ≤ serial_count xs)

    HasPlace : BankRow → Type 0
    HasPlace row = IsBankLine row.line × IsSerial row.serial

    given : (n : ℕ) → n ≤ serial_count xs → n ≤ 500000000000
    given n low = omega (arith, low, lawful_serials rates xs h)

-- ---- credits

-- the credit that a line in range is for its firm
credit_row : (row : BankRow) (e : ℕ) → row.employer ≡ Some e → IsBankRow row → (credit : CreditRow) → credit_of_line row (Some e) ≡ Some credit → IsCreditRow credit
credit_row row e is h credit made =
    let same : line_credit row e ≡ credit = cc in
    let firm : IsEmployerNo e = subst (λ (o : Option ℕ). IfSome o IsEmployerNo) is h.employer in
    let right : IsCreditRow (line_credit row e) = record {
      employer = firm;
      day = h.line.value;
      serial = h.serial;
      cents = h.line.cents;
      reference = inl h.line.reference;
    } in
    subst IsCreditRow same right

-- ---- accepted requests

-- the numbers of the reply to a command that no rule refuses are in range
reply-in-range : (b : Book) (t : ℕ) (command : Command) → IsLawful b → nat_le most_entries (length b.entries) ≡ false → own_rule b t command ≡ None → IsReply (reply_to b t command)
reply-in-range b t (Report r) lawful room own =
    let few = few_lines (member_of b.entries r.employer) (reported_version b.entries r.employer r.month) t r.month r.lines own in
    (omega arith, omega arith, few_charge (rates_of b) r.month r.lines (lawful_rates b.opening b.entries lawful).ranges few)
reply-in-range b t (Correct c) lawful room own =
    let member = member_of b.entries c.report.employer in
    let version = reported_version b.entries c.report.employer c.report.month in
    let few = few_corrected member version t c own in
    let last = (corrected member version t c own).1 in
    (omega arith, omega (arith, last), few_charge (rates_of b) c.report.month c.report.lines (lawful_rates b.opening b.entries lawful).ranges few)
reply-in-range b t (ImportBank file) lawful room own =
    let rows = by-few b.entries (lines_seen b.entries) (ImportBank file) in
    (omega (arith, rows), omega (arith, file-few file))
reply-in-range b t (Claim c) lawful room own = (omega arith, room_for (length (claims_of b.entries)) (length b.entries) (claims_few b.entries) room)
reply-in-range b t (Release number) lawful room own = told (claim_of b.entries number) refl
  where
    debts : ClaimRow → Debts
    debts row = debts_of b t row.employer

    told : (o : Option ClaimRow) → claim_of b.entries number ≡ o → IsReply (release_reply o debts)
    told None is = tt
    told (Some claim) is =
        let good = found_holds claim_key IsClaimRow (claims_of b.entries) (number ∷ []) claim (claims-in-range b.opening b.entries lawful) is in
        subst IsAmount (sym (settled_whole claim.cents (debts claim).owed (debts claim).interest)) good.cents
reply-in-range b t PayoutList lawful room own = list-reply-in-range b lawful room own
reply-in-range b t RemindRun lawful room own = run-reply-in-range b t lawful room own
reply-in-range b t command lawful room own = tt

-- so the row of each accepted request is in range
entry-in-range : (rates : RateTable) (x : Entry) (xs : List Entry) → AreJudged rates (x ∷ xs) → IsRequestRow (request_row x)
entry-in-range rates x xs h =
    let b : Book = record { opening = rates; entries = xs } in
    let said = unrefused b x.caller x.number x.day x.command x.reply h.2 in
    record {
      caller = h.1.0;
      number = h.1.1;
      day = h.1.2;
      reply = subst IsReply said.replied (reply-in-range b x.day x.command h.0 said.room said.unruled);
    }

kept_row : (rates : RateTable) (xs : List Entry) → AreJudged rates xs → (k : List ℕ) (row : RequestRow) → find_row request_key (requests_of xs) k ≡ Some row → IsRequestRow row
kept_row rates [] h k row is = absurd (cc)
kept_row rates (x ∷ xs) h k row is = told (is_key (request_key (request_row x)) k) is (kept_row rates xs h.0 k row)
  where
    told : (b : Bool) → cond b (Some (request_row x)) (find_row request_key (requests_of xs) k) ≡ Some row → (find_row request_key (requests_of xs) k ≡ Some row → IsRequestRow row) → IsRequestRow row
    told true here rest =
        let same : request_row x ≡ row = cc in
        subst IsRequestRow same (entry-in-range rates x xs h)
    told false here rest = rest here

-- ---- each table, then all

-- the day of the last request
last-day : (rates : RateTable) (xs : List Entry) → AreJudged rates xs → IfSome (ledger_day xs) IsDay
last-day rates [] h = tt
last-day rates (x ∷ xs) h = h.1.2

module _ (b : Book) (t : Tables) (lawful : IsLawful b) (stands : Stands b t) where
  -- the employers
  employers-in-range : AllByRecursion IsEmployerRow t.employers
  employers-in-range =
      all_from_found employer_key IsEmployerRow t.employers stands.employers_in_order
      (λ row found.
      employer_row row
      (subst (λ (o : Option Member). IfSome o (IsMember row.employer)) (sym (stands.employers row.employer) ∙ ap (option_map member_in) found) (member-in-range b.opening b.entries lawful row.employer)))

  -- the reports
  reports-in-range : AllByRecursion IsReportRow t.reports
  reports-in-range =
      all_from_found report_key IsReportRow t.reports stands.reports_in_order
      (λ row found. report_row b.opening b.entries lawful row (sym (stands.reports row.employer row.month) ∙ ap (option_map (λ (r : ReportRow). r.version)) found))

  -- the wages
  wages-in-range : AllByRecursion IsWageRow t.wages
  wages-in-range =
      all_from_found wage_key IsWageRow t.wages stands.wages_in_order
      (λ row found. wage_row b.opening b.entries lawful row (sym (stands.wages row.employer row.month row.worker) ∙ ap (option_map (λ (r : WageRow). r.gross)) found))

  -- the kept contributions
  charges-in-range : AllByRecursion IsKeptCharge t.charges
  charges-in-range =
      all_from_found charge_key IsKeptCharge t.charges stands.charges_in_order
      (λ row found. charge_row b lawful row (charge_of_row b t stands row.employer row.month row found) (found_holds charge_key IsPaidInRange t.charges (charge_key row) row stands.charges_paid found))

  -- the bank lines
  bank-in-range : AllByRecursion IsBankRow t.bank
  bank-in-range =
      let same : t.bank ≡ in_key_order bank_key (lines_standing b.entries) = ordered bank_key t.bank (lines_standing b.entries) stands.bank_in_order (references_standing b.entries) stands.bank in
      subst (AllByRecursion IsBankRow) (sym same)
      (AllByRecursion-in_key_order bank_key IsBankRow (lines_standing b.entries) (standing-rows b.opening b.entries lawful))

  -- the credits
  credits-in-range : AllByRecursion IsCreditRow t.credits
  credits-in-range =
      subst (AllByRecursion IsCreditRow) (sym (credits-standing b t stands))
      (AllByRecursion-in_key_order credit_key IsCreditRow (credits_made b.entries)
      (both IsCreditRow (set_offs b.entries) (credits_of_lines (lines_standing b.entries)) (set_offs-in-range b.opening b.entries lawful)
      (of_credits IsBankRow IsCreditRow credit_row (lines_standing b.entries) (standing-rows b.opening b.entries lawful))))

  -- and the accepted requests
  requests-in-range : AllByRecursion IsRequestRow t.requests
  requests-in-range =
      all_from_found request_key IsRequestRow t.requests stands.requests_in_order
      (λ row found. kept_row b.opening b.entries lawful (request_key row) row (sym (stands.requests (request_key row)) ∙ found))

-- each row of the tables of a lawful book lies in its ranges
pub rows_in_range : (b : Book) (t : Tables) → IsLawful b → Stands b t → AreInRange t
rows_in_range b t lawful stands = record {
  rates = subst AreRates (sym stands.rates) (lawful_rates b.opening b.entries lawful);
  employers = employers-in-range b t lawful stands;
  reports = reports-in-range b t lawful stands;
  wages = wages-in-range b t lawful stands;
  charges = charges-in-range b t lawful stands;
  bank = bank-in-range b t lawful stands;
  credits = credits-in-range b t lawful stands;
  claims = subst (AllByRecursion IsClaimRow) (sym stands.claims) (claims-in-range b.opening b.entries lawful);
  lists = subst (AllByRecursion IsListRow) (sym stands.lists) (lists-in-range b.opening b.entries lawful);
  runs = subst (AllByRecursion IsRunRow) (sym stands.runs) (runs_in_range b.opening b.entries lawful);
  reminders = subst (AllByRecursion IsReminderRow) (sym stands.reminders) (reminders_in_range b lawful);
  requests = requests-in-range b t lawful stands;
  day = subst (λ (o : Option ℕ). IfSome o IsDay) (sym stands.day) (last-day b.opening b.entries lawful);
  entries = subst (λ (n : ℕ). n ≤ 50000000) (sym stands.entries) (lawful_entries b.opening b.entries lawful);
  serial = subst (λ (n : ℕ). n ≤ 500000000000) (sym stands.serial) (lawful_serials b.opening b.entries lawful);
  last_claim = subst (λ (n : ℕ). n ≤ 50000000) (sym stands.last_claim) (omega (arith, claims_few b.entries, lawful_entries b.opening b.entries lawful));
  last_list = subst (λ (n : ℕ). n ≤ 50000000) (sym stands.last_list) (last_list-in-range b lawful);
  last_run = subst (λ (n : ℕ). n ≤ 50000000) (sym stands.last_run) (last_run-in-range b lawful);
}
