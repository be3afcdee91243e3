-- The tables of a book, after an entry more that leaves some of them, and after a registration.
use Rattle.std.proofs.Common.{◌≡◌, ℕ, List, ◌∷◌, [], ◌++◌, length, Option, Some, None, IsSome, is_some, option_and_then, Bool, true, false, cond, ◌&&◌, ◌==◌, refl, sym, ap, ◌∙◌, subst, arith}
use Rattle.std.proofs.lemmas.List.{append-nil}
use Rattle.std.proofs.lemmas.List.Sums.{sum_by-cons}
use Rattle.std.specs.Option.{option_map}
use Rattle.clear_values.specs.declared.callers.Caller.{Caller}
use Rattle.clear_book.specs.declared.calls.Command.TheVariants.{Register}
use Rattle.clear_book.specs.declared.calls.Call.TheVariants.{Do}
use Rattle.clear_book.specs.declared.calls.Registration.{Registration}
use Rattle.clear_book.specs.declared.calls.WageReport.{WageReport}
use Rattle.clear_money.specs.Rates.{Rate, rate_in_force}
use Rattle.clear_values.specs.declared.replies.Reply.{Reply}
use Rattle.clear_values.specs.declared.rows.BankRow.{BankRow}
use Rattle.clear_values.specs.declared.rows.ClaimRow.{ClaimRow}
use Rattle.clear_values.specs.declared.rows.CreditRow.{CreditRow}
use Rattle.clear_values.specs.declared.rows.EmployerRow.{EmployerRow}
use Rattle.clear_values.specs.declared.rows.ListRow.{ListRow}
use Rattle.clear_values.specs.declared.rows.ReminderRow.{ReminderRow}
use Rattle.clear_values.specs.declared.rows.RunRow.{RunRow}
use Rattle.clear_values.specs.declared.rows.Change.TheVariants.{AddEmployer}
use Rattle.clear_values.specs.declared.texts.WageLine.{WageLine}
use Rattle.clear_book.specs.Book.{Book, Entry, Member, entry, entry_under, newer, member_by, member_after, member_of, is_registration, employer_count, report_in, lines_for, reported_by, latest_lines, reported_version, version_of, rates_added, rates_of}
use Rattle.clear_book.specs.Accounts.{base_of, book_charge, contribution_of_base, credit_key, due_by, reported_charge}
use Rattle.clear_book.specs.Calls.{is_remind_run}
use Rattle.clear_book.specs.Judge.{Verdict, new_reply, judge}
use Rattle.clear_book.specs.Own.Register.{own_register}
use Rattle.clear_values.specs.Keyed.{find_row, with_row, AreInOrder}
use Rattle.clear_book.specs.Lines.{credits_made, is_release, lines_seen, lines_standing, moved_by, rows_by}
use Rattle.clear_book.specs.Machine.{step, after, appended}
use Rattle.clear_book.specs.Reminders.{reminders_of, runs_of}
use Rattle.clear_book.specs.Tables.{Tables, Stands, employer_key, bank_key, changed, charge_at, gross_at, member_at, noted, member_in, reported_gross, version_at}
use Rattle.clear_book.specs.Workers.{lists_by}
use Rattle.clear_laws.proofs.ClaimsLemmas.{LeavesClaims, claims_left}
use Rattle.clear_laws.proofs.JudgeLemmas.{unrefused}
use Rattle.clear_values.proofs.KeyedLemmas.{find_row-with_row, length-with_row, AreInOrder-with_row}
use Rattle.clear_laws.proofs.LinesLemmas.{none_moved, none_taken}
use Rattle.clear_laws.proofs.ListNumbersLemmas.{lists_left}
use Rattle.clear_laws.proofs.CreditsMadeLemmas.{none_made}
use Rattle.clear_laws.proofs.RemindersLemmas.{reminders_left, runs_left}
use Rattle.clear_laws.proofs.RequestLemmas.{requests_found, requests_still_in_order}
use Rattle.clear_laws.proofs.VersionLemmas.{no_some, version_of-other}

pub no_map : {A B : Type 0} (f : A → B) (o : Option A) → option_map f o ≡ None → o ≡ None
no_map f None h = refl
no_map f (Some x) h = absurd (cc)

-- ---- what an entry leaves

-- the contribution of a reported month stays where its rate does
pub same_charge : (b next : Book) (m : ℕ) (o : Option (List WageLine)) → (IsSome o → rate_in_force (rates_of next) m ≡ rate_in_force (rates_of b) m) → reported_charge b m o ≡ reported_charge next m o
same_charge b next m None same = refl
same_charge b next m (Some lines) same =
    ap (λ (rate : Option Rate). Some (record { month = m; due = due_by rate m; cents = contribution_of_base rate (base_of lines) })) (sym (same refl))

-- without a row of rates, the rates stay
pub same_rates : (b : Book) (x : Entry) → rates_added x.command ≡ [] → rates_of (appended b x) ≡ rates_of b
same_rates b x none = ap (λ more. rates_of b ++ more) none ∙ append-nil (rates_of b)

module _ (b : Book) (t : Tables) (stands : Stands b t) (x : Entry) where
  -- and they are those of the next book
  pub rates_left : rates_added x.command ≡ [] → t.rates ≡ rates_of (appended b x)
  rates_left none = stands.rates ∙ sym (same_rates b x none)

  -- where no employer is changed, they stay
  pub employers_left : ((e : ℕ) (old : Option Member) → member_after old x.command e ≡ old) → (e : ℕ) → member_at t.employers e ≡ member_of (x ∷ b.entries) e
  employers_left same e = stands.employers e ∙ sym (same e (member_of b.entries e))

  -- and without a registration there are as many
  pub employer_rows_left : is_registration x.command ≡ false → length t.employers ≡ employer_count (x ∷ b.entries)
  employer_rows_left other =
      let none : cond {A = ℕ} (is_registration x.command) 1 0 ≡ 0 = ap (λ c. cond {A = ℕ} c 1 0) other in
      omega (arith, stands.employer_rows, none, sum_by-cons (λ (y : Entry). cond {A = ℕ} (is_registration y.command) 1 0) x b.entries)

  -- without a report, the versions and the gross amounts stay
  module _ (none : report_in x.command ≡ None) where
    no_lines : (e m : ℕ) → reported_by x.command e m ≡ None
    no_lines e m = ap (λ (o : Option WageReport). option_and_then (lines_for e m) o) none

    pub reports_left : (e m : ℕ) → version_at t.reports e m ≡ reported_version (x ∷ b.entries) e m
    reports_left e m =
        let same : version_of (x ∷ b.entries) e m ≡ version_of b.entries e m = version_of-other b.entries x e m (ap is_some (no_lines e m)) in
        stands.reports e m ∙ (λ i. option_map (λ (lines : List WageLine). sym same i) (newer (sym (no_lines e m) i) (latest_lines b.entries e m)))

    pub wages_left : (e m w : ℕ) → gross_at t.wages e m w ≡ reported_gross (latest_lines (x ∷ b.entries) e m) w
    wages_left e m w = stands.wages e m w ∙ ap (λ (o : Option (List WageLine)). reported_gross (newer o (latest_lines b.entries e m)) w) (sym (no_lines e m))

    -- the contributions stay where the rates of the reported months do
    pub charges_kept : ((e m : ℕ) → IsSome (latest_lines b.entries e m) → rate_in_force (rates_of (appended b x)) m ≡ rate_in_force (rates_of b) m) → (e m : ℕ) → charge_at t.charges e m ≡ book_charge (appended b x) e m
    charges_kept same e m =
        stands.charges e m
        ∙ same_charge b (appended b x) m (latest_lines b.entries e m) (same e m)
        ∙ ap (λ (o : Option (List WageLine)). reported_charge (appended b x) m (newer o (latest_lines b.entries e m))) (sym (no_lines e m))

    -- so without a row of rates they do
    pub charges_left : rates_added x.command ≡ [] → (e m : ℕ) → charge_at t.charges e m ≡ book_charge (appended b x) e m
    charges_left no_rates = charges_kept (λ e m there. ap (λ (rates : List Rate). rate_in_force rates m) (same_rates b x no_rates))

  -- where no line is brought and none is moved, the lines stay, and without a release the credits do
  module _ (no_move : (rows : List BankRow) → moved_by x.command rows ≡ rows) (no_rows : rows_by b.entries (lines_seen b.entries) x.command ≡ []) where
    pub bank_left : (reference : List ℕ) → find_row bank_key t.bank reference ≡ find_row bank_key (lines_standing (x ∷ b.entries)) reference
    bank_left reference = stands.bank reference ∙ ap (λ (rows : List BankRow). find_row bank_key rows reference) (sym (none_moved b.entries x no_move no_rows))

    pub credits_left : is_release x.command ≡ false → (k : List ℕ) → find_row credit_key t.credits k ≡ find_row credit_key (credits_made (x ∷ b.entries)) k
    credits_left other k = stands.credits k ∙ ap (λ (rows : List CreditRow). find_row credit_key rows k) (sym (none_made b.entries x no_move no_rows other))

-- an entry whose command reports nothing, brings and moves no lines, is no release, and leaves claims and lists
pub record LeavesRest (xs : List Entry) (x : Entry) : Type 0 where
  pub no_report : report_in x.command ≡ None
  pub no_move : (rows : List BankRow) → moved_by x.command rows ≡ rows
  pub no_rows : rows_by xs (lines_seen xs) x.command ≡ []
  pub no_release : is_release x.command ≡ false
  pub no_claims : LeavesClaims x.day x.reply x.command
  pub no_list : lists_by x.day x.reply x.command ≡ []

module _ (b : Book) (t : Tables) (stands : Stands b t) (x : Entry) (leaves : LeavesRest b.entries x) (free : entry_under b.entries x.caller x.number ≡ None) where
  -- tables with the rates, the employers and the runs of the next book, and else as they were
  pub rest_with_runs : (rates : List Rate) (employers : List EmployerRow) → rates ≡ rates_of (appended b x) → ((e m : ℕ) → charge_at t.charges e m ≡ book_charge (appended b x) e m) → ((e : ℕ) → member_at employers e ≡ member_of (x ∷ b.entries) e)
      → length employers ≡ employer_count (x ∷ b.entries) → AreInOrder employer_key employers
      → (runs : List RunRow) (last_run : ℕ) (reminders : List ReminderRow) → runs ≡ runs_of (x ∷ b.entries) → last_run ≡ length (runs_of (x ∷ b.entries)) → reminders ≡ reminders_of (appended b x)
      → Stands (appended b x) (noted x (record t { rates = rates; employers = employers; runs = runs; last_run = last_run; reminders = reminders }))
  rest_with_runs rates employers rates_are charges_are employers_are many in_order runs last_run reminders runs_are last_run_is reminders_are = record {
    rates = rates_are;
    day = refl;
    entries = omega (arith, stands.entries);
    employers = employers_are;
    employer_rows = many;
    employers_in_order = in_order;
    reports = reports_left b t stands x leaves.no_report;
    reports_in_order = stands.reports_in_order;
    wages = wages_left b t stands x leaves.no_report;
    wages_in_order = stands.wages_in_order;
    charges = charges_are;
    charges_in_order = stands.charges_in_order;
    charges_paid = stands.charges_paid;
    bank = bank_left b t stands x leaves.no_move leaves.no_rows;
    bank_in_order = stands.bank_in_order;
    credits = credits_left b t stands x leaves.no_move leaves.no_rows leaves.no_release;
    credits_in_order = stands.credits_in_order;
    requests = requests_found b t stands x free;
    requests_in_order = requests_still_in_order b t stands x free;
    claims = stands.claims ∙ sym (claims_left b.entries x leaves.no_claims);
    last_claim = stands.last_claim ∙ sym (ap (λ (claims : List ClaimRow). length claims) (claims_left b.entries x leaves.no_claims));
    lists = stands.lists ∙ sym (lists_left b.entries x leaves.no_list);
    last_list = stands.last_list ∙ sym (ap (λ (lists : List ListRow). length lists) (lists_left b.entries x leaves.no_list));
    runs = runs_are;
    last_run = last_run_is;
    reminders = reminders_are;
    serial = stands.serial ∙ sym (none_taken b.entries x leaves.no_rows leaves.no_release);
  }

  -- where the command is no reminder run, the runs stay
  pub rest_left : is_remind_run x.command ≡ false → (rates : List Rate) (employers : List EmployerRow) → rates ≡ rates_of (appended b x) → ((e m : ℕ) → charge_at t.charges e m ≡ book_charge (appended b x) e m) → ((e : ℕ) → member_at employers e ≡ member_of (x ∷ b.entries) e)
      → length employers ≡ employer_count (x ∷ b.entries) → AreInOrder employer_key employers → Stands (appended b x) (noted x (record t { rates = rates; employers = employers }))
  rest_left no_run rates employers rates_are charges_are employers_are many in_order =
      let left = runs_left b.entries x no_run in
      rest_with_runs rates employers rates_are charges_are employers_are many in_order t.runs t.last_run t.reminders (stands.runs ∙ sym left) (stands.last_run ∙ sym (ap (λ (runs : List RunRow). length runs) left))
      (stands.reminders ∙ sym (reminders_left b x no_run))

-- ---- a registration

unregistered : (registered : Bool) (employers : ℕ) (has_rate : Bool) → own_register registered employers has_rate ≡ None → registered ≡ false
unregistered true employers has_rate h = absurd (cc)
unregistered false employers has_rate h = refl

found_member : (b : Bool) (row : EmployerRow) (o : Option EmployerRow) → option_map member_in (cond (b && true) (Some row) o) ≡ newer (cond b (Some (member_in row)) None) (option_map member_in o)
found_member true row o = refl
found_member false row o = refl

module _ (b : Book) (t : Tables) (stands : Stands b t) (caller : Caller) (number day : ℕ) where
  module _ (r : Registration) (reply : Reply) (judged : judge b (Do caller number day (Register r)) ≡ new_reply reply) where
    abbrev registration_row : EmployerRow
    registration_row = record { employer = r.employer; name = r.name; start = r.start; last = None }

    abbrev registration : Entry
    registration = entry caller number day (Register r) reply

    no_number : entry_under b.entries caller number ≡ None
    no_number = (unrefused b caller number day (Register r) reply judged).free

    no_member : member_of b.entries r.employer ≡ None
    no_member = no_some _ (unregistered _ _ _ (unrefused b caller number day (Register r) reply judged).unruled)

    no_row : find_row employer_key t.employers (r.employer ∷ []) ≡ None
    no_row = no_map member_in _ (stands.employers r.employer ∙ no_member)

    registered_tables : Stands (appended b registration) (noted registration (changed (AddEmployer registration_row) t))
    registered_tables =
        rest_left b t stands registration
        (record { no_report = refl; no_move = λ rows. refl; no_rows = refl; no_release = refl; no_claims = record { kept = λ claim. refl; none = λ last. refl }; no_list = refl })
        no_number refl t.rates (with_row employer_key t.employers registration_row) (rates_left b t stands registration refl) (charges_left b t stands registration refl refl)
        (λ e.
        ap (option_map member_in) (find_row-with_row employer_key t.employers registration_row (e ∷ []) no_row)
        ∙ found_member (r.employer == e) registration_row (find_row employer_key t.employers (e ∷ []))
        ∙ ap (newer (member_by e r)) (stands.employers e))
        (omega (arith, length-with_row employer_key t.employers registration_row, stands.employer_rows, sum_by-cons (λ (x : Entry). cond {A = ℕ} (is_registration x.command) 1 0) registration b.entries))
        (AreInOrder-with_row employer_key t.employers registration_row stands.employers_in_order no_row)

    pub Stands-registered : (name : List ℕ) → name ≡ r.name → Stands (step b (Do caller number day (Register r))) (noted registration (changed (AddEmployer (record { employer = r.employer; name = name; start = r.start; last = None })) t))
    Stands-registered name same =
        subst (λ (p : Verdict × List ℕ). Stands (after b (Do caller number day (Register r)) p.0) (noted registration (changed (AddEmployer (record { employer = r.employer; name = p.1; start = r.start; last = None })) t))) (λ i. (sym judged i, sym same i)) registered_tables
