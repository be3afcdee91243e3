-- What is read of a firm for its statement is what a lawful book says of it.
use Rattle.std.proofs.Common.{◌≡◌, ℕ, ◌<◌, ◌-◌, List, [], ◌∷◌, filter, length, map, None, Some, Bool, true, false, cond, ◌&&◌, ◌||◌, ◌==◌, nat_lt, refl, sym, ap, ◌∙◌, subst, arith}
use Rattle.std.proofs.lemmas.Bool.Decides.{nat_tests}
use Rattle.std.proofs.lemmas.List.Elements.{All-cons, All-nil}
use Rattle.std.proofs.lemmas.List.Kept.{AllPairs-cons}
use Rattle.std.specs.List.{All, find}
use Rattle.std.specs.Option.{option_map}
use Rattle.clear_account.specs.Account.{credited}
use Rattle.clear_account.specs.Allocation.{prepaid as prepaid_cents}
use Rattle.clear_kept.specs.Owing.{arrears_in, charged_in}
use Rattle.clear_kept.specs.declared.rows.WeighedCharge.{WeighedCharge}
use Rattle.clear_kept.proofs.ArrearsLemmas.{arrears_from_rows}
use Rattle.clear_kept.proofs.OwingLemmas.{charged_from_rows}
use Rattle.clear_bank.specs.declared.lines.Purpose.TheVariants.{Interest}
use Rattle.clear_book.specs.declared.rows.CreditRow.{CreditRow}
use Rattle.clear_book.specs.declared.rows.EmployerRow.{EmployerRow}
use Rattle.clear_book.specs.declared.rows.ReportRow.{ReportRow}
use Rattle.clear_book.specs.Accounts.{charges_of, credit_rows_of, credits_of, row_credit}
use Rattle.clear_book.specs.Allocated.{StandsWeighed}
use Rattle.clear_book.specs.Book.{Book, member_of, reported_version}
use Rattle.clear_book.specs.Judge.{day_back}
use Rattle.clear_book.specs.Keyed.{find_row, AllBehind, AreInOrder}
use Rattle.clear_book.specs.Lines.{is_credit_of}
use Rattle.clear_book.specs.Machine.{IsLawful}
use Rattle.clear_book.specs.Tables.{Tables, Stands, employer_key, member_in, report_key}
use Rattle.clear_laws.proofs.CreditsLemmas.{credits-standing}
use Rattle.clear_laws.proofs.KeyedLemmas.{found_key}
use Rattle.clear_records.specs.Records.{AreStatementRecords, ChargesRise, MonthsRise, version_in}
use Rattle.clear_records.specs.declared.statement.StatementRecords.{StatementRecords}
use Rattle.clear_debts.specs.Overdue.{AreKept}
use Rattle.clear_reading.specs.FirmHead.{AreRead}
use Rattle.clear_debts.proofs.MissingLemmas.{missing_of_book, rows_rise}
use Rattle.clear_debts.proofs.OverdueLemmas.{interest_is, kept_found}
use Rattle.clear_debts.proofs.OwedLemmas.{few_interest, rows_are}

-- ---- the reports of one employer

module _ (e : ℕ) where
  abbrev is_of : ReportRow → Bool
  is_of row = row.employer == e

  -- the report of a month among them is the one of the employer and the month
  month_found : (m : ℕ) (rows : List ReportRow) → find (λ row. row.month == m) (filter is_of rows) ≡ find_row report_key rows (e ∷ m ∷ [])
  month_found m [] = refl
  month_found m (row ∷ rows) = told (row.employer == e) (month_found m rows)
    where
      others : List ReportRow
      others = filter is_of rows

      alone : (b : Bool) → b ≡ b && true
      alone true = refl
      alone false = refl

      told : (b : Bool) → find (λ r. r.month == m) others ≡ find_row report_key rows (e ∷ m ∷ [])
          → find (λ r. r.month == m) (cond b (row ∷ others) others) ≡ cond (b && ((row.month == m) && true)) (Some row) (find_row report_key rows (e ∷ m ∷ []))
      told true rest = (λ i. cond (alone (row.month == m) i) (Some row) (rest i))
      told false rest = rest

  -- of two in order the second is of a later month
  later : (a m b n : ℕ) → a == e ≡ true → b == e ≡ true → nat_lt a b || ((a == b) && (nat_lt m n || ((m == n) && false))) ≡ true → m < n
  later a m b n of also before = grind (arith, nat_tests)

  all_later : (row : ReportRow) (rows : List ReportRow) → is_of row ≡ true → AllBehind report_key (report_key row) rows → All (λ s. row.month < s.month) (filter is_of rows)
  all_later row [] of behind = All-nil (λ s. row.month < s.month)
  all_later row (next ∷ rows) of behind = told (is_of next) refl (all_later row rows of behind.1)
    where
      others : List ReportRow
      others = filter is_of rows

      told : (b : Bool) → is_of next ≡ b → All (λ s. row.month < s.month) others → All (λ s. row.month < s.month) (cond b (next ∷ others) others)
      told true also rest = All-cons (λ s. row.month < s.month) next others (later row.employer row.month next.employer next.month of also behind.0) rest
      told false also rest = rest

  months_rise : (rows : List ReportRow) → AreInOrder report_key rows → MonthsRise (filter is_of rows)
  months_rise [] order = λ i j d before within. absurd (omega arith)
  months_rise (row ∷ rows) order = told (is_of row) refl (months_rise rows order.1)
    where
      others : List ReportRow
      others = filter is_of rows

      told : (b : Bool) → is_of row ≡ b → MonthsRise others → MonthsRise (cond b (row ∷ others) others)
      told true of rest = AllPairs-cons (λ r s. r.month < s.month) row others (all_later row rows of order.0) rest
      told false of rest = rest

-- ---- a lawful book

module _ (b : Book) (t : Tables) (stands : Stands b t) (e : ℕ) where
  pub member_found : (row : EmployerRow) → find_row employer_key t.employers (e ∷ []) ≡ Some row → (row.employer ≡ e) × (member_of b.entries e ≡ Some (member_in row))
  member_found row is =
      let same : row.employer ∷ [] ≡ e ∷ [] = found_key employer_key t.employers (e ∷ []) row is in
      (cc, sym (stands.employers e) ∙ ap (option_map member_in) is)

  version_found : (m : ℕ) → version_in (filter (λ row. row.employer == e) t.reports) m ≡ reported_version b.entries e m
  version_found m = ap (option_map (λ (row : ReportRow). row.version)) (month_found e m t.reports) ∙ stands.reports e m

-- ---- the records

module _ (b : Book) (t : Tables) (lawful : IsLawful b) (weighed : StandsWeighed b t) (e day : ℕ) (back : day_back t.day day ≡ None) (row : EmployerRow) (found : find_row employer_key t.employers (e ∷ []) ≡ Some row) (r : StatementRecords) (read : AreRead b t row r) where
  number : row.employer ≡ e
  number = (member_found b t weighed.stands e row found).0

  kept : AreKept b day r.rates r.member r.charges
  kept =
      subst (λ (m : EmployerRow). AreKept b day r.rates m r.charges) (sym read.member_is)
      (kept_found b t lawful weighed day back r.rates row r.charges (read.rates_are ∙ weighed.stands.rates)
      (ap (member_of b.entries) number ∙ (member_found b t weighed.stands e row found).1)
      (read.charges_are ∙ sym (rows_are b t lawful weighed row.employer)))

  member_no : r.member.employer ≡ e
  member_no = ap (λ (m : EmployerRow). m.employer) read.member_is ∙ number

  pub records_found : AreStatementRecords b e day r
  records_found =
      subst (λ (k : ℕ). AreStatementRecords b k day r) member_no
      (record {
        employer = refl;
        member = kept.firm_is;
        rates = kept.rates_are;
        versions = λ m. ap (λ (rows : List ReportRow). version_in rows m) reports_are ∙ version_found b t weighed.stands r.member.employer m;
        months_rise = subst MonthsRise (sym reports_are) (months_rise r.member.employer t.reports weighed.stands.reports_in_order);
        charges = kept.charges_are;
        charges_rise = subst ChargesRise (sym kept.charges_are) (rows_rise (charges_of b r.member.employer) (credits_of b r.member.employer) kept.account.months_rise);
        interest_credits = interest_are;
        few_credits = omega (arith, ap length interest_are, few_interest b t lawful weighed r.member.employer);
        account = kept.account;
        days = kept.days;
        prepaid_is = prepaid;
        arrears_are = ap (λ (rows : List WeighedCharge). arrears_in rows day) kept.charges_are ∙ arrears_from_rows (charges_of b r.member.employer) (credits_of b r.member.employer) day kept.dues_rise;
        interest_is = interest_is b day r.rates r.member r.charges kept (credited (map row_credit r.interest_credits.items)) (ap (λ (rows : List CreditRow). credited (map row_credit rows)) interest_are);
        missing_are = missing_of_book b r.member.employer r.member r.rates r.charges kept.firm_is kept.rates_are kept.charges_are day;
      })
    where
      own : row.employer ≡ r.member.employer
      own = ap (λ (m : EmployerRow). m.employer) (sym read.member_is)

      reports_are : r.reports.items ≡ filter (λ (report : ReportRow). report.employer == r.member.employer) t.reports
      reports_are = read.reports_are ∙ ap (λ (n : ℕ). filter (λ (report : ReportRow). report.employer == n) t.reports) own

      interest_are : r.interest_credits.items ≡ credit_rows_of b r.member.employer Interest
      interest_are = read.interest_are ∙ (λ i. filter (is_credit_of (own i) Interest) (credits-standing b t weighed.stands i))

      prepaid : r.prepaid ≡ prepaid_cents (charges_of b r.member.employer) (credits_of b r.member.employer)
      prepaid =
          read.prepaid_is
          ∙ (λ i. credited (credits_of b (own i)) - charged_in (kept.charges_are i))
          ∙ ap (λ (n : ℕ). credited (credits_of b r.member.employer) - n) (charged_from_rows (charges_of b r.member.employer) (credits_of b r.member.employer))
