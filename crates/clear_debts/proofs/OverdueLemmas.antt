-- What is kept of a firm says of what it has overdue what the book says.
use Rattle.std.proofs.Common.{◌≡◌, ◌≤◌, ◌+◌, ◌-◌, ◌∙◌, ℕ, List, [], ◌∷◌, None, length, map, refl, sym, ap, subst, arith}
use Rattle.std.proofs.lemmas.List.FromFn.{length-range_with_len}
use Rattle.std.proofs.lemmas.List.{length-map}
use Rattle.std.proofs.lemmas.List.Folds.{fold-map}
use Rattle.std.proofs.lemmas.List.Sums.{count_by-le-length, length-filter, sum-map}
use Rattle.std.specs.List.{filter, slice_get, sum}
use Rattle.clear_account.specs.Account.{credited}
use Rattle.clear_account.specs.declared.entries.Credit.{Credit}
use Rattle.clear_kept.specs.Owing.{arrears_in, interest_in}
use Rattle.clear_kept.specs.declared.rows.WeighedCharge.{WeighedCharge}
use Rattle.clear_kept.proofs.ArrearsLemmas.{arrears_from_rows}
use Rattle.clear_kept.proofs.OwingLemmas.{interest_from_rows}
use Rattle.clear_money.specs.Rates.{Rate}
use Rattle.clear_bank.specs.declared.lines.Purpose.TheVariants.{Interest}
use Rattle.clear_book.specs.Accounts.{charges_of, credit_rows_of, credits_of, interest_arrears, interest_credits_of, is_missing, missing, months, row_credit}
use Rattle.clear_book.specs.Allocated.{StandsWeighed, weighed_rows}
use Rattle.clear_book.specs.Book.{Book, rates_of}
use Rattle.clear_book.specs.Judge.{day_back}
use Rattle.clear_book.specs.Lines.{is_credit_of}
use Rattle.clear_book.specs.Machine.{IsLawful}
use Rattle.clear_book.specs.Reminders.{first_of_months}
use Rattle.clear_book.specs.Tables.{Tables}
use Rattle.clear_book.specs.declared.rows.CreditRow.{CreditRow}
use Rattle.clear_book.specs.declared.rows.EmployerRow.{EmployerRow}
use Rattle.clear_laws.proofs.CreditsLemmas.{credits-standing}
use Rattle.clear_laws.proofs.LimitsLemmas.{months_are}
use Rattle.clear_records.specs.Records.{ChargesRise}
use Rattle.clear_records.specs.Told.{interest_owed, is_missing_in}
use Rattle.clear_debts.specs.Overdue.{AreKept, IsFirm, interest_amounts, overdue_told}
use Rattle.clear_debts.specs.declared.overdue.Overdue.{Overdue}
use Rattle.clear_debts.proofs.MissingLemmas.{missing_of_book, rows_rise}
use Rattle.clear_debts.proofs.OwedLemmas.{book_account, book_days, book_dues, few_interest, rows_are}

first_of : (ms : List ℕ) → slice_get ms 0 ≡ first_of_months ms
first_of [] = refl
first_of (m ∷ ms) = refl

-- there are so many months
months_counted : (n : ℕ) → n ≡ 2400 → length months ≡ n
months_counted n is = ap length (months_are n is) ∙ length-range_with_len 24000 n

few_missing : (b : Book) (e t : ℕ) → length (missing b e t) ≤ 2400
few_missing b e t = omega (arith, months_counted 2400 refl, length-filter (is_missing b e t) months, count_by-le-length (is_missing b e t) months)

-- the amounts of credits come to what is paid by them
amounts_sum : (rows : List CreditRow) → sum (map (λ (row : CreditRow). row.cents) rows) ≡ credited (map row_credit rows)
amounts_sum rows = sum-map (λ (row : CreditRow). row.cents) rows ∙ sym (fold-map (λ (n : ℕ) (k : Credit). n + k.cents) row_credit 0 rows)

module _ (b : Book) (day : ℕ) (rates : List Rate) (firm : EmployerRow) (charges : List WeighedCharge) (are : AreKept b day rates firm charges) where
  pub interest_is : (paid : ℕ) → paid ≡ credited (interest_credits_of b firm.employer) → interest_owed rates charges paid day ≡ interest_arrears b firm.employer day
  interest_is paid paid_is =
      (λ i. interest_in (are.rates_are i) (are.charges_are i) day - paid_is i)
      ∙ ap (λ n. n - credited (interest_credits_of b firm.employer)) (interest_from_rows (rates_of b) (charges_of b firm.employer) (credits_of b firm.employer) day are.account are.days)

  -- the months that are found missing
  pub months_found : (rows : List WeighedCharge) (ms : List ℕ) → rows ≡ charges → (ChargesRise rows → ms ≡ filter (is_missing_in firm rates rows day) months) → ms ≡ missing b firm.employer day
  months_found rows ms same found =
      let whole = same ∙ are.charges_are in
      found (subst ChargesRise (sym whole) (rows_rise (charges_of b firm.employer) (credits_of b firm.employer) are.account.months_rise))
      ∙ missing_of_book b firm.employer firm rates rows are.firm_is are.rates_are whole day

  pub overdue_is : (overdue : Overdue) (ms amounts : List ℕ) (paid : ℕ) → amounts ≡ interest_amounts b firm.employer → paid ≡ sum amounts → ms ≡ missing b firm.employer day → (length ms ≤ 2400 → overdue.missing ≡ length ms)
      → overdue.first ≡ slice_get ms 0 → overdue.arrears ≡ arrears_in charges day → overdue.interest ≡ interest_owed rates charges paid day → overdue.interest_count ≡ length amounts
      → overdue ≡ overdue_told b day firm.employer
  overdue_is overdue ms amounts paid amounts_are paid_is months_are many first owed interest count =
      let few : length ms ≤ 2400 = subst (λ (ms : List ℕ). length ms ≤ 2400) (sym months_are) (few_missing b firm.employer day) in
      λ i. record {
        missing = (many few ∙ ap length months_are) i;
        first = (first ∙ first_of ms ∙ ap first_of_months months_are) i;
        arrears = (owed ∙ ap (λ (rows : List WeighedCharge). arrears_in rows day) are.charges_are ∙ arrears_from_rows (charges_of b firm.employer) (credits_of b firm.employer) day are.dues_rise) i;
        interest = (interest ∙ interest_is paid (paid_is ∙ ap sum amounts_are ∙ amounts_sum (credit_rows_of b firm.employer Interest))) i;
        interest_count = (count ∙ ap length amounts_are ∙ length-map (credit_rows_of b firm.employer Interest) (λ (row : CreditRow). row.cents)) i;
      }

module _ (b : Book) (t : Tables) (lawful : IsLawful b) (weighed : StandsWeighed b t) where
  -- what is read of a firm is what is kept of it
  pub kept_found : (day : ℕ) → day_back t.day day ≡ None → (rates : List Rate) (firm : EmployerRow) (charges : List WeighedCharge) → rates ≡ rates_of b → IsFirm b firm
      → charges ≡ weighed_rows t firm.employer → AreKept b day rates firm charges
  kept_found day back rates firm charges rated registered found = record {
    rates_are = rated;
    firm_is = registered;
    charges_are = found ∙ rows_are b t lawful weighed firm.employer;
    account = book_account b t lawful weighed firm.employer;
    dues_rise = book_dues b t lawful weighed firm.employer;
    days = book_days b t lawful weighed firm.employer day back;
  }

  -- so are the amounts of its credits for interest
  pub amounts_found : (e : ℕ) (amounts : List ℕ) → amounts ≡ map (λ (row : CreditRow). row.cents) (filter (is_credit_of e Interest) t.credits) → amounts ≡ interest_amounts b e
  amounts_found e amounts found = found ∙ ap (λ (rows : List CreditRow). map (λ (row : CreditRow). row.cents) (filter (is_credit_of e Interest) rows)) (credits-standing b t weighed.stands)

  -- and it has no more of them than an account
  pub few_found : (e : ℕ) (amounts : List ℕ) → amounts ≡ interest_amounts b e → length amounts ≤ 100000
  few_found e amounts are =
      omega (arith, ap length are, length-map (credit_rows_of b e Interest) (λ (row : CreditRow). row.cents), few_interest b t lawful weighed e)
