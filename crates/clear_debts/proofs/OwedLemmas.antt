-- What is kept of a firm's contributions is the account of the book, and tells what the firm owes.
use Rattle.std.proofs.Common.{◌≡◌, ℕ, ◌-◌, ◌≤◌, List, length, map, Option, Some, None, Bool, true, false, cond, nat_lt, refl, sym, ap, ◌∙◌, subst, arith}
use Rattle.std.specs.List.{All, AllByRecursion, AllPairs, filter}
use Rattle.std.proofs.lemmas.Bool.{ltb-true}
use Rattle.std.proofs.lemmas.Bool.Decides.{nat_tests}
use Rattle.std.proofs.lemmas.List.{length-map}
use Rattle.std.proofs.lemmas.List.Elements.{All-filter, All-from_recursion, All-map}
use Rattle.sqlite_trees.proofs.ListLemmas.{all-filter, all-map}
use Rattle.clear_account.specs.declared.entries.Charge.{Charge}
use Rattle.clear_account.specs.declared.entries.Credit.{Credit}
use Rattle.clear_account.specs.Account.{IsAccount, credited}
use Rattle.clear_kept.specs.declared.rows.WeighedCharge.{WeighedCharge}
use Rattle.clear_kept.specs.Owing.{AreWeighedInRange, arrears_in, charged_in, open_in}
use Rattle.clear_kept.specs.Weighed.{weighed_charges}
use Rattle.clear_kept.proofs.ArrearsLemmas.{arrears_from_rows}
use Rattle.clear_kept.proofs.OwingLemmas.{charged_from_rows, credited_from_rows}
use Rattle.clear_kept.proofs.OwingLemmas.{rows_in_range as kept_in_range}
use Rattle.clear_money.specs.Numbers.{IsAmount}
use Rattle.clear_bank.specs.declared.lines.Purpose.TheVariants.{Contribution, Interest}
use Rattle.clear_book.specs.declared.outcomes.Answer.TheVariants.{Owed}
use Rattle.clear_book.specs.declared.rows.CreditRow.{CreditRow}
use Rattle.clear_book.specs.declared.rules.Rule.TheVariants.{DayBack}
use Rattle.clear_book.specs.Accounts.{charges_of, credit_rows_of, credits_of, credits_standing, row_credit}
use Rattle.clear_book.specs.Allocated.{StandsWeighed, kept_charges, weighed_rows}
use Rattle.clear_book.specs.Book.{Book, ledger_day}
use Rattle.clear_book.specs.Checks.{when}
use Rattle.clear_book.specs.Judge.{day_back}
use Rattle.clear_book.specs.Laws.{IsBy}
use Rattle.clear_book.specs.Lines.{is_credit_of}
use Rattle.clear_book.specs.Machine.{IsLawful}
use Rattle.clear_book.specs.Own.Owed.{owed_by}
use Rattle.clear_book.specs.RowRanges.{IsCreditRow}
use Rattle.clear_book.specs.Tables.{Tables, table_credits}
use Rattle.clear_laws.proofs.CreditsLemmas.{table_credits-credits_of}
use Rattle.clear_laws.proofs.DueLemmas.{dues_rise}
use Rattle.clear_laws.proofs.KeptChargesLemmas.{kept_charges-charges_of}
use Rattle.clear_laws.proofs.LawsLemmas.{lawful_small}
use Rattle.clear_laws.proofs.RowRangeLemmas.{rows_in_range}
use Rattle.clear_laws.proofs.TableAccountLemmas.{account_of_tables}
use Rattle.clear_laws.proofs.ListLemmas.{each}
use Rattle.clear_debts.specs.Owing.{HasKept, credited_by}

-- ---- the amounts of credits

-- they are amounts
pub all_amounts : (f : CreditRow → Bool) (rows : List CreditRow) → AllByRecursion IsCreditRow rows → AllByRecursion IsAmount (map (λ (row : CreditRow). row.cents) (filter f rows))
all_amounts f rows within =
    all-map IsAmount (λ (row : CreditRow). row.cents) (filter f rows)
    (each IsCreditRow (λ row. IsAmount row.cents) (λ row is. is.cents) (filter f rows) (all-filter IsCreditRow f rows within))

-- ---- what is kept

-- where a part is open, the payments are what is charged less what is open
credited_kept : (cs : List Charge) (ks : List Credit) → credited_by (weighed_charges cs ks) ks ≡ credited ks
credited_kept cs ks = told (nat_lt 0 (open_in (weighed_charges cs ks))) refl
  where
    told : (b : Bool) → nat_lt 0 (open_in (weighed_charges cs ks)) ≡ b → cond b (charged_in (weighed_charges cs ks) - open_in (weighed_charges cs ks)) (credited ks) ≡ credited ks
    told true is = sym (credited_from_rows cs ks (ltb-true 0 (open_in (weighed_charges cs ks)) is)).0
    told false is = refl

-- a day that isn't refused comes after all that was
is_by : (ledger : Option ℕ) (day t : ℕ) → day_back ledger t ≡ None → IsBy ledger day → day ≤ t
is_by None day t back by = absurd by
is_by (Some l) day t back by = told (nat_lt t l) refl back
  where
    told : (late : Bool) → nat_lt t l ≡ late → when late (DayBack l) ≡ None → day ≤ t
    told true is stop = absurd (cc stop)
    told false is stop = let low : l ≤ t = grind (arith, nat_tests) in omega (arith, low, by)

module _ (b : Book) (t : Tables) (lawful : IsLawful b) (weighed : StandsWeighed b t) (e : ℕ) where
  charges_are : kept_charges t e ≡ charges_of b e
  charges_are = kept_charges-charges_of b t lawful weighed.stands e

  credits_are : table_credits t e ≡ credits_of b e
  credits_are = table_credits-credits_of b t weighed.stands e

  kept_account : IsAccount (kept_charges t e) (table_credits t e)
  kept_account = account_of_tables b t lawful weighed.stands e

  -- what is kept is what the book says
  pub rows_are : weighed_rows t e ≡ weighed_charges (charges_of b e) (credits_of b e)
  rows_are = weighed.weighed e ∙ (λ i. weighed_charges (charges_are i) (credits_are i))

  pub has_kept : HasKept t e
  has_kept = record {
    ranges = rows_in_range b t lawful weighed.stands;
    rows = subst AreWeighedInRange (sym (weighed.weighed e)) (kept_in_range (kept_charges t e) (table_credits t e) kept_account);
    few_credits = kept_account.few_credits;
  }

  pub paid_is : (rows : List WeighedCharge) (cents : ℕ) → rows ≡ weighed_rows t e → cents ≡ credited_by rows (table_credits t e) → cents ≡ credited (credits_of b e)
  paid_is rows cents are is =
      is
      ∙ (λ i. credited_by ((are ∙ rows_are) i) (credits_are i))
      ∙ credited_kept (charges_of b e) (credits_of b e)

  -- it is an account, whose contributions are due in the order of their months
  pub book_account : IsAccount (charges_of b e) (credits_of b e)
  book_account = subst (λ (cs : List Charge). IsAccount cs (credits_of b e)) charges_are (subst (IsAccount (kept_charges t e)) credits_are kept_account)

  pub book_dues : AllPairs (λ c d. c.due ≤ d.due) (charges_of b e)
  book_dues = subst (AllPairs (λ (c d : Charge). c.due ≤ d.due)) charges_are (dues_rise b lawful t weighed.stands e)

  -- no payment comes after a day that isn't refused
  pub book_days : (day : ℕ) → day_back t.day day ≡ None → All (λ k. k.day ≤ day) (credits_of b e)
  book_days day back =
      let own : CreditRow → Bool = is_credit_of e Contribution in
      let ledger : day_back (ledger_day b.entries) day ≡ None = subst (λ (o : Option ℕ). day_back o day ≡ None) weighed.stands.day back in
      All-map (λ (k : Credit). k.day ≤ day) row_credit (filter own (credits_standing b.entries))
      (All-filter own (λ row. row.day ≤ day) (credits_standing b.entries)
      (All-from_recursion (λ (row : CreditRow). row.day ≤ day) (credits_standing b.entries)
      (each (λ (row : CreditRow). IsBy (ledger_day b.entries) row.day) (λ row. row.day ≤ day) (λ row by. is_by (ledger_day b.entries) row.day day ledger by) (credits_standing b.entries) (lawful_small b lawful).days)))

  pub few_interest : length (credit_rows_of b e Interest) ≤ 100000
  few_interest = omega (arith, length-map (credit_rows_of b e Interest) row_credit, (lawful_small b lawful).interest_credits e)

  -- what is told of it is what the firm owes
  pub owed_told : (day : ℕ) (rows : List WeighedCharge) (paid all due over : ℕ) → rows ≡ weighed_charges (charges_of b e) (credits_of b e) → paid ≡ credited (credits_of b e) → all ≡ charged_in rows → due ≡ arrears_in rows day → over ≡ paid - charged_in rows
      → Owed all paid due over ≡ owed_by b e day
  owed_told day rows paid all due over are paid_are all_is due_is over_is =
      let cs = charges_of b e in
      let ks = credits_of b e in
      let charges : charged_in rows ≡ _ = ap charged_in are ∙ charged_from_rows cs ks in
      (λ i. Owed ((all_is ∙ charges) i) (paid_are i) ((due_is ∙ ap (λ (ws : List WeighedCharge). arrears_in ws day) are ∙ arrears_from_rows cs ks day book_dues) i) ((over_is ∙ (λ j. paid_are j - charges j)) i))
