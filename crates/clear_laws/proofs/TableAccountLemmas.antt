-- The contributions and the credits that the tables of a lawful book keep of a firm are an account.
use Rattle.std.proofs.Common.{◌≡◌, ◌≢◌, ℕ, ◌+◌, ◌<◌, ◌≤◌, List, [], ◌∷◌, length, map, filter, Option, Some, None, Bool, true, false, cond, ◌&&◌, ◌||◌, ◌==◌, nat_lt, refl, sym, ap, ◌∙◌, subst, arith}
use Rattle.std.proofs.lemmas.Bool.{and_parts, eqb-true}
use Rattle.std.proofs.lemmas.Bool.Decides.{nat_tests}
use Rattle.std.proofs.lemmas.List.Elements.{All-filter, All-from_recursion, All-map, All-nil, All-cons}
use Rattle.std.proofs.lemmas.List.Kept.{AllPairs-cons}
use Rattle.std.specs.List.{All, AllByRecursion, AllPairs}
use Rattle.clear_money.specs.Calendar.{IsMonth, day_in, day_of_month}
use Rattle.clear_money.specs.Numbers.{IsAmount}
use Rattle.clear_money.specs.Rates.{IsRate, Rate, rate_in_force}
use Rattle.clear_money.proofs.MonthLemmas.{day_of_month-day_in, first_day-2000, month_length_bounds}
use Rattle.clear_account.specs.Account.{IsAccount, IsCharge, comes_before}
use Rattle.clear_account.specs.declared.entries.Charge.{Charge}
use Rattle.clear_account.specs.declared.entries.Credit.{Credit}
use Rattle.clear_values.specs.declared.lines.Purpose.{Purpose}
use Rattle.clear_values.specs.declared.lines.Purpose.TheVariants.{Contribution}
use Rattle.clear_values.specs.declared.rows.CreditRow.{CreditRow}
use Rattle.clear_values.specs.declared.rows.KeptCharge.{KeptCharge}
use Rattle.clear_values.specs.declared.texts.WageLine.{WageLine}
use Rattle.clear_values.specs.Keyed.{is_key, is_before, AllBehind, AreInOrder, AreOnce}
use Rattle.clear_values.specs.Lines.{same_purpose}
use Rattle.clear_values.specs.RowRanges.{AreInRange, IsCreditRow, IsKeptCharge}
use Rattle.clear_values.proofs.KeyedChangesLemmas.{all_from_found, found_holds, keys_differ}
use Rattle.clear_values.proofs.ListLemmas.{each}
use Rattle.clear_book.specs.Accounts.{base_of, book_charge, credit_key, due_by, month_charge, rank_of, reported_charge, row_credit}
use Rattle.clear_book.specs.Allocated.{kept_charges}
use Rattle.clear_book.specs.Book.{Book, latest_lines, rates_of}
use Rattle.clear_book.specs.Lines.{credits_made, is_credit_of}
use Rattle.clear_book.specs.Machine.{IsLawful}
use Rattle.clear_book.specs.Tables.{Tables, Stands, charge_in, charge_key, table_credits}
use Rattle.clear_laws.proofs.AssignLemmas.{same_means}
use Rattle.clear_laws.proofs.CreditsLemmas.{credits-standing, table_credits-credits_of}
use Rattle.clear_laws.proofs.CreditsMadeLemmas.{made_once, paid_key}
use Rattle.clear_laws.proofs.KeptChargesLemmas.{charge_of_row}
use Rattle.clear_laws.proofs.LawsLemmas.{lawful_small}
use Rattle.clear_laws.proofs.LimitsLemmas.{lawful_rates, rate_right}
use Rattle.clear_laws.proofs.OtherKeyLemmas.{once-in_key_order}
use Rattle.clear_laws.proofs.RowRangeLemmas.{rows_in_range}

-- ---- what holds of each two rows that pass a test

module _ {Row X : Type 0} (p : Row → Bool) (f : Row → X) (R : X → X → Type 0) where
  -- of one and of all later ones
  all_shown : (row : Row) (S : Row → Type 0) → ((other : Row) → p other ≡ true → S other → R (f row) (f other)) → (rows : List Row) → AllByRecursion S rows → All (R (f row)) (map f (filter p rows))
  all_shown row S step [] all = All-nil (R (f row))
  all_shown row S step (other ∷ rows) all = told (p other) refl (all_shown row S step rows all.1)
    where
      told : (b : Bool) → p other ≡ b → All (R (f row)) (map f (filter p rows)) → All (R (f row)) (map f (cond b (other ∷ filter p rows) (filter p rows)))
      told true is rest = All-cons (R (f row)) (f other) (map f (filter p rows)) (step other is all.0) rest
      told false is rest = rest

  pairs_step : (row : Row) (rows : List Row) → (p row ≡ true → All (R (f row)) (map f (filter p rows))) → AllPairs R (map f (filter p rows)) → AllPairs R (map f (filter p (row ∷ rows)))
  pairs_step row rows first rest = told (p row) refl
    where
      told : (b : Bool) → p row ≡ b → AllPairs R (map f (cond b (row ∷ filter p rows) (filter p rows)))
      told true is = AllPairs-cons R (f row) (map f (filter p rows)) (first is) rest
      told false is = rest

  no_pairs : AllPairs R []
  no_pairs = λ i j d less within. absurd (omega arith)

  module _ (key : Row → List ℕ) where
    behind_each : (k : List ℕ) (rows : List Row) → AllBehind key k rows → AllByRecursion (λ row. is_before k (key row) ≡ true) rows
    behind_each k [] all = tt
    behind_each k (row ∷ rows) all = (all.0, behind_each k rows all.1)

    -- rows in order
    pub pairs_in_order : ((r s : Row) → p r ≡ true → p s ≡ true → is_before (key r) (key s) ≡ true → R (f r) (f s)) → (rows : List Row) → AreInOrder key rows → AllPairs R (map f (filter p rows))
    pairs_in_order step [] order = no_pairs
    pairs_in_order step (row ∷ rows) order =
        pairs_step row rows
        (λ is. all_shown row (λ other. is_before (key row) (key other) ≡ true) (λ other also before. step row other is also before) rows (behind_each (key row) rows order.0))
        (pairs_in_order step rows order.1)

    -- rows whose keys stand once
    pub pairs_once : ((r s : Row) → p r ≡ true → p s ≡ true → is_key (key s) (key r) ≡ false → R (f r) (f s)) → (rows : List Row) → AreOnce key rows → AllPairs R (map f (filter p rows))
    pairs_once step [] once = no_pairs
    pairs_once step (row ∷ rows) once =
        pairs_step row rows
        (λ is. all_shown row (λ other. is_key (key other) (key row) ≡ false) (λ other also apart. step row other is also apart) rows (keys_differ key rows (key row) once.0))
        (pairs_once step rows once.1)

-- ---- a firm's contributions

later_month : (e : ℕ) (r s : KeptCharge) → (r.employer == e) ≡ true → (s.employer == e) ≡ true → is_before (charge_key r) (charge_key s) ≡ true → r.month < s.month
later_month e r s is also before = grind (arith, nat_tests)

-- the day on which a contribution is due has a place that each month has
due_place : (rate : Option Rate) (m : ℕ) → IsMonth m → ((r : Rate) → rate ≡ Some r → IsRate r) → day_of_month (due_by rate m) ≤ 28
due_place None m month right =
    let length = month_length_bounds 24000 in
    let place : day_of_month (day_in 24000 1) ≡ 1 = day_of_month-day_in 24000 1 (omega arith) (omega arith) (omega arith) (omega (arith, length.0)) in
    subst (λ (t : ℕ). day_of_month t ≤ 28) first_day-2000 (omega (arith, place))
due_place (Some r) m month right =
    let day = (right r refl).due_day in
    let length = month_length_bounds (m + 1) in
    let last = month.1 in
    let place : day_of_month (day_in (m + 1) r.due_day) ≡ r.due_day = day_of_month-day_in (m + 1) r.due_day (omega (arith, month.0)) (omega (arith, last)) day.0 (omega (arith, day.1, length.0)) in
    omega (arith, place, day.1)

reported_place : (b : Book) → IsLawful b → (row : KeptCharge) → IsMonth row.month → book_charge b row.employer row.month ≡ Some (charge_in row) → day_of_month row.due ≤ 28
reported_place b lawful row month is = told (latest_lines b.entries row.employer row.month) is
  where
    told : (o : Option (List WageLine)) → reported_charge b row.month o ≡ Some (charge_in row) → day_of_month row.due ≤ 28
    told None k = absurd (cc k)
    told (Some lines) k =
        let rates = (lawful_rates b.opening b.entries lawful).ranges in
        let same : month_charge (rates_of b) row.month (base_of lines) ≡ charge_in row = cc in
        subst (λ (c : Charge). day_of_month c.due ≤ 28) same (due_place (rate_in_force (rates_of b) row.month) row.month month (λ r there. rate_right (rates_of b) row.month r rates there))

-- ---- a firm's credits for contributions

-- the tests of firm and purpose, apart
pub own_credit : (e : ℕ) (p : Purpose) (row : CreditRow) → is_credit_of e p row ≡ true → (row.employer ≡ e) × (row.purpose ≡ p)
own_credit e p row h =
    let parts = and_parts (row.employer == e) (same_purpose row.purpose p) h in
    (eqb-true row.employer e parts.0, same_means row.purpose p parts.1)

later_credit : (e f k c d m a b : ℕ) → nat_lt e f || ((e == f) && (nat_lt k c || ((k == c) && (nat_lt d m || ((d == m) && (nat_lt a b || ((a == b) && false))))))) ≡ true → e ≡ f → k ≡ c → nat_lt d m || ((d == m) && nat_lt a b) ≡ true
later_credit e f k c d m a b h same alike = grind (arith, nat_tests)

other_serial : (k c m n : ℕ) → (c == k) && ((n == m) && true) ≡ false → k ≡ c → m ≢ n
other_serial k c m n h alike = λ same. absurd (grind (arith, nat_tests))

-- ---- a lawful book

module _ (b : Book) (t : Tables) (lawful : IsLawful b) (stands : Stands b t) where
  in_range : AreInRange t
  in_range = rows_in_range b t lawful stands

  charges_right : AllByRecursion (λ row. IsCharge (charge_in row)) t.charges
  charges_right =
      all_from_found charge_key (λ row. IsCharge (charge_in row)) t.charges stands.charges_in_order
      (λ row found.
      let right : IsKeptCharge row = found_holds charge_key IsKeptCharge t.charges (charge_key row) row in_range.charges found in
      record {
        month = right.month;
        due = reported_place b lawful row right.month (charge_of_row b t stands row.employer row.month row found);
        cents = right.cents;
      })

  once : AreOnce paid_key t.credits
  once = subst (AreOnce paid_key) (sym (credits-standing b t stands)) (once-in_key_order credit_key paid_key (credits_made b.entries) (made_once b.entries))

  -- what is kept of a firm is an account
  pub account_of_tables : (e : ℕ) → IsAccount (kept_charges t e) (table_credits t e)
  account_of_tables e =
      let of_firm : KeptCharge → Bool = λ (row : KeptCharge). row.employer == e in
      let own : CreditRow → Bool = is_credit_of e Contribution in
      record {
        each_charge = All-map IsCharge charge_in (filter of_firm t.charges) (All-filter of_firm (λ row. IsCharge (charge_in row)) t.charges (All-from_recursion (λ row. IsCharge (charge_in row)) t.charges charges_right));
        months_rise = pairs_in_order of_firm charge_in (λ c d. c.month < d.month) charge_key (λ r s is also before. later_month e r s is also before) t.charges stands.charges_in_order;
        each_credit = All-map (λ (k : Credit). IsAmount k.cents) row_credit (filter own t.credits) (All-filter own (λ row. IsAmount row.cents) t.credits
            (All-from_recursion (λ (row : CreditRow). IsAmount row.cents) t.credits (each IsCreditRow (λ row. IsAmount row.cents) (λ row right. right.cents) t.credits in_range.credits)));
        credits_rise = pairs_in_order own row_credit (λ k l. comes_before k l ≡ true) credit_key
            (λ r s is also before.
            let left = own_credit e Contribution r is in
            let right = own_credit e Contribution s also in
            later_credit r.employer s.employer (rank_of r.purpose) (rank_of s.purpose) r.day s.day r.serial s.serial before (left.0 ∙ sym right.0) (ap rank_of (left.1 ∙ sym right.1)))
            t.credits stands.credits_in_order;
        serials_differ = pairs_once own row_credit (λ k l. k.serial ≢ l.serial) paid_key
            (λ r s is also apart.
            other_serial (rank_of r.purpose) (rank_of s.purpose) r.serial s.serial apart (ap rank_of ((own_credit e Contribution r is).1 ∙ sym (own_credit e Contribution s also).1)))
            t.credits once;
        few_credits = subst (λ (credits : List Credit). length credits ≤ 100000) (sym (table_credits-credits_of b t stands e)) ((lawful_small b lawful).credits e);
      }
