-- What a decision's change makes of the contributions and of the credits that the tables keep of each firm.
use Rattle.std.proofs.Common.{◌≡◌, ◌≢◌, ℕ, ◌<◌, List, [], ◌∷◌, length, get_or, map, filter, Some, None, Bool, true, false, cond, ◌&&◌, ◌==◌, nat_lt, refl, sym, ap, ◌∙◌, subst, arith}
use Rattle.std.proofs.lemmas.Bool.Decides.{nat_tests}
use Rattle.std.proofs.lemmas.List.{get_or-map, length-map}
use Rattle.std.proofs.lemmas.List.Elements.{All-contains, All-contains_itself, All-filter, All-from_recursion, All-get_or, filter_passes, recursion_from_All}
use Rattle.std.specs.List.{All, AllByRecursion, Any, Contains, find}
use Rattle.std.specs.Option.{option_map}
use Rattle.clear_account.specs.Account.{comes_before}
use Rattle.clear_account.specs.declared.entries.Charge.{Charge}
use Rattle.clear_account.specs.declared.entries.Credit.{Credit}
use Rattle.clear_kept.specs.Changes.{charges_before, credits_before}
use Rattle.clear_values.specs.Credits.{credit_key, rank_of}
use Rattle.clear_values.specs.Keyed.{is_held, is_key, find_row, AreInOrder, put_row, with_row, with_rows, without_rows}
use Rattle.clear_values.specs.declared.lines.Purpose.TheVariants.{Contribution}
use Rattle.clear_values.specs.declared.rows.Change.{Change}
use Rattle.clear_values.specs.declared.rows.Change.TheVariants.{AddReport, ReplaceReport, AddBankLines, AssignLine, ReleaseClaim}
use Rattle.clear_values.specs.declared.rows.CreditRow.{CreditRow}
use Rattle.clear_values.specs.declared.rows.KeptCharge.{KeptCharge}
use Rattle.clear_values.specs.declared.rows.ReportRow.{ReportRow}
use Rattle.clear_values.specs.declared.texts.WageLine.{WageLine}
use Rattle.clear_values.proofs.KeyedChangesLemmas.{find_row-put_row, keys_differ}
use Rattle.clear_values.proofs.KeyedLemmas.{find_row-with_row, is_key-refl, is_key-true}
use Rattle.clear_values.proofs.KeyedRowsLemmas.{AreNew}
use Rattle.clear_book.specs.Accounts.{row_credit}
use Rattle.clear_book.specs.Allocated.{FirstCredit, FirstMonth, contribution_rows, kept_charges}
use Rattle.clear_book.specs.Lines.{is_credit_of}
use Rattle.clear_book.specs.Tables.{Tables, changed, charge_at, charge_in, charge_key, corrected, table_credits}
use Rattle.clear_laws.proofs.CorrectedLemmas.{corrected-other, corrected-same, stays}
use Rattle.clear_laws.proofs.KeyedFilterLemmas.{all_before_rows, filter-shown, filter-with_row_other, filter-with_rows, filter-with_rows_other, filter-without_rows_other, filter_swap, in_order-before, in_order-new}
use Rattle.clear_laws.proofs.TableAccountLemmas.{own_credit}

-- a change by which no account changes
abbrev pub LeavesAccounts : Change → Type 0
LeavesAccounts (AddReport row lines charge) = ⊥
LeavesAccounts (ReplaceReport row lines charge) = ⊥
LeavesAccounts (AddBankLines rows) = ⊥
LeavesAccounts (AssignLine row) = ⊥
LeavesAccounts (ReleaseClaim claim serial) = ⊥
LeavesAccounts change = Unit {0}

pub accounts_left : (change : Change) → LeavesAccounts change → (t : Tables) → ((changed change t).charges ≡ t.charges) × ((changed change t).credits ≡ t.credits)
accounts_left (AddReport row lines charge) left t = absurd left
accounts_left (ReplaceReport row lines charge) left t = absurd left
accounts_left (AddBankLines rows) left t = absurd left
accounts_left (AssignLine row) left t = absurd left
accounts_left (ReleaseClaim claim serial) left t = absurd left
accounts_left change left t = (refl, refl)

-- the pieces stay until they are put
pub pieces_changed : (change : Change) (t : Tables) → (changed change t).pieces ≡ t.pieces
pieces_changed (AddReport row lines charge) t = refl
pieces_changed change t = refl

-- ---- the contribution of a month

-- the kept contributions of a firm, with what is open of them
abbrev pub firm_rows : Tables → ℕ → List KeptCharge
firm_rows t e = filter (λ row. row.employer == e) t.charges

-- of a firm's contributions those of earlier months stay, with what is open of them, and all credits and the contributions
-- of other firms
pub record ChangesCharge (t v : Tables) (e m : ℕ) : Type 0 where
  pub rows : (f : ℕ) → contribution_rows v f ≡ contribution_rows t f
  pub earlier : charges_before m (kept_charges t e) ≡ charges_before m (kept_charges v e)
  pub front : filter (λ row. nat_lt row.month m) (firm_rows v e) ≡ filter (λ row. nat_lt row.month m) (firm_rows t e)
  pub others : (f : ℕ) → (f == e) ≡ false → firm_rows v f ≡ firm_rows t f

-- it is so of tables with the same contributions and credits
pub changes_as : (t u v : Tables) (e m : ℕ) → ChangesCharge t u e m → v.charges ≡ u.charges → v.credits ≡ u.credits → ChangesCharge t v e m
changes_as t u v e m changes charges credits = record {
  rows = λ f. ap (λ (rows : List CreditRow). filter (is_credit_of f Contribution) rows) credits ∙ changes.rows f;
  earlier = changes.earlier ∙ ap (λ (rows : List KeptCharge). charges_before m (map charge_in (filter (λ row. row.employer == e) rows))) (sym charges);
  front = ap (λ (rows : List KeptCharge). filter (λ row. nat_lt row.month m) (filter (λ row. row.employer == e) rows)) charges ∙ changes.front;
  others = λ f apart. ap (λ (rows : List KeptCharge). filter (λ row. row.employer == f) rows) charges ∙ changes.others f apart;
}

-- what is kept of a month is found among a firm's contributions
pub charge_found : (rows : List KeptCharge) (e m : ℕ) → find (λ c. c.month == m) (map charge_in (filter (λ row. row.employer == e) rows)) ≡ charge_at rows e m
charge_found [] e m = refl
charge_found (row ∷ rows) e m = told (row.employer == e) (row.month == m) refl (charge_found rows e m)
  where
    left : List Charge
    left = map charge_in (filter (λ r. r.employer == e) rows)

    told : (a b : Bool) → row.month == m ≡ b → find (λ c. c.month == m) left ≡ charge_at rows e m
        → find (λ c. c.month == m) (map charge_in (cond a (row ∷ filter (λ r. r.employer == e) rows) (filter (λ r. r.employer == e) rows))) ≡ option_map charge_in (cond (a && (b && true)) (Some row) (find_row charge_key rows (e ∷ m ∷ [])))
    told true true is rest = ap (λ b. cond b (Some (charge_in row)) (find (λ c. c.month == m) left)) is
    told true false is rest = ap (λ b. cond b (Some (charge_in row)) (find (λ c. c.month == m) left)) is ∙ rest
    told false b is rest = rest

module _ (t : Tables) (charge : KeptCharge) (e m : ℕ) (employer : charge.employer ≡ e) (month : charge.month ≡ m) where
  abbrev of_firm : ℕ → KeptCharge → Bool
  of_firm f row = row.employer == f

  abbrev is_earlier : KeptCharge → Bool
  is_earlier row = nat_lt row.month m

  other_firm : (f : ℕ) → (f == e) ≡ false → of_firm f charge ≡ false
  other_firm f apart = told charge.employer employer
    where
      told : (k : ℕ) → k ≡ e → (k == f) ≡ false
      told k is = grind (arith, nat_tests)

  not_earlier : is_earlier charge ≡ false
  not_earlier = told charge.month month
    where
      told : (k : ℕ) → k ≡ m → nat_lt k m ≡ false
      told k is = grind (arith, nat_tests)

  -- a row with the key of this one agrees with it in each test of the key
  by_key : (row : KeptCharge) → is_key (charge_key row) (charge_key charge) ≡ true → (row.employer ≡ charge.employer) × (row.month ≡ charge.month)
  by_key row is = let same = is_key-true (charge_key row) (charge_key charge) is in (cc same, cc same)

  earlier_are : (rows : List KeptCharge) → charges_before m (map charge_in (filter (of_firm e) rows)) ≡ map charge_in (filter (of_firm e) (filter is_earlier rows))
  earlier_are rows =
      filter-shown charge_in is_earlier (λ c. nat_lt c.month m) (λ row. refl) (filter (of_firm e) rows)
      ∙ ap (map charge_in) (filter_swap is_earlier (of_firm e) rows)

  same_earlier : (rows new : List KeptCharge) → filter is_earlier new ≡ filter is_earlier rows → charges_before m (map charge_in (filter (of_firm e) rows)) ≡ charges_before m (map charge_in (filter (of_firm e) new))
  same_earlier rows new same = earlier_are rows ∙ ap (λ xs. map charge_in (filter (of_firm e) xs)) (sym same) ∙ sym (earlier_are new)

  front_is : (rows new : List KeptCharge) → filter is_earlier new ≡ filter is_earlier rows → filter is_earlier (filter (of_firm e) new) ≡ filter is_earlier (filter (of_firm e) rows)
  front_is rows new same = filter_swap is_earlier (of_firm e) new ∙ ap (filter (of_firm e)) same ∙ sym (filter_swap is_earlier (of_firm e) rows)

  put_beside : (p : KeptCharge → Bool) → p charge ≡ false → ((row : KeptCharge) → row.employer ≡ charge.employer → row.month ≡ charge.month → p row ≡ p charge) → filter p (put_row charge_key t.charges charge) ≡ filter p t.charges
  put_beside p is alike =
      filter-with_row_other charge_key p (without_rows charge_key (λ k. is_key k (charge_key charge)) t.charges) charge is
      ∙ filter-without_rows_other charge_key p (λ k. is_key k (charge_key charge)) (λ row here. let same = by_key row here in alike row same.0 same.1 ∙ is) t.charges

  -- a month's first report
  pub report_added : (row : ReportRow) (lines : List WageLine) → ChangesCharge t (changed (AddReport row lines charge) t) e m
  report_added row lines = record {
    rows = λ f. refl;
    earlier = same_earlier t.charges (with_row charge_key t.charges charge) (filter-with_row_other charge_key is_earlier t.charges charge not_earlier);
    front = front_is t.charges (with_row charge_key t.charges charge) (filter-with_row_other charge_key is_earlier t.charges charge not_earlier);
    others = λ f apart. filter-with_row_other charge_key (of_firm f) t.charges charge (other_firm f apart);
  }

  -- its contribution is new
  pub report_added-first : (row : ReportRow) (lines : List WageLine) → AreInOrder charge_key (changed (AddReport row lines charge) t).charges
      → FirstMonth (kept_charges t e) (kept_charges (changed (AddReport row lines charge) t) e) m
  report_added-first row lines order =
      let free : find_row charge_key t.charges (charge_key charge) ≡ None = (in_order-before charge_key t.charges charge order).1 in
      let key : charge_key charge ≡ e ∷ m ∷ [] = (λ i. employer i ∷ month i ∷ []) in
      let none : charge_at t.charges e m ≡ None = ap (λ k. option_map charge_in (find_row charge_key t.charges k)) (sym key) ∙ ap (option_map charge_in) free in
      let some : charge_at (with_row charge_key t.charges charge) e m ≡ Some (charge_in charge) =
      ap (λ k. option_map charge_in (find_row charge_key (with_row charge_key t.charges charge) k)) (sym key)
      ∙ ap (option_map charge_in) (find_row-with_row charge_key t.charges charge (charge_key charge) free ∙ ap (λ b. cond b (Some charge) (find_row charge_key t.charges (charge_key charge))) (is_key-refl (charge_key charge))) in (
        (report_added row lines).earlier,
        λ same. absurd (cc (sym none ∙ sym (charge_found t.charges e m) ∙ same ∙ charge_found (with_row charge_key t.charges charge) e m ∙ some)),
      )

  corrected_beside : (p : KeptCharge → Bool) → p charge ≡ false → ((row : KeptCharge) → row.employer ≡ charge.employer → row.month ≡ charge.month → p row ≡ p charge) → filter p (corrected charge t.charges) ≡ filter p t.charges
  corrected_beside p is alike = told (stays charge t.charges)
    where
      told : (b : Bool) → filter p (cond b t.charges (put_row charge_key t.charges charge)) ≡ filter p t.charges
      told true = refl
      told false = put_beside p is alike

  -- a correction
  pub report_replaced : (row : ReportRow) (lines : List WageLine) → ChangesCharge t (changed (ReplaceReport row lines charge) t) e m
  report_replaced row lines =
      let sooner = corrected_beside is_earlier not_earlier (λ r firm here. ap (λ k. nat_lt k m) here) in record {
        rows = λ f. refl;
        earlier = same_earlier t.charges (corrected charge t.charges) sooner;
        front = front_is t.charges (corrected charge t.charges) sooner;
        others = λ f apart. corrected_beside (of_firm f) (other_firm f apart) (λ r firm here. ap (λ k. k == f) firm);
      }

  put_found : charge_at (put_row charge_key t.charges charge) e m ≡ Some (charge_in charge)
  put_found =
      let key : charge_key charge ≡ e ∷ m ∷ [] = (λ i. employer i ∷ month i ∷ []) in
      ap (λ k. option_map charge_in (find_row charge_key (put_row charge_key t.charges charge) k)) (sym key)
      ∙ ap (option_map charge_in) (find_row-put_row charge_key t.charges charge (charge_key charge) ∙ ap (λ b. cond b (Some charge) (find_row charge_key t.charges (charge_key charge))) (is_key-refl (charge_key charge)))

  at_key : (rows : List KeptCharge) → charge_at rows e m ≡ option_map charge_in (find_row charge_key rows (charge_key charge))
  at_key rows = ap (λ k. option_map charge_in (find_row charge_key rows k)) (λ i. sym employer i ∷ sym month i ∷ [])

  -- its contribution is another one than before
  pub report_replaced-first : (row : ReportRow) (lines : List WageLine) → is_held charge_key charge t.charges ≡ true → charge_at t.charges e m ≢ Some (charge_in charge)
      → FirstMonth (kept_charges t e) (kept_charges (changed (ReplaceReport row lines charge) t) e) m
  report_replaced-first row lines held differs = (
    (report_replaced row lines).earlier,
    λ same. differs (sym (charge_found t.charges e m) ∙ same ∙ charge_found (corrected charge t.charges) e m
        ∙ ap (λ rows. charge_at rows e m) (corrected-other charge t.charges held (λ stands. differs (at_key t.charges ∙ stands))) ∙ put_found),
  )

  -- or it is that which stood: then nothing changes
  pub report_replaced-same : (row : ReportRow) (lines : List WageLine) → charge_at t.charges e m ≡ Some (charge_in charge)
      → (changed (ReplaceReport row lines charge) t).charges ≡ t.charges
  report_replaced-same row lines stood = corrected-same charge t.charges (sym (at_key t.charges) ∙ stood)

-- ---- new credits

-- a firm's credits for contributions among rows
abbrev pub contributions_in : ℕ → List CreditRow → List CreditRow
contributions_in e rows = filter (is_credit_of e Contribution) rows

-- all contributions stay, and all credits; there are new ones, for contributions and for other things
pub record AddsCredits (t v : Tables) (news : List CreditRow) : Type 0 where
  pub same : v.charges ≡ t.charges
  pub charges : (e : ℕ) → kept_charges v e ≡ kept_charges t e
  pub rows : (e : ℕ) → contribution_rows v e ≡ with_rows credit_key (contribution_rows t e) (contributions_in e news)
  pub free : AreNew credit_key t.credits news

module _ (t v : Tables) (news : List CreditRow) (charges : v.charges ≡ t.charges) (credits : v.credits ≡ with_rows credit_key t.credits news) (order : AreInOrder credit_key v.credits) where
  in_order : AreInOrder credit_key (with_rows credit_key t.credits news)
  in_order = subst (AreInOrder credit_key) credits order

  pub adds_credits : AddsCredits t v news
  adds_credits = record {
    same = charges;
    charges = λ e. ap (λ (rows : List KeptCharge). map charge_in (filter (λ row. row.employer == e) rows)) charges;
    rows = λ e. ap (contributions_in e) credits ∙ filter-with_rows credit_key (is_credit_of e Contribution) t.credits news in_order;
    free = in_order-new credit_key t.credits news in_order;
  }

module _ (t v : Tables) (news : List CreditRow) (adds : AddsCredits t v news) (e : ℕ) where
  -- without a new one the firm's rows stay
  pub no_new_credit : contributions_in e news ≡ [] → contribution_rows v e ≡ contribution_rows t e
  no_new_credit none = adds.rows e ∙ ap (with_rows credit_key (contribution_rows t e)) none

  both_there : AllByRecursion (Contains (contribution_rows v e)) (contribution_rows t e) × AllByRecursion (Contains (contribution_rows v e)) (contributions_in e news)
  both_there =
      let P : CreditRow → Type 0 = Contains (contribution_rows v e) in
      all_before_rows credit_key P (contribution_rows t e) (contributions_in e news)
      (subst (AllByRecursion P) (adds.rows e) (recursion_from_All P (contribution_rows v e) (All-contains_itself (contribution_rows v e))))

  -- each row of before is there
  pub old_credits_stay : All (Contains (contribution_rows v e)) (contribution_rows t e)
  old_credits_stay = All-from_recursion (Contains (contribution_rows v e)) (contribution_rows t e) both_there.0

  -- the credits before one before which no new one comes
  pub credits_before-stay : (first : Credit) → AllByRecursion (λ row. comes_before (row_credit row) first ≡ false) (contributions_in e news) → credits_before first (table_credits t e) ≡ credits_before first (table_credits v e)
  credits_before-stay first later =
      sooner (contribution_rows t e)
      ∙ ap (map row_credit) (sym (filter-with_rows_other credit_key (λ row. comes_before (row_credit row) first) (contribution_rows t e) (contributions_in e news) later))
      ∙ ap (λ (rows : List CreditRow). map row_credit (filter (λ row. comes_before (row_credit row) first) rows)) (sym (adds.rows e))
      ∙ sym (sooner (contribution_rows v e))
    where
      sooner : (rows : List CreditRow) → credits_before first (map row_credit rows) ≡ map row_credit (filter (λ row. comes_before (row_credit row) first) rows)
      sooner rows = filter-shown row_credit (λ row. comes_before (row_credit row) first) (λ l. comes_before l first) (λ row. refl) rows

  module _ (row : CreditRow) (new : Contains (contributions_in e news) row) where
    -- a new credit is among the firm's
    pub new_credit-there : Any (λ l. l ≡ row_credit row) (table_credits v e)
    new_credit-there =
        let P : CreditRow → Type 0 = Contains (contribution_rows v e) in
        let there = All-contains P (contributions_in e news) row (All-from_recursion P (contributions_in e news) both_there.1) new in
        let within : there.0 < length (contribution_rows v e) = there.1 in
        (there.0, row_credit row, omega (arith, length-map (contribution_rows v e) row_credit), get_or-map row_credit (contribution_rows v e) there.0 row (row_credit row) within ∙ ap row_credit there.2, refl)

    is_own : is_credit_of e Contribution row ≡ true
    is_own = All-contains (λ r. is_credit_of e Contribution r ≡ true) (contributions_in e news) row (filter_passes (is_credit_of e Contribution) news) new

    free_key : find_row credit_key t.credits (credit_key row) ≡ None
    free_key =
        let P : CreditRow → Type 0 = λ r. find_row credit_key t.credits (credit_key r) ≡ None in
        All-contains P (contributions_in e news) row (All-filter (is_credit_of e Contribution) P news (All-from_recursion P news (each_free news adds.free))) new
      where
        each_free : (rows : List CreditRow) → AreNew credit_key t.credits rows → AllByRecursion (λ r. find_row credit_key t.credits (credit_key r) ≡ None) rows
        each_free [] free = tt
        each_free (r ∷ rows) free = (free.0, each_free rows free.1)

    -- and was not before
    pub new_credit-new : ¬ Any (λ l. l ≡ row_credit row) (table_credits t e)
    new_credit-new there =
        let rows : List CreditRow = contribution_rows t e in
        let k : ℕ = there.0 in
        let within : k < length rows = omega (arith, there.2, length-map rows row_credit) in
        let old : CreditRow = get_or rows k row in
        let one : row_credit old ≡ row_credit row = sym (get_or-map row_credit rows k row there.1 within) ∙ there.3 ∙ there.4 in
        let own : is_credit_of e Contribution old ≡ true = All-get_or (λ r. is_credit_of e Contribution r ≡ true) rows k row within (filter_passes (is_credit_of e Contribution) t.credits) in
        let P : CreditRow → Type 0 = λ r. is_key (credit_key r) (credit_key row) ≡ false in
        let apart : is_key (credit_key old) (credit_key row) ≡ false =
        All-get_or P rows k row within (All-filter (is_credit_of e Contribution) P t.credits (All-from_recursion P t.credits (keys_differ credit_key t.credits (credit_key row) free_key))) in
        let left = own_credit e Contribution old own in
        let right = own_credit e Contribution row is_own in
        let key : credit_key old ≡ credit_key row = (λ i. (left.0 ∙ sym right.0) i ∷ rank_of ((left.1 ∙ sym right.1) i) ∷ (one i).day ∷ (one i).serial ∷ []) in
        cc (sym apart ∙ ap (λ l. is_key l (credit_key row)) key ∙ is_key-refl (credit_key row))

    -- so the first of the new ones is the firm's first new credit
    pub first_credit : AllByRecursion (λ r. comes_before (row_credit r) (row_credit row) ≡ false) (contributions_in e news) → FirstCredit (table_credits t e) (table_credits v e) (row_credit row)
    first_credit later = (credits_before-stay (row_credit row) later, new_credit-there, new_credit-new)
