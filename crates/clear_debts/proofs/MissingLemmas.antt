-- The months without a contribution are those without a report.
use Rattle.std.proofs.Common.{◌≡◌, ℕ, ◌+◌, ◌<◌, List, [], ◌∷◌, filter, get_or, length, Option, Some, None, Bool, true, false, cond, ◌&&◌, ◌==◌, not, is_some, is_none, refl, sym, ap, ◌∙◌, arith}
use Rattle.std.proofs.lemmas.List.FromFn.{get_or-map-range_with_len, length-map-range_with_len}
use Rattle.std.specs.List.{AllByRecursion, AllPairs, find}
use Rattle.std.specs.Option.{option_map}
use Rattle.sqlite_trees.proofs.ListLemmas.{filter_same}
use Rattle.clear_account.specs.declared.entries.Charge.{Charge}
use Rattle.clear_account.specs.declared.entries.Credit.{Credit}
use Rattle.clear_account.specs.Account.{charge_at}
use Rattle.clear_kept.specs.declared.rows.WeighedCharge.{WeighedCharge}
use Rattle.clear_kept.specs.Weighed.{weighed_charge, weighed_charges}
use Rattle.clear_kept.proofs.WeighedLemmas.{row_between, rows_walk, weighed_charges-walk}
use Rattle.clear_money.specs.Rates.{Rate}
use Rattle.clear_laws.proofs.ListLemmas.{each}
use Rattle.clear_book.specs.declared.texts.WageLine.{WageLine}
use Rattle.clear_book.specs.Accounts.{base_of, book_charge, charges_of, credits_of, is_missing, is_overdue, missing, month_charge, months, reported_charge}
use Rattle.clear_book.specs.Book.{Book, is_member_month, latest_lines, member_of, rates_of, reported_version, version_of}
use Rattle.clear_book.specs.Tables.{member_in}
use Rattle.clear_book.specs.declared.rows.EmployerRow.{EmployerRow}
use Rattle.clear_laws.proofs.DistinctLemmas.{itself, same_worker}
use Rattle.clear_records.specs.Records.{ChargesRise, has_charge}
use Rattle.clear_records.specs.Told.{is_missing_in}
use Rattle.clear_debts.proofs.FoundLemmas.{each_found}

-- there is a row of a month where there is a contribution
row_of_month : (s : ℕ) (cs : List Charge) (ks : List Credit) (m : ℕ) → has_charge (rows_walk s cs ks) m ≡ is_some (find (λ (c : Charge). c.month == m) cs)
row_of_month s [] ks m = refl
row_of_month s (c ∷ cs) ks m = told (c.month == m) (row_of_month (s + c.cents) cs ks m)
  where
    told : (v : Bool) → has_charge (rows_walk (s + c.cents) cs ks) m ≡ is_some (find (λ (d : Charge). d.month == m) cs)
        → is_some (cond v (Some (row_between s (s + c.cents) c ks)) (find (λ (row : WeighedCharge). row.month == m) (rows_walk (s + c.cents) cs ks))) ≡ is_some (cond v (Some c) (find (λ (d : Charge). d.month == m) cs))
    told true rest = refl
    told false rest = rest

-- the rows of charges whose months rise do so, too
pub rows_rise : (cs : List Charge) (ks : List Credit) → AllPairs (λ c d. c.month < d.month) cs → ChargesRise (weighed_charges cs ks)
rows_rise cs ks rise i j d less within =
    let within_charges : j < length cs = omega (arith, within, length-map-range_with_len (weighed_charge cs ks) 0 (length cs)) in
    let one : (get_or (weighed_charges cs ks) i d).month ≡ (charge_at cs i).month = ap (λ (w : WeighedCharge). w.month) (get_or-map-range_with_len (weighed_charge cs ks) 0 (length cs) i i d (omega arith) (omega arith)) in
    let two : (get_or (weighed_charges cs ks) j d).month ≡ (charge_at cs j).month = ap (λ (w : WeighedCharge). w.month) (get_or-map-range_with_len (weighed_charge cs ks) 0 (length cs) j j d within_charges (omega arith)) in
    omega (arith, one, two, rise i j (record { month = 0; due = 0; cents = 0 }) less within_charges)

module _ (b : Book) (e : ℕ) where
  of_month : (k q : ℕ) (c : Charge) → book_charge b e k ≡ Some c → (c.month == q) ≡ (k == q)
  of_month k q c is = told (latest_lines b.entries e k) is
    where
      told : (o : Option (List WageLine)) → reported_charge b k o ≡ Some c → (c.month == q) ≡ (k == q)
      told None made = absurd (cc made)
      told (Some lines) made =
          let same : month_charge (rates_of b) k (base_of lines) ≡ c = cc made in
          sym (ap (λ (d : Charge). d.month == q) same)

  -- the contribution of a month
  each_month : AllByRecursion (λ m. find (λ (c : Charge). c.month == m) (charges_of b e) ≡ book_charge b e m) months
  each_month = each_found (λ m. m) (book_charge b e) (λ m (c : Charge). c.month == m) (λ k q. k == q) of_month same_worker itself months

  none_reported : (m : ℕ) → not (is_some (book_charge b e m)) ≡ is_none (reported_version b.entries e m)
  none_reported m = told (latest_lines b.entries e m)
    where
      told : (o : Option (List WageLine)) → not (is_some (reported_charge b m o)) ≡ is_none (option_map (λ (lines : List WageLine). version_of b.entries e m) o)
      told None = refl
      told (Some lines) = refl

  pub missing_of_book : (member : EmployerRow) (rates : List Rate) (charges : List WeighedCharge) → member_of b.entries e ≡ Some (member_in member) → rates ≡ rates_of b → charges ≡ weighed_charges (charges_of b e) (credits_of b e)
      → (day : ℕ) → filter (is_missing_in member rates charges day) months ≡ missing b e day
  missing_of_book member rates charges registered rated are day =
      (λ i. filter (λ m. is_member_month (sym registered i) m && is_overdue (rated i) day m && not (has_charge ((are ∙ weighed_charges-walk (charges_of b e) (credits_of b e)) i) m)) months)
      ∙ filter_same (λ m. is_member_month (member_of b.entries e) m && is_overdue (rates_of b) day m && not (has_charge (rows_walk 0 (charges_of b e) (credits_of b e)) m)) (is_missing b e day) months
      (each (λ m. find (λ (c : Charge). c.month == m) (charges_of b e) ≡ book_charge b e m) (λ m. (is_member_month (member_of b.entries e) m && is_overdue (rates_of b) day m && not (has_charge (rows_walk 0 (charges_of b e) (credits_of b e)) m)) ≡ is_missing b e day m)
      (λ m found. (λ i. is_member_month (member_of b.entries e) m && is_overdue (rates_of b) day m && (ap not (row_of_month 0 (charges_of b e) (credits_of b e) m ∙ ap is_some found) ∙ none_reported m) i)) months each_month)
