-- The days on which the contributions of a firm are due rise with their months.
use Rattle.std.proofs.Common.{◌≡◌, ℕ, ◌+◌, ◌<◌, ◌≤◌, List, filter, get_or, Option, Some, None, Bool, true, is_some, ◌==◌, refl, sym, ap, ◌∙◌, arith}
use Rattle.std.proofs.lemmas.List.Elements.{All-filter, All-from_recursion, All-map}
use Rattle.std.specs.List.{All, AllByRecursion, AllPairs}
use Rattle.clear_money.specs.Calendar.{IsMonth, day_in}
use Rattle.clear_money.specs.Rates.{IsDayOfEachMonth, Rate, rate_in_force}
use Rattle.clear_money.proofs.MonthLemmas.{day_in-place, first_day-later, month_length_bounds}
use Rattle.clear_account.specs.declared.entries.Charge.{Charge}
use Rattle.clear_values.specs.declared.rows.KeptCharge.{KeptCharge}
use Rattle.clear_values.specs.declared.texts.WageLine.{WageLine}
use Rattle.clear_values.specs.RowRanges.{IsKeptCharge}
use Rattle.clear_values.proofs.KeyedChangesLemmas.{all_from_found, found_holds}
use Rattle.clear_book.specs.Accounts.{base_of, book_charge, due_by, month_charge, reported_charge}
use Rattle.clear_book.specs.Allocated.{kept_charges}
use Rattle.clear_book.specs.Book.{Book, latest_lines, rates_of}
use Rattle.clear_book.specs.Machine.{IsLawful}
use Rattle.clear_book.specs.Tables.{Tables, Stands, charge_in, charge_key}
use Rattle.clear_laws.proofs.KeptChargesLemmas.{charge_of_row}
use Rattle.clear_laws.proofs.LimitsLemmas.{lawful_rates, rate_right}
use Rattle.clear_laws.proofs.RatesLemmas.{lawful_rated}
use Rattle.clear_laws.proofs.RowRangeLemmas.{rows_in_range}
use Rattle.clear_laws.proofs.TableAccountLemmas.{account_of_tables}

-- a day of a later month comes later, whichever of the days that each month has
due_later : (m n d k : ℕ) → 24000 ≤ m → m < n → IsDayOfEachMonth d → IsDayOfEachMonth k → day_in (m + 1) d ≤ day_in (n + 1) k
due_later m n d k first later day other =
    let low = day.0 in
    let high = day.1 in
    let other_low = other.0 in
    let one : day_in (m + 1) d + 1 ≡ day_in (m + 1) 1 + d = day_in-place (m + 1) d (omega arith) low in
    let two : day_in (n + 1) k + 1 ≡ day_in (n + 1) 1 + k = day_in-place (n + 1) k (omega arith) other_low in
    let length = month_length_bounds (m + 1) in
    omega (arith, one, two, low, high, other_low, length.0, first_day-later (m + 1) (n + 1) (omega arith) (omega arith))

-- a contribution is due on a day of the month behind its own
record IsDueBehind (c : Charge) : Type 0 where
  day : ℕ
  place : IsDayOfEachMonth day
  due : c.due ≡ day_in (c.month + 1) day
  month : IsMonth c.month

module _ (b : Book) (lawful : IsLawful b) where
  reported_due : (row : KeptCharge) → IsMonth row.month → book_charge b row.employer row.month ≡ Some (charge_in row) → IsDueBehind (charge_in row)
  reported_due row month is = told (latest_lines b.entries row.employer row.month) refl is
    where
      rated : (lines : List WageLine) → month_charge (rates_of b) row.month (base_of lines) ≡ charge_in row → (o : Option Rate) → rate_in_force (rates_of b) row.month ≡ o → is_some o ≡ true → IsDueBehind (charge_in row)
      rated lines same None there some = absurd (cc some)
      rated lines same (Some r) there some = record {
        day = r.due_day;
        place = (rate_right (rates_of b) row.month r (lawful_rates b.opening b.entries lawful).ranges there).due_day;
        due = sym (ap (λ (c : Charge). c.due) same) ∙ ap (λ (o : Option Rate). due_by o row.month) there;
        month = month;
      }

      told : (o : Option (List WageLine)) → latest_lines b.entries row.employer row.month ≡ o → reported_charge b row.month o ≡ Some (charge_in row) → IsDueBehind (charge_in row)
      told None reported k = absurd (cc k)
      told (Some lines) reported k =
          let same : month_charge (rates_of b) row.month (base_of lines) ≡ charge_in row = cc in
          rated lines same (rate_in_force (rates_of b) row.month) refl (lawful_rated b.opening b.entries lawful row.employer row.month lines reported)

  module _ (t : Tables) (stands : Stands b t) where
    each_due : AllByRecursion (λ row. IsDueBehind (charge_in row)) t.charges
    each_due =
        all_from_found charge_key (λ row. IsDueBehind (charge_in row)) t.charges stands.charges_in_order
        (λ row found.
        let right : IsKeptCharge row = found_holds charge_key IsKeptCharge t.charges (charge_key row) row (rows_in_range b t lawful stands).charges found in
        reported_due row right.month (charge_of_row b t stands row.employer row.month row found))

    pub dues_rise : (e : ℕ) → AllPairs (λ c d. c.due ≤ d.due) (kept_charges t e)
    dues_rise e i j d less within =
        let of_firm : KeptCharge → Bool = λ (row : KeptCharge). row.employer == e in
        let all : All IsDueBehind (kept_charges t e) = All-map IsDueBehind charge_in (filter of_firm t.charges) (All-filter of_firm (λ row. IsDueBehind (charge_in row)) t.charges (All-from_recursion (λ row. IsDueBehind (charge_in row)) t.charges each_due)) in
        let one : IsDueBehind (get_or (kept_charges t e) i d) = all i d (omega arith) in
        let two : IsDueBehind (get_or (kept_charges t e) j d) = all j d within in
        let rise : (get_or (kept_charges t e) i d).month < (get_or (kept_charges t e) j d).month = (account_of_tables b t lawful stands e).months_rise i j d less within in
        let first = one.month.0 in
        omega (arith, one.due, two.due, due_later (get_or (kept_charges t e) i d).month (get_or (kept_charges t e) j d).month one.day two.day first rise one.place two.place)
