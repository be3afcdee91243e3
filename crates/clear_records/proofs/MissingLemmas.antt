-- The months in which no report of a firm can be missing on a day.
use Rattle.std.proofs.Common.{◌≡◌, ℕ, ◌+◌, ◌≤◌, ◌<◌, nat_le, List, Option, Some, None, Bool, true, false, ◌&&◌, not, min, ⊎_elim, refl, ap, arith}
use Rattle.std.proofs.lemmas.Bool.{cases_lt}
use Rattle.std.proofs.lemmas.Bool.Decides.{nat_tests}
use Rattle.std.specs.Option.{option_map_or}
use Rattle.clear_money.specs.Calendar.{IsDay, month_of}
use Rattle.clear_money.specs.Rates.{Rate, rate_in_force, report_day_of}
use Rattle.clear_money.proofs.MonthLemmas.{day_in-low, first_day-mono, month_of-lies}
use Rattle.clear_kept.specs.declared.rows.WeighedCharge.{WeighedCharge}
use Rattle.clear_book.specs.declared.rows.EmployerRow.{EmployerRow}
use Rattle.clear_book.specs.Accounts.{is_overdue}
use Rattle.clear_book.specs.Book.{is_member_in}
use Rattle.clear_book.specs.Tables.{member_in}
use Rattle.clear_laws.proofs.MissingLemmas.{overdue-due, overdue-unrated}
use Rattle.clear_records.specs.Found.{has_charge}
use Rattle.clear_records.specs.Told.{is_missing_in}

-- the report of a day's own month, or of a later one, is due on no earlier day
reported_later : (t m : ℕ) (r : Rate) → IsDay t → month_of t ≤ m → t ≤ report_day_of m r
reported_later t m r day le =
    let lies = month_of-lies t day in
    omega (arith, lies.to, first_day-mono (month_of t + 1) (m + 1) (omega (arith, lies.low)) (omega arith), day_in-low (m + 1) r.report_day (omega (arith, lies.low)))

-- so it isn't overdue
overdue-later : (rates : List Rate) (t m : ℕ) → IsDay t → month_of t ≤ m → is_overdue rates t m ≡ false
overdue-later rates t m day le = told (rate_in_force rates m) refl
  where
    told : (o : Option Rate) → rate_in_force rates m ≡ o → is_overdue rates t m ≡ false
    told None there = overdue-unrated rates m t there
    told (Some r) there = overdue-due rates m t r there (reported_later t m r day le)

and_none : (a b : Bool) → b ≡ false → a && b ≡ false
and_none true b is = is
and_none false b is = refl

not_upto : (a b : ℕ) → b < a → nat_le a b ≡ false
not_upto a b lt = grind (arith, nat_tests)

module _ (member : EmployerRow) (rates : List Rate) (charges : List WeighedCharge) (day m : ℕ) where
  no_member : is_member_in (member_in member) m ≡ false → is_missing_in member rates charges day m ≡ false
  no_member fails = ap (λ (c : Bool). c && is_overdue rates day m && not (has_charge charges m)) fails

  not_overdue : is_overdue rates day m ≡ false → is_missing_in member rates charges day m ≡ false
  not_overdue fails =
      ap (λ (c : Bool). c && not (has_charge charges m)) (and_none (is_member_in (member_in member) m) (is_overdue rates day m) fails)

  -- none is before the first member month
  pub missing-before : m < member.start → is_missing_in member rates charges day m ≡ false
  missing-before lt =
      no_member (ap (λ (b : Bool). b && option_map_or (λ last. nat_le m last) member.last true) (not_upto member.start m lt))

  -- none is the day's month or a later one, and none is behind the last member month
  pub missing-behind : (end : ℕ) → IsDay day → end ≡ min (month_of day) (option_map_or (λ last. last + 1) member.last 26400) → end ≤ m → m ≤ 26399 → is_missing_in member rates charges day m ≡ false
  missing-behind end is_day is low high =
      ⊎_elim (λ (lt : m < month_of day). left lt) (λ (le : month_of day ≤ m). not_overdue (overdue-later rates day m is_day le)) (cases_lt m (month_of day))
    where
      ended : (o : Option ℕ) → option_map_or (λ last. last + 1) o 26400 ≤ m → option_map_or (λ last. nat_le m last) o true ≡ false
      ended None le = absurd (omega (arith, le, high))
      ended (Some last) le = not_upto m last (omega (arith, le))

      left : m < month_of day → is_missing_in member rates charges day m ≡ false
      left lt =
          no_member (and_none (nat_le member.start m) (option_map_or (λ last. nat_le m last) member.last true) (ended member.last (omega (arith, is, low, lt))))
