-- The calendar's date of a day number.
use Rattle.std.proofs.Common.{◌≡◌, ℕ, ◌+◌, ◌*◌, ◌-◌, ◌/◌, ◌%◌, ◌≤◌, ℤ, pos, sym, ap, ◌∙◌, w16, w32, to_z, of_z, FitsSigned, unsigned_abs, arith}
use Rattle.std.proofs.lemmas.Int.{ints, to_z-of_z}
use Rattle.jiff_core.specs.declared.civil.date.Date.{Date}
use Rattle.jiff_core.specs.Calendar.{days_from_civil, days_in_month, IsCivilDate}
use Rattle.jiff_core.specs.Date.{epoch_day}
use Rattle.jiff_core.proofs.DateLemmas.{epoch_day_injective}
use Rattle.jiff_core.proofs.SignedLemmas.{signed_arith}
use Rattle.clear_money.specs.Calendar.{IsDay, day_in, month_of, day_of_month}
use Rattle.clear_money.proofs.MonthLemmas.{month_length, days_from_civil-day_in, day_in-parts, day_of_month_bounds, month_of-lies, month_of-day_in, day_of_month-day_in, day_in-is_day}

-- the date of these parts
abbrev date_of : (t : ℕ) → IsDay t → Date
date_of t h =
    let lies = month_of-lies t h in
    let place = day_of_month_bounds t h in
    record { year = pos (month_of t / 12); month = month_of t % 12 + 1; day = day_of_month t; year_in = omega (arith, signed_arith, lies.low, lies.high); month_in = (omega arith, omega arith); day_in = place }

pub date-parts : (t : ℕ) (d : Date) → IsDay t → epoch_day d ≡ pos t → (d.year ≡ pos (month_of t / 12)) × (d.month ≡ month_of t % 12 + 1) × (d.day ≡ day_of_month t)
date-parts t d h e =
    let lies = month_of-lies t h in
    let place = day_of_month_bounds t h in
    epoch_day_injective d (date_of t h) (e ∙ ap pos (sym (day_in-parts t h)) ∙ sym (days_from_civil-day_in (month_of t) (day_of_month t) lies.low place.0))

-- the parts of a civil date from 2000 to 2200 are those of its day
pub record IsDated (t year month day : ℕ) : Type 0 where
  pub is_day : IsDay t
  pub number : t ≡ day_in (12 * year + (month - 1)) day
  pub year_is : month_of t / 12 ≡ year
  pub month_is : month_of t % 12 + 1 ≡ month
  pub day_is : day_of_month t ≡ day

same_days : (y y₂ m m₂ : ℕ) → y ≡ y₂ → m ≡ m₂ → days_in_month (pos y) m ≡ days_in_month (pos y₂) m₂
same_days y y₂ m m₂ a b = cc

pub civil-dated : (year month day : ℕ) → 2000 ≤ year → year ≤ 2200 → IsCivilDate (pos year) month day → IsDated (day_in (12 * year + (month - 1)) day) year month day
civil-dated year month day low high civil =
    let m = 12 * year + (month - 1) in
    let y_is : m / 12 ≡ year = omega (arith, civil.1.0, civil.1.1) in
    let m_is : m % 12 + 1 ≡ month = omega (arith, civil.1.0, civil.1.1) in
    let last : day ≤ month_length m = omega (arith, civil.2.1, same_days (m / 12) year (m % 12 + 1) month y_is m_is) in
    let from : 24000 ≤ m = omega arith in
    let to : m ≤ 26411 = omega (arith, civil.1.1) in
    let is : month_of (day_in m day) ≡ m = month_of-day_in m day from to civil.2.0 last in
    record {
      is_day = day_in-is_day m day from to civil.2.0 last;
      number = λ i. day_in m day;
      year_is = ap (λ n. n / 12) is ∙ y_is;
      month_is = ap (λ n. n % 12 + 1) is ∙ m_is;
      day_is = day_of_month-day_in m day from to civil.2.0 last;
    }

-- the day number that jiff gives of a date of these parts
pub civil-number : (year month day : ℕ) → 2000 ≤ year → year ≤ 2200 → IsCivilDate (pos year) month day → days_from_civil (pos year) month day ≡ pos (day_in (12 * year + (month - 1)) day)
civil-number year month day low high civil =
    let m = 12 * year + (month - 1) in
    let y_is : m / 12 ≡ year = omega (arith, civil.1.0, civil.1.1) in
    let m_is : m % 12 + 1 ≡ month = omega (arith, civil.1.0, civil.1.1) in
    same year (m / 12) month (m % 12 + 1) (sym y_is) (sym m_is) ∙ days_from_civil-day_in m day (omega arith) civil.2.0
  where
    same : (y y₂ n n₂ : ℕ) → y ≡ y₂ → n ≡ n₂ → days_from_civil (pos y) n day ≡ days_from_civil (pos y₂) n₂ day
    same y y₂ n n₂ a b = cc

-- and of a day the calendar has the date
pub dated-civil : (t : ℕ) → IsDay t → (2000 ≤ month_of t / 12) × (month_of t / 12 ≤ 2200) × IsCivilDate (pos (month_of t / 12)) (month_of t % 12 + 1) (day_of_month t)
dated-civil t h =
    let lies = month_of-lies t h in
    let d = date_of t h in
    (omega (arith, lies.low), omega (arith, lies.high), (d.year_in, d.month_in, d.day_in))

-- the year of a day as a number of 16 bits with a sign
pub cast_year : (t : ℕ) (year : ℤ) → IsDay t → year ≡ pos (month_of t / 12) → to_z w16 (of_z w16 year) ≡ pos (month_of t / 12)
cast_year t year h is =
    let high = (month_of-lies t h).high in
    let fits : FitsSigned w16 year = omega (arith, ints, is, high) in
    to_z-of_z w16 year fits ∙ is

pub year_number : (t : ℕ) (year : ℤ) → IsDay t → year ≡ pos (month_of t / 12) → unsigned_abs (to_z w16 (of_z w16 year)) ≡ month_of t / 12
year_number t year h is = ap unsigned_abs (cast_year t year h is)

-- jiff's day number of a date of these parts, cast to a number of 32 bits
pub cast_day : (z : ℤ) (m d : ℕ) → IsDay (day_in m d) → z ≡ pos (day_in m d) → to_z w32 (of_z w32 z) ≡ pos (day_in m d)
cast_day z m d h is =
    let fits : FitsSigned w32 z = omega (arith, ints, is) in
    to_z-of_z w32 z fits ∙ is
