-- How the months from 2000-01 on follow one another, and which month and place a day has.
use Rattle.std.proofs.Common.{◌≡◌, ℕ, zero, suc, ◌+◌, ◌-◌, ◌/◌, ◌%◌, ◌<◌, ◌≤◌, ◌⊎◌, ⊎_elim, pos, negsuc, ℤ, Bool, true, false, refl, sym, ap, ◌∙◌, subst, arith, unsigned_abs, nat_le, inl, inr, List, count_by}
use Rattle.std.proofs.lemmas.Bool.{cases_order, le-leb}
use Rattle.std.proofs.lemmas.Bool.Decides.{nat_tests}
use Rattle.std.specs.List.{range_with_len}
use Rattle.jiff_core.specs.Calendar.{day_count, days_from_civil, days_in_month}
use Rattle.jiff_core.proofs.CalendarLemmas.{days_from_civil-day_count, days_in_month_bounds, day_count-next_month, day_count-next_year, day_count-last_of_year, day_count-day}
use Rattle.jiff_core.proofs.MarchLemmas.{day_count-late, day_count-early}
use Rattle.jiff_core.proofs.SignedLemmas.{signed_arith}
use borrow.Author.Differences.{up, down}
use Rattle.clear_money.specs.Calendar.{IsDay, day_in, calendar_months, month_of, day_of_month}
use Rattle.clear_money.proofs.CountLemmas.{count_first}

-- the days of a month
abbrev pub month_length : ℕ → ℕ
month_length m = days_in_month (pos (m / 12)) (m % 12 + 1)

abbrev count : ℕ → ℕ → ℕ
count m d = day_count (pos (m / 12)) (m % 12 + 1) d

-- ---- day numbers from 2000-01-01 on aren't negative

module _ (m d : ℕ) (low : 24000 ≤ m) (first : 1 ≤ d) where
  late : 3 ≤ m % 12 + 1 → 4_382_910 ≤ count m d
  late h =
      let e = day_count-late (pos (m / 12)) (m / 12 + 10000) (m % 12 + 1) d (omega (arith, signed_arith)) h (omega arith) first in
      omega arith

  early : m % 12 + 1 < 3 → 4_382_910 ≤ count m d
  early h =
      let e = day_count-early (pos (m / 12)) (m / 12 + 9999) (m % 12 + 1) d (omega (arith, signed_arith)) (omega arith) (omega arith) first in
      omega arith

  count_low : 4_382_910 ≤ count m d
  count_low = ⊎_elim (λ (h : 3 ≡ m % 12 + 1). late (omega arith)) (λ (h : (3 < m % 12 + 1) ⊎ (m % 12 + 1 < 3)). ⊎_elim (λ (k : 3 < m % 12 + 1). late (omega arith)) early h) (cases_order 3 (m % 12 + 1))

natural : (z : ℤ) (n : ℕ) → up z + 4_371_953 ≡ down z + n → 4_371_953 ≤ n → (z ≡ pos (unsigned_abs z)) × (unsigned_abs z + 4_371_953 ≡ n)
natural (pos k) n e low = (refl, omega (arith, signed_arith))
natural (negsuc k) n e low = absurd (omega (arith, signed_arith))

day_number : (m d : ℕ) → 24000 ≤ m → 1 ≤ d → (days_from_civil (pos (m / 12)) (m % 12 + 1) d ≡ pos (day_in m d)) × (day_in m d + 4_371_953 ≡ count m d)
unfolding day_in
day_number m d low first =
    natural _ _ (days_from_civil-day_count (pos (m / 12)) (m % 12 + 1) d) (omega (arith, count_low m d low first))

-- the calendar's day number of a day of a month is its number here
pub days_from_civil-day_in : (m d : ℕ) → 24000 ≤ m → 1 ≤ d → days_from_civil (pos (m / 12)) (m % 12 + 1) d ≡ pos (day_in m d)
days_from_civil-day_in m d low first = (day_number m d low first).0

-- ---- the order of months

pub month_length_bounds : (m : ℕ) → (28 ≤ month_length m) × (month_length m ≤ 31)
month_length_bounds m = let b = days_in_month_bounds (pos (m / 12)) (m % 12 + 1) in (b.1, b.0)

-- a day stands in its month at its place
pub day_in-place : (m d : ℕ) → 24000 ≤ m → 1 ≤ d → day_in m d + 1 ≡ day_in m 1 + d
day_in-place m d low first =
    omega (arith, (day_number m d low first).1, (day_number m 1 low (omega arith)).1, day_count-day (pos (m / 12)) (m % 12 + 1) d 1 first (omega arith))

-- place 0 of a month, at which no day stands, is counted as the day before its first, or as that one
count_none : (m : ℕ) → count m 1 ≤ count m 0 + 1
unfolding day_count
count_none m = omega arith

day_none : (m : ℕ) → 24000 ≤ m → day_in m 1 ≤ day_in m 0 + 1
unfolding day_in
day_none m low =
    let least = count_low m 1 low (omega arith) in
    let none = count_none m in
    omega (arith, none, (day_number m 1 low (omega arith)).1, (natural _ _ (days_from_civil-day_count (pos (m / 12)) (m % 12 + 1) 0) (omega (arith, least, none))).1)

-- no place of a month comes before the day ahead of its first
pub day_in-low : (m d : ℕ) → 24000 ≤ m → day_in m 1 ≤ day_in m d + 1
day_in-low m zero low = day_none m low
day_in-low m (suc d) low = omega (arith, day_in-place m (suc d) low (omega arith))

same_count : (y y₂ m m₂ : ℕ) → y ≡ y₂ → m ≡ m₂ → day_count (pos y) m 1 ≡ day_count (pos y₂) m₂ 1
same_count y y₂ m m₂ a b = cc

same_length : (y y₂ m m₂ : ℕ) → y ≡ y₂ → m ≡ m₂ → days_in_month (pos y) m ≡ days_in_month (pos y₂) m₂
same_length y y₂ m m₂ a b = cc

next_in_year : (m : ℕ) → m % 12 < 11 → count (m + 1) 1 ≡ count m 1 + month_length m
next_in_year m h =
    same_count ((m + 1) / 12) (m / 12) ((m + 1) % 12 + 1) (m % 12 + 1 + 1) (omega arith) (omega arith)
    ∙ day_count-next_month (pos (m / 12)) (m % 12 + 1) (omega arith)

next_year : (m : ℕ) → m % 12 ≡ 11 → count (m + 1) 1 ≡ count m 1 + month_length m
next_year m h =
    let y = m / 12 in
    let e = same_count ((m + 1) / 12) (y + 1) ((m + 1) % 12 + 1) 1 (omega arith) (omega arith) in
    let f = same_count y y (m % 12 + 1) 12 refl (omega arith) in
    let l : month_length m ≡ 31 = same_length y y (m % 12 + 1) 12 refl (omega arith) in
    let n = day_count-next_year (pos y) (pos (y + 1)) (omega (arith, signed_arith)) (omega (arith, signed_arith)) in
    omega (arith, e, f, l, n, day_count-last_of_year (pos y), day_count-day (pos y) 12 1 31 (omega arith) (omega arith))

-- the next month begins behind the last day of this one
pub first_day-next : (m : ℕ) → 24000 ≤ m → day_in (m + 1) 1 ≡ day_in m 1 + month_length m
first_day-next m low =
    let next : count (m + 1) 1 ≡ count m 1 + month_length m = ⊎_elim (λ (h : m % 12 ≡ 11). next_year m h) (λ (h : (m % 12 < 11) ⊎ (11 < m % 12)). ⊎_elim (next_in_year m) (λ (k : 11 < m % 12). absurd (omega arith)) h) (cases_order (m % 12) 11) in
    omega (arith, next, (day_number (m + 1) 1 (omega arith) (omega arith)).1, (day_number m 1 low (omega arith)).1)

later_month : (m k : ℕ) → 24000 ≤ m → day_in m 1 + month_length m ≤ day_in (m + k + 1) 1
later_month m zero low = let e : m + 0 + 1 ≡ m + 1 = omega arith in rw e (omega (arith, first_day-next m low))
later_month m (suc k) low =
    let e : m + suc k + 1 ≡ m + k + 1 + 1 = omega arith in
    rw e (omega (arith, later_month m k low, first_day-next (m + k + 1) (omega arith)))

-- a later month begins behind the last day of an earlier one
pub first_day-later : (m n : ℕ) → 24000 ≤ m → m < n → day_in m 1 + month_length m ≤ day_in n 1
first_day-later m n low lt =
    let e : m + (n - m - 1) + 1 ≡ n = omega arith in
    subst (λ (x : ℕ). day_in m 1 + month_length m ≤ day_in x 1) e (later_month m (n - m - 1) low)

pub first_day-mono : (m n : ℕ) → 24000 ≤ m → m ≤ n → day_in m 1 ≤ day_in n 1
first_day-mono m n low le =
    ⊎_elim (λ (e : m ≡ n). subst (λ (x : ℕ). day_in m 1 ≤ day_in x 1) e (omega arith)) (λ (h : (m < n) ⊎ (n < m)). ⊎_elim (λ (lt : m < n). omega (arith, first_day-later m n low lt)) (λ (gt : n < m). absurd (omega arith)) h) (cases_order m n)

-- ---- the months of days

pub first_day-2000 : day_in 24000 1 ≡ 10957
first_day-2000 =
    omega (arith, (day_number 24000 1 (omega arith) (omega arith)).1, day_count-early (pos 2000) 11999 1 1 refl (omega arith) (omega arith) (omega arith))

pub leap_day-2024 : day_in 24289 29 ≡ 19782
leap_day-2024 =
    omega (arith, (day_number 24289 29 (omega arith) (omega arith)).1, day_count-early (pos 2024) 12023 2 29 refl (omega arith) (omega arith) (omega arith))

pub first_day-2201 : day_in 26412 1 ≡ 84371
first_day-2201 =
    omega (arith, (day_number 26412 1 (omega arith) (omega arith)).1, day_count-early (pos 2201) 12200 1 1 refl (omega arith) (omega arith) (omega arith))

-- a day lies in a month
pub record LiesIn (t m : ℕ) : Type 0 where
  pub low : 24000 ≤ m
  pub high : m ≤ 26411
  pub from : day_in m 1 ≤ t
  pub to : t < day_in (m + 1) 1

found_in : (t n : ℕ) → n ≤ 2412 → 10957 ≤ t → t < day_in (24000 + n) 1 → (m : ℕ) × LiesIn t m
found_in t zero within low high = absurd (omega (arith, first_day-2000))
found_in t (suc n) within low high =
    ⊎_elim
    (λ (lt : t < day_in (24000 + n) 1). found_in t n (omega arith) low lt)
    (λ (le : day_in (24000 + n) 1 ≤ t). (24000 + n, record { low = omega arith; high = omega arith; from = le; to = subst (λ (k : ℕ). t < day_in k 1) next high }))
    (split t (day_in (24000 + n) 1))
  where
    next : 24000 + suc n ≡ 24000 + n + 1
    next = omega arith

    split : (a b : ℕ) → (a < b) ⊎ (b ≤ a)
    split a b = ⊎_elim (λ (e : a ≡ b). inr (omega arith)) (λ (h : (a < b) ⊎ (b < a)). ⊎_elim (λ (lt : a < b). inl lt) (λ (gt : b < a). inr (omega arith)) h) (cases_order a b)

lies_in_one : (t : ℕ) → IsDay t → (m : ℕ) × LiesIn t m
lies_in_one t h = found_in t 2412 (omega arith) h.0 (omega (arith, first_day-2201))

months_are : (n : ℕ) → n ≡ 2412 → calendar_months ≡ range_with_len 24000 n
unfolding calendar_months
months_are n e = subst (λ (k : ℕ). calendar_months ≡ range_with_len 24000 k) (sym e) refl

abbrev has_begun : ℕ → ℕ → Bool
has_begun t m = nat_le (day_in m 1) t

month_of-count : (t n : ℕ) → n ≡ 2412 → month_of t ≡ 23999 + count_by (has_begun t) (range_with_len 24000 n)
unfolding month_of
month_of-count t n e = ap (λ (ms : List ℕ). 23999 + count_by (has_begun t) ms) (months_are n e)

begins : (t k : ℕ) → day_in k 1 ≤ t → has_begun t k ≡ true
begins t k le = le-leb _ _ le

begins_not : (t k : ℕ) → t < day_in k 1 → has_begun t k ≡ false
begins_not t k lt = grind (arith, nat_tests)

month_among : (t m n : ℕ) → n ≡ 2412 → LiesIn t m → month_of t ≡ m
month_among t m n e h =
    let low = h.low in
    let high = h.high in
    let c : count_by (has_begun t) (range_with_len 24000 n) ≡ m - 23999 = count_first (has_begun t) 24000 n (m - 23999) (omega arith)
    (λ k from to. begins t k (omega (arith, first_day-mono k m from (omega arith), h.from)))
    (λ k from to. begins_not t k (omega (arith, first_day-mono (m + 1) k (omega arith) (omega arith), h.to))) in
    omega (arith, month_of-count t n e, c)

-- the month of a day is the one that it lies in
pub month_of-lies_in : (t m : ℕ) → LiesIn t m → month_of t ≡ m
month_of-lies_in t m h = month_among t m 2412 refl h

pub month_of-lies : (t : ℕ) → IsDay t → LiesIn t (month_of t)
month_of-lies t h =
    let m = lies_in_one t h in
    subst (LiesIn t) (sym (month_of-lies_in t m.0 m.1)) m.1

-- a day of a month has that month, and its place there
pub day_in-lies : (m d : ℕ) → 24000 ≤ m → m ≤ 26411 → 1 ≤ d → d ≤ month_length m → LiesIn (day_in m d) m
day_in-lies m d low high first last =
    record { low = low; high = high; from = omega (arith, day_in-place m d low first); to = omega (arith, day_in-place m d low first, first_day-next m low) }

pub month_of-day_in : (m d : ℕ) → 24000 ≤ m → m ≤ 26411 → 1 ≤ d → d ≤ month_length m → month_of (day_in m d) ≡ m
month_of-day_in m d low high first last = month_of-lies_in (day_in m d) m (day_in-lies m d low high first last)

pub day_of_month-day_in : (m d : ℕ) → 24000 ≤ m → m ≤ 26411 → 1 ≤ d → d ≤ month_length m → day_of_month (day_in m d) ≡ d
day_of_month-day_in m d low high first last =
    let e : day_in (month_of (day_in m d)) 1 ≡ day_in m 1 = ap (λ n. day_in n 1) (month_of-day_in m d low high first last) in
    omega (arith, e, day_in-place m d low first)

-- a day of a month lies in the calendar
pub day_in-is_day : (m d : ℕ) → 24000 ≤ m → m ≤ 26411 → 1 ≤ d → d ≤ month_length m → IsDay (day_in m d)
day_in-is_day m d low high first last =
    let lies = day_in-lies m d low high first last in
    (omega (arith, first_day-2000, first_day-mono 24000 m (omega arith) low, lies.from), omega (arith, first_day-2201, first_day-mono (m + 1) 26412 (omega arith) (omega arith), lies.to))

-- the place of a day in its month, and the day back from both
pub day_of_month_bounds : (t : ℕ) → IsDay t → (1 ≤ day_of_month t) × (day_of_month t ≤ month_length (month_of t))
day_of_month_bounds t h =
    let lies = month_of-lies t h in
    (omega (arith, lies.from), omega (arith, lies.from, lies.to, first_day-next (month_of t) lies.low))

pub day_in-parts : (t : ℕ) → IsDay t → day_in (month_of t) (day_of_month t) ≡ t
day_in-parts t h =
    let lies = month_of-lies t h in
    let place = day_of_month_bounds t h in
    omega (arith, lies.from, day_in-place (month_of t) (day_of_month t) lies.low place.0)
