-- How many months are begun from a day to another.
use Rattle.std.proofs.Common.{◌≡◌, ℕ, ◌+◌, ◌-◌, ◌<◌, ◌≤◌, ◌⊎◌, ⊎_elim, Bool, true, false, refl, sym, ap, ◌∙◌, subst, arith, nat_lt, List, count_by}
use Rattle.std.proofs.lemmas.Bool.{cases_order}
use Rattle.std.proofs.lemmas.Bool.Decides.{nat_tests}
use Rattle.std.specs.List.{range_with_len}
use Rattle.clear_money.specs.Calendar.{IsDay, IsMonth, day_in, month_of, day_of_month, months_after, month_steps, begun_months}
use Rattle.clear_money.specs.Rates.{IsDayOfEachMonth}
use Rattle.clear_money.proofs.CountLemmas.{count_first}
use Rattle.clear_money.proofs.MonthLemmas.{month_of-lies, month_of-day_in, day_of_month_bounds, day_of_month-day_in, day_in-is_day, day_in-place, first_day-later, first_day-mono, month_length_bounds}

steps_are : (n : ℕ) → n ≡ 2412 → month_steps ≡ range_with_len 0 n
unfolding month_steps
steps_are n e = subst (λ (k : ℕ). month_steps ≡ range_with_len 0 k) (sym e) refl

abbrev is_late : ℕ → ℕ → ℕ → Bool
is_late due t k = nat_lt (months_after due k) t

begun-count : (due t n : ℕ) → n ≡ 2412 → begun_months due t ≡ count_by (is_late due t) (range_with_len 0 n)
begun-count due t n e = ap (λ (ks : List ℕ). count_by (is_late due t) ks) (steps_are n e)

late : (due t k : ℕ) → months_after due k < t → is_late due t k ≡ true
late due t k lt = grind (arith, nat_tests)

not_late : (due t k : ℕ) → t ≤ months_after due k → is_late due t k ≡ false
not_late due t k le = grind (arith, nat_tests)

module _ (due t : ℕ) (from : IsDay due) (to : IsDay t) (place : day_of_month due ≤ 28) where
  -- the same place in an earlier month lies before the day
  earlier : (k : ℕ) → month_of due + k < month_of t → months_after due k < t
  earlier k lt =
      let low = (month_of-lies due from).low in
      let there = month_of-lies t to in
      omega (arith, there.from, day_in-place (month_of due + k) (day_of_month due) (omega arith) (day_of_month_bounds due from).0, first_day-later (month_of due + k) (month_of t) (omega arith) lt, (month_length_bounds (month_of due + k)).0)

  -- in a later one it doesn't
  later : (k : ℕ) → month_of t < month_of due + k → t ≤ months_after due k
  later k lt =
      let low = (month_of-lies due from).low in
      let there = month_of-lies t to in
      omega (arith, there.to, day_in-place (month_of due + k) (day_of_month due) (omega arith) (day_of_month_bounds due from).0, first_day-mono (month_of t + 1) (month_of due + k) (omega arith) (omega arith))

  -- in the day's own month the places tell
  same_month : (k : ℕ) → month_of due + k ≡ month_of t → months_after due k + day_of_month t ≡ t + day_of_month due
  same_month k e =
      let low = (month_of-lies due from).low in
      let there = month_of-lies t to in
      let is : day_in (month_of due + k) 1 ≡ day_in (month_of t) 1 = ap (λ m. day_in m 1) e in
      omega (arith, is, there.from, day_in-place (month_of due + k) (day_of_month due) (omega arith) (day_of_month_bounds due from).0)

  -- as many as months lie before the first that isn't late
  begun-is : (c n : ℕ) → n ≡ 2412 → c ≤ n → ((k : ℕ) → k < c → months_after due k < t) → ((k : ℕ) → c ≤ k → t ≤ months_after due k) → begun_months due t ≡ c
  begun-is c n e within before behind =
      begun-count due t n e
      ∙ count_first (is_late due t) 0 n c within (λ k low high. late due t k (before k (omega arith))) (λ k low high. not_late due t k (behind k (omega arith)))

  pub begun-none : month_of t < month_of due → begun_months due t ≡ 0
  begun-none lt = begun-is 0 2412 refl (omega arith) (λ k h. absurd (omega arith)) (λ k h. later k (omega arith))

  at_month : (k c : ℕ) → c ≡ month_of t - month_of due → c ≤ k → month_of due ≤ month_of t → day_of_month t ≤ day_of_month due → t ≤ months_after due k
  at_month k c is le low h =
      ⊎_elim
      (λ (e : month_of due + k ≡ month_of t). omega (arith, same_month k e))
      (λ (o : (month_of due + k < month_of t) ⊎ (month_of t < month_of due + k)).
      ⊎_elim (λ (lt : month_of due + k < month_of t). absurd (omega arith)) (later k) o)
      (cases_order (month_of due + k) (month_of t))

  pub begun-whole : month_of due ≤ month_of t → day_of_month t ≤ day_of_month due → begun_months due t ≡ month_of t - month_of due
  begun-whole low h =
      let high = (month_of-lies t to).high in
      let least = (month_of-lies due from).low in
      begun-is (month_of t - month_of due) 2412 refl (omega arith) (λ k lt. earlier k (omega arith)) (λ k le. at_month k (month_of t - month_of due) refl le low h)

  up_to_month : (k c : ℕ) → c ≡ month_of t - month_of due → k < c + 1 → month_of due ≤ month_of t → day_of_month due < day_of_month t → months_after due k < t
  up_to_month k c is lt low h =
      ⊎_elim
      (λ (e : month_of due + k ≡ month_of t). omega (arith, same_month k e))
      (λ (o : (month_of due + k < month_of t) ⊎ (month_of t < month_of due + k)).
      ⊎_elim (earlier k) (λ (gt : month_of t < month_of due + k). absurd (omega arith)) o)
      (cases_order (month_of due + k) (month_of t))

  pub begun-more : month_of due ≤ month_of t → day_of_month due < day_of_month t → begun_months due t ≡ month_of t - month_of due + 1
  begun-more low h =
      let high = (month_of-lies t to).high in
      let least = (month_of-lies due from).low in
      begun-is (month_of t - month_of due + 1) 2412 refl (omega arith) (λ k lt. up_to_month k (month_of t - month_of due) refl lt low h) (λ k le. later k (omega arith))

-- ---- days that each month has
record Place (m d : ℕ) : Type 0 where
  day : IsDay (day_in m d)
  month : month_of (day_in m d) ≡ m
  place : day_of_month (day_in m d) ≡ d

place_of : (m d : ℕ) → IsMonth m → IsDayOfEachMonth d → Place m d
place_of m d im id =
    let last : d ≤ 28 = id.1 in
    let length = (month_length_bounds m).0 in
    record {
      day = day_in-is_day m d im.0 (omega arith) id.0 (omega (arith, length));
      month = month_of-day_in m d im.0 (omega arith) id.0 (omega (arith, length));
      place = day_of_month-day_in m d im.0 (omega arith) id.0 (omega (arith, length));
    }

-- from a place in a month to a later one, k months on
pub begun_months-behind : (m k d e : ℕ) → IsMonth m → IsMonth (m + k) → IsDayOfEachMonth d → IsDayOfEachMonth e → d < e → begun_months (day_in m d) (day_in (m + k) e) ≡ k + 1
begun_months-behind m k d e im in_ id ie lt =
    let a = place_of m d im id in
    let b = place_of (m + k) e in_ ie in
    omega (arith, a.month, b.month, begun-more (day_in m d) (day_in (m + k) e) a.day b.day (omega (arith, a.place)) (omega (arith, a.month, b.month)) (omega (arith, a.place, b.place)))
