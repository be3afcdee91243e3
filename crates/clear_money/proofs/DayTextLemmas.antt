-- The text of a day spells just that day.
use Rattle.std.proofs.Common.{◌≡◌, ℕ, ◌+◌, ◌*◌, ◌-◌, ◌/◌, ◌%◌, ◌<◌, ◌≤◌, List, pos, sym, ◌∙◌, subst, arith}
use Rattle.std.specs.Prelude.{IfSome, IfNone, IsSome, Option, Some, None, ◌↔◌, ◌≢◌}
use Rattle.jiff_core.specs.Calendar.{IsCivilDate}
use Rattle.clear_money.specs.Calendar.{IsDay, day_in, month_of, day_of_month}
use Rattle.clear_money.specs.Texts.{date_text, day_text}
use Rattle.clear_money.proofs.DateLemmas.{IsDated, civil-dated, dated-civil}
use Rattle.clear_money.proofs.MonthLemmas.{month_length_bounds, day_in-parts, day_of_month_bounds}

-- no text that spells no date spells a day
pub unspelled : (bytes : List ℕ) → ((y m d : ℕ) → y < 10000 → m < 100 → d < 100 → bytes ≢ date_text y m d) → (t : ℕ) → IsDay t → bytes ≢ day_text t
unspelled bytes none t h is =
    let civil = dated-civil t h in
    let place = day_of_month_bounds t h in
    none (month_of t / 12) (month_of t % 12 + 1) (day_of_month t) (omega (arith, civil.1)) (omega arith) (omega (arith, place.1, (month_length_bounds (month_of t)).1)) is

-- the day of a civil date is spelled by its parts
pub spelled : (bytes : List ℕ) (y m d : ℕ) (o : Option ℕ) → bytes ≡ date_text y m d → IfSome o (λ t. (t ≡ day_in (12 * y + (m - 1)) d) × (2000 ≤ y) × (y ≤ 2200) × IsCivilDate (pos y) m d) → IfSome o (λ t. IsDay t × (bytes ≡ day_text t))
spelled bytes y m d None text h = tt
spelled bytes y m d (Some t) text h =
    let dated = subst (λ (k : ℕ). IsDated k y m d) (sym h.0) (civil-dated y m d h.1 h.2 h.3) in
    (dated.is_day, text ∙ (λ i. date_text (sym dated.year_is i) (sym dated.month_is i) (sym dated.day_is i)))

-- of two dates of four, two and two digits that are spelled alike
pub record SameDate (y m d y₂ m₂ d₂ : ℕ) : Type 0 where
  pub year : y ≡ y₂
  pub month : m ≡ m₂
  pub day : d ≡ d₂

pub date_text-injective : (y m d y₂ m₂ d₂ : ℕ) → y < 10000 → m < 100 → d < 100 → y₂ < 10000 → m₂ < 100 → d₂ < 100 → date_text y m d ≡ date_text y₂ m₂ d₂ → SameDate y m d y₂ m₂ d₂
date_text-injective y m d y₂ m₂ d₂ a b c a₂ b₂ c₂ e =
    let y3 : 48 + y / 1000 ≡ 48 + y₂ / 1000 = cc in
    let y2 : 48 + y / 100 % 10 ≡ 48 + y₂ / 100 % 10 = cc in
    let y1 : 48 + y / 10 % 10 ≡ 48 + y₂ / 10 % 10 = cc in
    let y0 : 48 + y % 10 ≡ 48 + y₂ % 10 = cc in
    let m1 : 48 + m / 10 ≡ 48 + m₂ / 10 = cc in
    let m0 : 48 + m % 10 ≡ 48 + m₂ % 10 = cc in
    let d1 : 48 + d / 10 ≡ 48 + d₂ / 10 = cc in
    let d0 : 48 + d % 10 ≡ 48 + d₂ % 10 = cc in
    record { year = omega arith; month = omega arith; day = omega arith }

same_civil : (y m d y₂ m₂ d₂ : ℕ) → SameDate y m d y₂ m₂ d₂ → (2000 ≤ y₂) × (y₂ ≤ 2200) × IsCivilDate (pos y₂) m₂ d₂ → (2000 ≤ y) × (y ≤ 2200) × IsCivilDate (pos y) m d
same_civil y m d y₂ m₂ d₂ same h =
    subst (λ (p : ℕ × ℕ × ℕ). (2000 ≤ p.0) × (p.0 ≤ 2200) × IsCivilDate (pos p.0) p.1 p.2) (λ i. (sym same.year i, sym same.month i, sym same.day i)) h

-- where the parts are no civil date, their text spells no day
pub uncivil : (bytes : List ℕ) (y m d : ℕ) (o : Option ℕ) → bytes ≡ date_text y m d → y < 10000 → m < 100 → d < 100 → (IsSome o ↔ ((2000 ≤ y) × (y ≤ 2200) × IsCivilDate (pos y) m d)) → IfNone o ((t : ℕ) → IsDay t → bytes ≢ day_text t)
uncivil bytes y m d (Some t) text a b c some = tt
uncivil bytes y m d None text a b c some = λ t h is.
    let civil = dated-civil t h in
    let place = day_of_month_bounds t h in
    let same = date_text-injective y m d (month_of t / 12) (month_of t % 12 + 1) (day_of_month t) a b c (omega (arith, civil.1)) (omega arith) (omega (arith, place.1, (month_length_bounds (month_of t)).1)) (sym text ∙ is) in
    absurd (cc (some.1 (same_civil y m d _ _ _ same civil)))

-- days that are spelled alike are one
pub day_text-injective : (t u : ℕ) → IsDay t → IsDay u → day_text t ≡ day_text u → t ≡ u
day_text-injective t u h k e =
    let civil = dated-civil t h in
    let other = dated-civil u k in
    let place = day_of_month_bounds t h in
    let other_place = day_of_month_bounds u k in
    let same = date_text-injective (month_of t / 12) (month_of t % 12 + 1) (day_of_month t) (month_of u / 12) (month_of u % 12 + 1) (day_of_month u) (omega (arith, civil.1)) (omega arith) (omega (arith, place.1, (month_length_bounds (month_of t)).1)) (omega (arith, other.1)) (omega arith) (omega (arith, other_place.1, (month_length_bounds (month_of u)).1)) e in
    let month : month_of t ≡ month_of u = omega (arith, same.year, same.month) in
    sym (day_in-parts t h) ∙ (λ i. day_in (month i) (same.day i)) ∙ day_in-parts u k
