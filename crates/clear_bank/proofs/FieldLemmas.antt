-- What a written value is found to be.
use Rattle.std.proofs.Common.{◌≡◌, ℕ, zero, suc, ◌+◌, ◌-◌, ◌/◌, ◌%◌, ◌<◌, ◌≤◌, ◌^◌, ◌≢◌, false, cond, List, Option, Some, None, refl, sym, ap, ◌∙◌, arith, inl, inr}
use Rattle.std.proofs.lemmas.Bool.{cases_Bool, false_from_ne_true}
use Rattle.std.proofs.lemmas.Fmt.{decimal_injective}
use Rattle.std.proofs.lemmas.Slice.Eq.{bytes_eq-Decides}
use Rattle.std.specs.Fmt.{decimal}
use Rattle.std.specs.List.{find, range_with_len}
use Rattle.std.specs.Prelude.{IsSome, IfSome, IfNone, ◌↔◌}
use Rattle.std.specs.Str.{bytes_eq}
use Rattle.clear_money.specs.Calendar.{IsDay, month_of, day_of_month, day_in}
use Rattle.clear_money.specs.Numbers.{IsNumberText}
use Rattle.clear_money.specs.Texts.{day_text}
use Rattle.clear_money.proofs.DateLemmas.{dated-civil}
use Rattle.clear_money.proofs.DayTextLemmas.{date_text-injective}
use Rattle.clear_money.proofs.MonthLemmas.{day_in-parts, day_of_month_bounds, month_length_bounds}
use Rattle.clear_bank.specs.Files.{numbers, written, value_in}

module _ (text : ℕ → List ℕ) (field : List ℕ) where
  abbrev in_range : ℕ → ℕ → Option ℕ
  in_range a n = find (λ x. bytes_eq (text x) field) (range_with_len a n)

  range-found : (a n v : ℕ) → a ≤ v → v < a + n → ((x : ℕ) → a ≤ x → x < a + n → text x ≡ text v → x ≡ v) → field ≡ text v → in_range a n ≡ Some v
  range-found a zero v low high one is = absurd (omega arith)
  range-found a (suc n) v low high one is =
      elim (cases_Bool (bytes_eq (text a) field)) [
        | inl hit ↦
            let e : a ≡ v = one a (omega arith) (omega arith) ((bytes_eq-Decides (text a) field).0 hit ∙ is) in
            ap (λ b. cond b (Some a) (in_range (a + 1) n)) hit ∙ ap Some e
        | inr miss ↦
            let apart : a ≢ v = λ e. cc (miss, (bytes_eq-Decides (text a) field).1 (ap text e ∙ sym is)) in
            ap (λ b. cond b (Some a) (in_range (a + 1) n)) miss ∙ range-found (a + 1) n v (omega arith) (omega arith) (λ x from to. one x (omega arith) (omega arith)) is
      ]

  range-none : (a n : ℕ) → ((x : ℕ) → a ≤ x → x < a + n → field ≢ text x) → in_range a n ≡ None
  range-none a zero none = refl
  range-none a (suc n) none =
      let miss : bytes_eq (text a) field ≡ false = false_from_ne_true _ (λ hit. none a (omega arith) (omega arith) (sym ((bytes_eq-Decides (text a) field).0 hit))) in
      ap (λ b. cond b (Some a) (in_range (a + 1) n)) miss ∙ range-none (a + 1) n (λ x from to. none x (omega arith) (omega arith))

  -- a value that is written so is found, where no two are written alike
  pub written-found : (a b v : ℕ) → a ≤ v → v ≤ b → ((x : ℕ) → a ≤ x → x ≤ b → text x ≡ text v → x ≡ v) → field ≡ text v → written text a b field ≡ Some v
  unfolding numbers
  written-found a b v low high one is = range-found a (b + 1 - a) v low (omega arith) (λ x from to. one x from (omega arith)) is

  pub written-none : (a b : ℕ) → ((x : ℕ) → a ≤ x → x ≤ b → field ≢ text x) → written text a b field ≡ None
  unfolding numbers
  written-none a b none = range-none a (b + 1 - a) (λ x from to. none x from (omega arith))

-- different days are written differently
day_text-injective : (t t₂ : ℕ) → IsDay t → IsDay t₂ → day_text t ≡ day_text t₂ → t ≡ t₂
day_text-injective t t₂ h h₂ e =
    let a = bounds t h in
    let b = bounds t₂ h₂ in
    let same = date_text-injective (month_of t / 12) (month_of t % 12 + 1) (day_of_month t) (month_of t₂ / 12) (month_of t₂ % 12 + 1) (day_of_month t₂) a.0 a.1 a.2 b.0 b.1 b.2 e in
    let m : month_of t ≡ month_of t₂ = omega (arith, same.year, same.month) in
    sym (day_in-parts t h) ∙ (λ i. day_in (m i) (same.day i)) ∙ day_in-parts t₂ h₂
  where
    bounds : (t : ℕ) → IsDay t → (month_of t / 12 < 10000) × (month_of t % 12 + 1 < 100) × (day_of_month t < 100)
    bounds t h =
        let civil = dated-civil t h in
        (omega (arith, civil.1), omega arith, omega (arith, (day_of_month_bounds t h).1, (month_length_bounds (month_of t)).1))

-- what reads as a day is the day that is written so
pub value-read : (field : List ℕ) (r : Option ℕ) → IfSome r (λ t. IsDay t × (field ≡ day_text t)) → IfNone r ((t : ℕ) → IsDay t → field ≢ day_text t) → r ≡ value_in field
value-read field None found none = sym (written-none day_text field 10957 84370 (λ x from to. none x (from, to)))
value-read field (Some t) found none = sym (written-found day_text field 10957 84370 t found.0.0 found.0.1 (λ x from to e. day_text-injective x t (from, to) found.0 e) found.1)

-- ---- numbers

module _ (field : List ℕ) (a b : ℕ) (small : b < 2 ^ 64) where
  -- a field that is no number
  pub number-none : ((n : ℕ) → IsNumberText field n → ⊥) → None ≡ written decimal a b field
  number-none none = sym (written-none decimal field a b (λ x from to is. none x (record { digits = is; small = omega arith })))

  -- a field that is a number, which is in the range or not
  pub number-in : (n : ℕ) (r : Option ℕ) → IsNumberText field n → (IsSome r ↔ ((a ≤ n) × (n ≤ b))) → IfSome r (λ v. v ≡ n) → r ≡ written decimal a b field
  number-in n None h some value = sym (written-none decimal field a b (λ x from to is. outside x from to is))
    where
      outside : (x : ℕ) → a ≤ x → x ≤ b → field ≢ decimal x
      outside x from to is =
          let e : x ≡ n = decimal_injective x n (omega arith) h.small (sym is ∙ h.digits) in
          cc (some.1 (omega arith, omega arith))
  number-in n (Some v) h some value =
      let within = some.0 refl in
      ap Some value ∙ sym (written-found decimal field a b n within.0 within.1 (λ x from to e. decimal_injective x n (omega arith) h.small e) h.digits)
