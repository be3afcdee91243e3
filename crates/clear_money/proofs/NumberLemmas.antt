-- A number's digits: what is read from them, and what they begin with.
use Rattle.std.proofs.Common.{◌≡◌, ℕ, ◌<◌, ◌≤◌, ◌^◌, ◌⊎◌, ⊎_elim, inl, inr, List, length, get_or, sym, subst, ap, ◌∙◌, arith}
use Rattle.std.proofs.lemmas.Bool.{cases_order}
use Rattle.std.specs.Prelude.{Result, Ok, Err, MatchResult, ◌≢◌}
use Rattle.std.specs.Result.{OkIff}
use Rattle.std.specs.Fmt.{decimal}
use Rattle.std.specs.Str.{IsUtf8}
use Rattle.std.specs.Str.Parse.{AllDigits, digits_value, ParsesUnsigned}
use Rattle.std.proofs.lemmas.Fmt.{decimal_is_IsNumeral, decimal-digits_value, decimal_digit, first_decimal, IsAscii-decimal}
use Rattle.std.proofs.lemmas.Str.{IsUtf8-from_ascii}
use Rattle.std.proofs.lemmas.Str.Parse.{IsNumeralModel, numerals_by_value, tells_digits, parse_plain}
use Rattle.clear_money.specs.Numbers.{IsNumberText}

own : IsNumeralModel (AllDigits 10) (digits_value 10)
own = numerals_by_value (AllDigits 10) tells_digits

first : (n : ℕ) → n < 2 ^ 64 → (get_or (decimal n) 0 0 ≡ 48) ⊎ (48 < get_or (decimal n) 0 0)
first n h = ⊎_elim
    (λ (e : 0 ≡ n). inl (ap (λ ds. get_or ds 0 0) (ap decimal (sym e) ∙ decimal_digit 0 (omega arith))))
    (λ (o : (0 < n) ⊎ (n < 0)). ⊎_elim (λ (lt : 0 < n). inr (first_decimal n lt h)) (λ (gt : n < 0). absurd (omega arith)) o)
    (cases_order 0 n)

single : (n : ℕ) → n < 2 ^ 64 → get_or (decimal n) 0 0 ≡ 48 → length (decimal n) ≡ 1
single n h e = ⊎_elim
    (λ (z : 0 ≡ n). ap length (ap decimal (sym z) ∙ decimal_digit 0 (omega arith)))
    (λ (o : (0 < n) ⊎ (n < 0)). ⊎_elim (λ (lt : 0 < n). absurd (omega (arith, first_decimal n lt h))) (λ (gt : n < 0). absurd (omega arith)) o)
    (cases_order 0 n)

-- a number's digits begin neither with a plus nor with a zero before other digits
pub plain : (bytes : List ℕ) (n : ℕ) → IsNumberText bytes n → ¬ ((get_or bytes 0 0 ≡ 43) ⊎ ((get_or bytes 0 0 ≡ 48) × (2 ≤ length bytes)))
plain bytes n h o =
    let is : get_or bytes 0 0 ≡ get_or (decimal n) 0 0 = ap (λ ds. get_or ds 0 0) h.digits in
    let len : length bytes ≡ length (decimal n) = ap length h.digits in
    ⊎_elim
    (λ (plus : get_or bytes 0 0 ≡ 43). ⊎_elim (λ (z : get_or (decimal n) 0 0 ≡ 48). omega arith) (λ (m : 48 < get_or (decimal n) 0 0). omega arith) (first n h.small))
    (λ (zero : (get_or bytes 0 0 ≡ 48) × (2 ≤ length bytes)). omega (arith, single n h.small (sym is ∙ zero.0), zero.1))
    o

-- a number's digits are text
pub is_text : (bytes : List ℕ) (n : ℕ) → IsNumberText bytes n → IsUtf8 bytes
is_text bytes n h = subst IsUtf8 (sym h.digits) (IsUtf8-from_ascii (decimal n) (IsAscii-decimal n h.small))

-- digits with no plus and no zero before other digits are those of the number that is read
reads : {E : Type 0} (bytes : List ℕ) (r : Result ℕ E) → ParsesUnsigned 64 10 bytes r → get_or bytes 0 0 ≢ 43 → (get_or bytes 0 0 ≡ 48 → length bytes ≡ 1) → MatchResult r (IsNumberText bytes) (λ _. (n : ℕ) → ¬ (IsNumberText bytes n))
reads bytes r h plus zero = told r (parse_plain own 64 bytes r h plus)
  where
    told : {E : Type 0} (r : Result ℕ E) → OkIff r (AllDigits 10 bytes × (0 < length bytes) × (digits_value 10 bytes < 2 ^ 64)) (digits_value 10 bytes) → MatchResult r (IsNumberText bytes) (λ _. (n : ℕ) → ¬ (IsNumberText bytes n))
    told (Ok n) is =
        let digits = sym (decimal-digits_value own bytes is.0.0 is.0.1 zero is.0.2) ∙ ap decimal (sym is.1) in
        record { digits = digits; small = omega (arith, is.0.2, is.1) }
    told (Err e) is = λ n text.
        let all = decimal_is_IsNumeral n text.small in
        let nonempty : 0 < length bytes = omega (arith, ap length text.digits, all.0.0) in
        let value : digits_value 10 bytes ≡ n = ap (digits_value 10) text.digits ∙ all.1 in
        is (subst (AllDigits 10) (sym text.digits) all.0.1, nonempty, omega (arith, value, text.small))

module _ {E : Type 0} (bytes text : List ℕ) (r : Result ℕ E) (is : text ≡ bytes) (parsed : ParsesUnsigned 64 10 text r) (plus : get_or bytes 0 0 ≢ 43) (zero : get_or bytes 0 0 ≡ 48 → length bytes ≡ 1) where
  result_is : MatchResult r (IsNumberText bytes) (λ _. (n : ℕ) → ¬ (IsNumberText bytes n))
  result_is = reads bytes r (subst (λ (t : List ℕ). ParsesUnsigned 64 10 t r) is parsed) plus zero

  pub number_found : (n : ℕ) → r ≡ Ok n → IsNumberText bytes n
  number_found n e = subst (λ (o : Result ℕ E). MatchResult o (IsNumberText bytes) (λ _. (n : ℕ) → ¬ (IsNumberText bytes n))) e result_is

  pub number_none : (e : E) → r ≡ Err e → (n : ℕ) → ¬ (IsNumberText bytes n)
  number_none e f = subst (λ (o : Result ℕ E). MatchResult o (IsNumberText bytes) (λ _. (n : ℕ) → ¬ (IsNumberText bytes n))) f result_is
