-- What padded numbers write, as the words of `Amounts` say it.
use Rattle.std.proofs.Common.{◌≡◌, ℕ, ◌-◌, ◌<◌, ◌≤◌, ◌/◌, ◌%◌, ◌^◌, zero, suc, false, List, [], ◌∷◌, ◌++◌, length, refl, arith, sym, ◌∙◌, append_assoc, append-nil, length-append, ⊎_elim, codes}
use Rattle.std.specs.Prelude.{replicate}
use Rattle.std.proofs.Math.Utf8.{encode}
use Rattle.std.specs.Fmt.{decimal, padded_integral, styled_decimal, format_spec, char_count}
use Rattle.std.specs.List.{repeat}
use Rattle.std.proofs.lemmas.Bool.{cases_lt}
use Rattle.std.proofs.lemmas.Fmt.{decimal_digit, decimal_step}
use Rattle.clear_money.specs.Texts.{two_digits}
use Rattle.clear_book.specs.Documents.Amounts.{amount_text, euros_text}

spaces : (n : ℕ) → repeat {A = ℕ} n (32 ∷ []) ≡ replicate n 32
spaces zero = refl
spaces (suc n) = λ i. 32 ∷ spaces n i

-- `{:02}`
pub two_places : (n : ℕ) → n < 100 → padded_integral (format_spec 32 0 4 2 (2 ^ 64 - 1)) false [] (decimal n) ≡ two_digits n
unfolding padded_integral char_count
two_places n small = ⊎_elim
    (λ (one : n < 10). let high : n / 10 ≡ 0 = omega arith in let low : n % 10 ≡ n = omega arith in rw (decimal_digit n one, high, low) refl)
    (λ (two : 10 ≤ n). let high : n / 10 < 10 = omega arith in let few : n < 2 ^ 64 = omega arith in rw (decimal_step n two few, decimal_digit (n / 10) high) refl)
    (cases_lt n 10)

-- `{:>11}`
pub right_in_11 : (ds : List ℕ) → padded_integral (format_spec 32 3 0 11 (2 ^ 64 - 1)) false [] ds ≡ replicate (11 - length ds) 32 ++ ds
unfolding padded_integral char_count encode
right_in_11 ds =
    let short : 11 - length ds - 0 - 0 ≡ 11 - length ds = omega arith in
    let none : (11 - length ds) - (11 - length ds) ≡ 0 = omega arith in
    rw (short, none, spaces (11 - length ds)) (simp append-nil)

pub amount_parts : (cents : ℕ) → styled_decimal (format_spec 32 3 0 11 (2 ^ 64 - 1)) (cents / 100) ++ 46 ∷ styled_decimal (format_spec 32 0 4 2 (2 ^ 64 - 1)) (cents % 100) ≡ amount_text cents
unfolding amount_text
amount_parts cents =
    let euros = decimal (cents / 100) in
    let two = two_digits (cents % 100) in
    let low : cents % 100 < 100 = omega arith in
    let places : 14 - length (euros ++ codes "." ++ two) ≡ 11 - length euros = omega (arith, length-append (euros ++ codes ".") two, length-append euros (codes ".")) in
    let shown : amount_text cents ≡ replicate (11 - length euros) 32 ++ (euros ++ codes "." ++ two) = λ i. replicate (places i) 32 ++ (euros ++ codes "." ++ two) in
    let joined : replicate (11 - length euros) 32 ++ (euros ++ codes "." ++ two) ≡ replicate (11 - length euros) 32 ++ euros ++ 46 ∷ two = simp append_assoc in
    rw (right_in_11 euros, two_places (cents % 100) low) (sym (shown ∙ joined))

pub euros_parts : (cents : ℕ) → decimal (cents / 100) ++ 46 ∷ styled_decimal (format_spec 32 0 4 2 (2 ^ 64 - 1)) (cents % 100) ≡ euros_text cents
euros_parts cents =
    let low : cents % 100 < 100 = omega arith in
    rw (two_places (cents % 100) low) (sym (append_assoc (decimal (cents / 100)) (codes ".") (two_digits (cents % 100))))
