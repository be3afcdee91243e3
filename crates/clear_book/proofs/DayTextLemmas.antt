-- The text of a day is ASCII.
use Rattle.std.proofs.Common.{ℕ, zero, suc, ◌<◌, ◌/◌, ◌%◌, ◌+◌, List, [], ◌∷◌, ◌++◌, arith}
use Rattle.std.proofs.lemmas.Str.{IsUtf8-from_ascii}
use Rattle.std.proofs.lemmas.Str.Ascii.{IsAscii-nil}
use Rattle.std.specs.Str.{IsAscii, IsUtf8}
use Rattle.clear_money.specs.Calendar.{IsDay, month_of, day_of_month}
use Rattle.clear_money.specs.Texts.{two_digits, four_digits, date_text, day_text}
use Rattle.clear_money.proofs.DateLemmas.{dated-civil}
use Rattle.clear_money.proofs.MonthLemmas.{month_length_bounds, day_of_month_bounds}

dash : (rest : List ℕ) → IsAscii rest → IsAscii (45 ∷ rest)
dash rest ascii zero = omega arith
dash rest ascii (suc i) = ascii i

two : (n : ℕ) → n < 100 → (rest : List ℕ) → IsAscii rest → IsAscii (two_digits n ++ rest)
two n h rest ascii zero = omega arith
two n h rest ascii (suc zero) = omega arith
two n h rest ascii (suc (suc i)) = ascii i

four : (n : ℕ) → n < 10000 → (rest : List ℕ) → IsAscii rest → IsAscii (four_digits n ++ rest)
four n h rest ascii zero = omega arith
four n h rest ascii (suc zero) = omega arith
four n h rest ascii (suc (suc zero)) = omega arith
four n h rest ascii (suc (suc (suc zero))) = omega arith
four n h rest ascii (suc (suc (suc (suc i)))) = ascii i

date_ascii : (y m d : ℕ) → y < 10000 → m < 100 → d < 100 → IsAscii (date_text y m d)
date_ascii y m d year month day =
    let of_day : IsAscii (two_digits d) = two d day [] IsAscii-nil in
    let of_month : IsAscii (two_digits m ++ 45 ∷ two_digits d) = two m month (45 ∷ two_digits d) (dash (two_digits d) of_day) in
    four y year (45 ∷ two_digits m ++ 45 ∷ two_digits d) (dash (two_digits m ++ 45 ∷ two_digits d) of_month)

pub day_utf8 : (t : ℕ) → IsDay t → IsUtf8 (day_text t)
day_utf8 t h =
    IsUtf8-from_ascii (day_text t)
    (date_ascii (month_of t / 12) (month_of t % 12 + 1) (day_of_month t) (omega (arith, (dated-civil t h).1)) (omega arith) (omega (arith, (day_of_month_bounds t h).1, (month_length_bounds (month_of t)).1)))
