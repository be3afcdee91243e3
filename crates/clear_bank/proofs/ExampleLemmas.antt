-- What the fields of the examples of bank files say.
use Rattle.std.proofs.Common.{◌≡◌, ℕ, ◌<◌, ◌≤◌, ◌^◌, List, [], ◌∷◌, codes, option_map, Some, None, Ok, Err, refl, sym, ap, arith}
use Rattle.std.specs.Fmt.{decimal, digits}
use Rattle.std.specs.Str.{is_utf8, chars}
use Rattle.std.proofs.Math.Utf8.{encode}
use Rattle.clear_money.specs.Calendar.{day_in}
use Rattle.clear_money.proofs.DayTextLemmas.{spelled}
use Rattle.clear_money.proofs.MonthLemmas.{day_in-place, leap_day-2024}
use Rattle.clear_bank.specs.Files.{value_in, employer_in, cents_in, line_of, written}
use Rattle.clear_bank.specs.Laws.{cent_line, interest_line}
use Rattle.clear_bank.specs.declared.fault.BankFault.TheVariants.{BadCsv}
use Rattle.clear_bank.specs.declared.fields.BankField.TheVariants.{Cents}
use Rattle.clear_bank.specs.declared.fields.RecordFault.TheVariants.{Field}
use Rattle.clear_bank.proofs.FieldLemmas.{number-in, value-read}

day-is : 19778 ≡ day_in 24289 25
day-is =
    omega (arith, leap_day-2024, day_in-place 24289 29 (omega arith) (omega arith), day_in-place 24289 25 (omega arith) (omega arith))

day-example : value_in (codes "2024-02-25") ≡ Some 19778
day-example =
    sym (value-read (codes "2024-02-25") (Some 19778) (spelled (codes "2024-02-25") 2024 2 25 (Some 19778) refl (day-is, omega arith, omega arith, ((omega arith, omega arith), (omega arith, omega arith), (omega arith, omega arith)))) tt)

-- a number that is in its range
number-example : (field : List ℕ) (b n : ℕ) → b < 2 ^ 64 → 1 ≤ n → n ≤ b → field ≡ decimal n → written decimal 1 b field ≡ Some n
number-example field b n small low high is =
    sym (number-in field 1 b small n (Some n) (record { digits = is; small = omega arith }) ((λ _. (low, high)), (λ _. refl)) refl)

cents-1 : cents_in (codes "1") ≡ Some 1
unfolding digits
cents-1 = number-example (codes "1") 100_000_000_000 1 (omega arith) (omega arith) (omega arith) refl

cents-150000 : cents_in (codes "150000") ≡ Some 150000
unfolding digits
cents-150000 = number-example (codes "150000") 100_000_000_000 150000 (omega arith) (omega arith) (omega arith) refl

firm-1001 : employer_in (codes "1001") ≡ Some (Some 1001)
unfolding digits
firm-1001 = ap (option_map Some) (number-example (codes "1001") 99_999_999 1001 (omega arith) (omega arith) (omega arith) refl)

cents-0 : cents_in (codes "0") ≡ None
unfolding digits
cents-0 =
    sym (number-in (codes "0") 1 100_000_000_000 (omega arith) 0 None (record { digits = refl; small = omega arith }) ((λ h. absurd cc), (λ h. absurd (omega arith))) tt)

pub cent-line : line_of 2 (codes "B1" ∷ codes "2024-02-25" ∷ [] ∷ codes "1" ∷ [] ∷ [] ∷ []) ≡ Ok cent_line
unfolding is_utf8 chars
cent-line = rw (day-example, cents-1) refl

pub interest-line : line_of 3 (codes "B2" ∷ codes "2024-02-25" ∷ codes "1001" ∷ codes "150000" ∷ codes "I" ∷ codes "late, \"May\"" ∷ []) ≡ Ok interest_line
unfolding is_utf8 chars encode
interest-line = rw (day-example, firm-1001, cents-150000) refl

pub no_cents-line : line_of 2 (codes "B1" ∷ codes "2024-02-25" ∷ [] ∷ codes "0" ∷ [] ∷ [] ∷ []) ≡ Err (BadCsv 2 (Field Cents))
no_cents-line = rw (day-example, cents-0) refl
