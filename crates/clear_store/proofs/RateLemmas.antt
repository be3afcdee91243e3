-- A row of rates behind the others.
use Rattle.std.proofs.Common.{◌≡◌, ℕ, ◌<◌, ◌<ℤ◌, List, [], ◌∷◌, ◌++◌, Some, None, true, false, cond, refl, ap, ◌∙◌, arith}
use Rattle.std.proofs.lemmas.Int.{ints}
use Rattle.std.specs.List.{AllByRecursion}
use Rattle.sqlite_keyed.specs.Keyed.{IsKeyedBy}
use Rattle.clear_money.specs.Rates.{AllAfter, IsRising, Rate, last_first}
use Rattle.clear_values.specs.Keyed.{find_row, is_before, is_key, with_row}
use Rattle.clear_values.proofs.KeyedLemmas.{before_is_other, first_less, is_before-trans, is_key-sym}
use Rattle.clear_values.proofs.KeyedMapLemmas.{with_row-last}
use Rattle.clear_schema.specs.Values.{month_number}
use Rattle.clear_firms.specs.Shown.{rate_key}

months_rise : (m n : ℕ) → month_number m <ℤ month_number n → m < n
months_rise m n less = grind (arith, ints)

-- where the last row comes before another, each does
each_before : (rates : List Rate) (row : Rate) → IsKeyedBy (λ (r : Rate). month_number r.first) rates → last_first rates < row.first → AllByRecursion (λ r. is_before (rate_key r) (rate_key row) ≡ true) rates
each_before [] row up last = tt
each_before (r ∷ []) row up last = (first_less r.first row.first [] [] last, tt)
each_before (r ∷ q ∷ rates) row up last =
    let rest = each_before (q ∷ rates) row up.1 last in
    (is_before-trans (rate_key r) (rate_key q) (rate_key row) (first_less r.first q.first [] [] (months_rise r.first q.first up.0.0)) rest.0, rest)

-- so the other comes last
pub comes_last : (rates : List Rate) (row : Rate) → IsKeyedBy (λ (r : Rate). month_number r.first) rates → last_first rates < row.first → with_row rate_key rates row ≡ rates ++ row ∷ []
comes_last rates row up last = with_row-last rate_key rates row (each_before rates row up last)

after_all : (f : ℕ) (rates : List Rate) (row : Rate) → AllAfter f (rates ++ row ∷ []) → f < row.first
after_all f [] row all = all.0
after_all f (r ∷ rates) row all = after_all f rates row all.1

-- a row behind others had its first month free
pub rising_free : (rates : List Rate) (row : Rate) → IsRising (rates ++ row ∷ []) → find_row rate_key rates (rate_key row) ≡ None
rising_free [] row up = refl
rising_free (r ∷ rates) row up =
    let before : is_before (rate_key r) (rate_key row) ≡ true = first_less r.first row.first [] [] (after_all r.first rates row up.0) in
    let other : is_key (rate_key r) (rate_key row) ≡ false = is_key-sym (rate_key row) (rate_key r) (before_is_other (rate_key r) (rate_key row) before) in
    ap (λ b. cond b (Some r) (find_row rate_key rates (rate_key row))) other ∙ rising_free rates row up.1
