-- Counting in a range what passes a test up to a place and no more behind it.
use Rattle.std.proofs.Common.{◌≡◌, ℕ, zero, suc, ◌+◌, ◌<◌, ◌≤◌, Bool, true, false, cond, refl, ap, arith, count_by}
use Rattle.std.proofs.lemmas.List.Sums.{sum_by-cons}
use Rattle.std.specs.List.{range_with_len}

abbrev one_for : Bool → ℕ
one_for b = cond b 1 0

none_passes : (p : ℕ → Bool) (a n : ℕ) → ((k : ℕ) → a ≤ k → k < a + n → p k ≡ false) → count_by p (range_with_len a n) ≡ 0
none_passes p a zero fails = refl
none_passes p a (suc n) fails =
    let here : one_for (p a) ≡ 0 = ap one_for (fails a (omega arith) (omega arith)) in
    let rest = none_passes p (a + 1) n (λ k low high. fails k (omega arith) (omega arith)) in
    omega (arith, sum_by-cons (λ (k : ℕ). one_for (p k)) a (range_with_len (a + 1) n), here, rest)

-- a test that the first c numbers of a range pass and no later one counts c
pub count_first : (p : ℕ → Bool) (a n c : ℕ) → c ≤ n → ((k : ℕ) → a ≤ k → k < a + c → p k ≡ true) → ((k : ℕ) → a + c ≤ k → k < a + n → p k ≡ false) → count_by p (range_with_len a n) ≡ c
count_first p a n zero within passes fails = none_passes p a n (λ k low high. fails k (omega arith) high)
count_first p a zero (suc c) within passes fails = absurd (omega arith)
count_first p a (suc n) (suc c) within passes fails =
    let here : one_for (p a) ≡ 1 = ap one_for (passes a (omega arith) (omega arith)) in
    let rest = count_first p (a + 1) n c (omega arith) (λ k low high. passes k (omega arith) (omega arith)) (λ k low high. fails k (omega arith) (omega arith)) in
    omega (arith, sum_by-cons (λ (k : ℕ). one_for (p k)) a (range_with_len (a + 1) n), here, rest)
