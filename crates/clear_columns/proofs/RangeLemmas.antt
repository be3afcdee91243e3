-- How many months there are.
use Rattle.std.proofs.Common.{◌≡◌, ◌≤◌, ◌<◌, ◌^◌, ◌↔◌, ℕ, length, nat_le, true, arith}
use Rattle.std.proofs.lemmas.Bool.Decides.{nat_tests}
use Rattle.std.proofs.lemmas.List.FromFn.{length-range_with_len}
use Rattle.clear_money.specs.Calendar.{months}

months_many : length months ≡ 2400
unfolding months
months_many = length-range_with_len 24000 2400

-- 32 bits hold them
pub few_months : (n : ℕ) → n ≤ length months → n < 2 ^ 32
few_months n = rw months_many (λ few. omega (arith, few))

at_most : (n m : ℕ) → (nat_le n m ≡ true) ↔ (n ≤ m)
at_most n m = (λ h. grind (arith, nat_tests), λ h. grind (arith, nat_tests))

pub so_many_months : (n : ℕ) → (nat_le n 2400 ≡ true) ↔ (n ≤ length months)
so_many_months n = rw months_many (at_most n 2400)
