-- What the shares of a charge come to.
use Rattle.std.proofs.Common.{◌≡◌, ℕ, ◌+◌, ◌-◌, ◌<◌, List, length, min, max, ap, ◌∙◌, arith}
use Rattle.std.proofs.lemmas.List.Sums.{sum_by_more}
use Rattle.clear_account.specs.declared.entries.Charge.{Charge}
use Rattle.clear_account.specs.declared.entries.Credit.{Credit}
use Rattle.clear_account.specs.Account.{charge_at, charged_up_to, credited}
use Rattle.clear_account.specs.Allocation.{open_part, paid_of}
use Rattle.clear_account.proofs.StretchLemmas.{sums_from, sums_from-overlap, sum_by-range}

-- a charge begins where those before it end
pub charged_up_to-more : (cs : List Charge) (i : ℕ) → i < length cs → charged_up_to cs (i + 1) ≡ charged_up_to cs i + (charge_at cs i).cents
charged_up_to-more cs i within = sum_by_more (λ c. c.cents) cs i (record { month = 0; due = 0; cents = 0 }) within

-- the shares of charge i as a walk along the credits
pub paid_of-walk : (cs : List Charge) (ks : List Credit) (i : ℕ) → paid_of cs ks i ≡ sums_from (λ k. k.cents) (λ q r k. min (charged_up_to cs (i + 1)) r - max (charged_up_to cs i) q) 0 ks
paid_of-walk cs ks i = sum_by-range (λ k. k.cents) (record { day = 0; serial = 0; cents = 0 }) (λ q r k. min (charged_up_to cs (i + 1)) r - max (charged_up_to cs i) q) ks

-- the shares of a charge are what the credits reach of it
pub paid_of-is : (cs : List Charge) (ks : List Credit) (i : ℕ) → i < length cs → paid_of cs ks i ≡ min (charge_at cs i).cents (credited ks - charged_up_to cs i)
paid_of-is cs ks i within =
    let ends : charged_up_to cs (i + 1) ≡ charged_up_to cs i + (charge_at cs i).cents = charged_up_to-more cs i within in
    let all : sums_from (λ (k : Credit). k.cents) (λ q r k. min (charged_up_to cs (i + 1)) r - max (charged_up_to cs i) q) 0 ks ≡ min (charged_up_to cs (i + 1)) (0 + credited ks) - max (charged_up_to cs i) 0 =
    sums_from-overlap (λ k. k.cents) (charged_up_to cs i) (charged_up_to cs (i + 1)) 0 ks (omega arith) in
    paid_of-walk cs ks i ∙ all ∙ omega arith

pub open_part-is : (cs : List Charge) (ks : List Credit) (i : ℕ) → i < length cs → open_part cs ks i ≡ (charge_at cs i).cents - min (charge_at cs i).cents (credited ks - charged_up_to cs i)
unfolding open_part
open_part-is cs ks i within = ap (λ n. (charge_at cs i).cents - n) (paid_of-is cs ks i within)
