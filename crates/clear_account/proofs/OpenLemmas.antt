-- What is open of a charge, day by day and month by month.
use Rattle.std.proofs.Common.{◌≡◌, ℕ, ◌+◌, ◌-◌, ◌*◌, ◌<◌, ◌≤◌, List, [], ◌∷◌, length, get_or, drop, map, min, max, nat_lt, Bool, true, false, cond, refl, sym, ap, ◌∙◌, arith}
use Rattle.std.specs.List.{All, sum_by, filter}
use Rattle.std.proofs.lemmas.Nat.{mul-le}
use Rattle.std.proofs.lemmas.List.{drop_all, drop_more}
use Rattle.std.proofs.lemmas.List.FromFn.{length-range_with_len}
use Rattle.std.proofs.lemmas.List.Sums.{count_by-le-length, sum_by-cons}
use Rattle.clear_money.specs.Calendar.{begun_months, month_steps, months_after}
use Rattle.clear_account.specs.declared.entries.Charge.{Charge}
use Rattle.clear_account.specs.declared.entries.Credit.{Credit}
use Rattle.clear_account.specs.Account.{IsAccount, charge_at, charged_up_to, credited}
use Rattle.clear_account.specs.Allocation.{open_part}
use Rattle.clear_account.specs.Interest.{open_on, weight_on}
use Rattle.clear_account.proofs.AccountLemmas.{days_rise}
use Rattle.clear_account.proofs.ShareLemmas.{open_part-is}
use Rattle.clear_account.proofs.StretchLemmas.{sums_from, sums_from-overlap}
use Rattle.clear_account.proofs.WeightLemmas.{weight_by_pieces}

length-month_steps : length month_steps ≡ 2412
unfolding month_steps
length-month_steps = length-range_with_len 0 2412

-- there are no more begun months than months
pub begun_months-le : (due t : ℕ) → begun_months due t ≤ 2412
begun_months-le due t = omega (arith, count_by-le-length (λ k. nat_lt (months_after due k) t) month_steps, length-month_steps)

-- what the credits from p on pay of the charge from s to e, each time the months begun until it was paid
abbrev pub late_from : ℕ → ℕ → ℕ → ℕ → List Credit → ℕ
late_from s e due p ks = sums_from (λ k. k.cents) (λ q r k. (min e r - max s q) * begun_months due k.day) p ks

-- a sum over the days that pass is one over the steps whose days do
begun_step : (f g : ℕ → ℕ) (k : ℕ) (ds ks : List ℕ) (v : Bool) → sum_by f ds ≡ sum_by (λ l. f (g l)) ks → sum_by f (cond v (g k ∷ ds) ds) ≡ sum_by (λ l. f (g l)) (cond v (k ∷ ks) ks)
begun_step f g k ds ks true rest = sum_by-cons f (g k) ds ∙ ap (λ n. f (g k) + n) rest ∙ sym (sum_by-cons (λ l. f (g l)) k ks)
begun_step f g k ds ks false rest = rest

sum_by-begun : (f g : ℕ → ℕ) (t : ℕ) (ks : List ℕ) → sum_by f (filter (λ d. nat_lt d t) (map g ks)) ≡ sum_by (λ k. f (g k)) (filter (λ k. nat_lt (g k) t) ks)
sum_by-begun f g t [] = refl
sum_by-begun f g t (k ∷ ks) = begun_step f g k (filter (λ d. nat_lt d t) (map g ks)) (filter (λ l. nat_lt (g l) t) ks) (nat_lt (g k) t) (sum_by-begun f g t ks)

-- month by month is piece by piece
pub weight_on-is : (cs : List Charge) (ks : List Credit) (i t : ℕ) → IsAccount cs ks → i < length cs → All (λ k. k.day ≤ t) ks → weight_on cs ks i t ≡ late_from (charged_up_to cs i) (charged_up_to cs i + (charge_at cs i).cents) (charge_at cs i).due 0 ks + open_part cs ks i * begun_months (charge_at cs i).due t
unfolding weight_on
weight_on-is cs ks i t a within early =
    let s : ℕ = charged_up_to cs i in
    let c : ℕ = (charge_at cs i).cents in
    let due : ℕ = (charge_at cs i).due in
    let all : sums_from (λ (k : Credit). k.cents) (λ q r k. min (s + c) r - max s q) 0 ks ≡ min (s + c) (0 + credited ks) - max s 0 = sums_from-overlap (λ k. k.cents) s (s + c) 0 ks (omega arith) in
    let left : c - sums_from (λ (k : Credit). k.cents) (λ q r k. min (s + c) r - max s q) 0 ks ≡ open_part cs ks i = omega (arith, open_part-is cs ks i within) in
    sum_by-begun (λ d. open_on cs ks i d) (λ k. months_after due k) t month_steps
    ∙ weight_by_pieces (λ k. k.cents) (λ k. k.day) s c t (months_after due) month_steps ks (days_rise ks a.credits_rise) early
    ∙ ap (λ n. late_from s (s + c) due 0 ks + n * begun_months due t) left

late-le : (s e due p : ℕ) (ks : List Credit) → late_from s e due p ks ≤ sums_from (λ k. k.cents) (λ q r k. min e r - max s q) p ks * 2412
late-le s e due p [] = omega arith
late-le s e due p (k ∷ ks) =
    let share : ℕ = min e (p + k.cents) - max s p in
    omega (arith, mul-le share (begun_months due k.day) share 2412 (omega arith) (begun_months-le due k.day), late-le s e due (p + k.cents) ks)

pub late_from-le : (s e due p : ℕ) (ks : List Credit) → s ≤ e → late_from s e due p ks ≤ (e - s) * 2412
late_from-le s e due p ks h =
    omega (arith, late-le s e due p ks, sums_from-overlap (λ (k : Credit). k.cents) s e p ks h)

-- a credit of n cents, with what it pays of the charge, leaves the walk along the rest
pub late_step : (w s e due p n z j total : ℕ) (k : Credit) (ks : List Credit) → j < length ks → k ≡ get_or ks j k → n ≡ k.cents → z ≡ (min e (p + n) - max s p) * begun_months due k.day → w + late_from s e due p (drop j ks) ≡ total → w + z + late_from s e due (p + n) (drop (j + 1) ks) ≡ total
late_step w s e due p n z j total k ks within is amount part so_far =
    let left : drop j ks ≡ k ∷ drop (j + 1) ks = drop_more ks j k within ∙ ap (λ x. x ∷ drop (j + 1) ks) (sym is) in
    let opened : w + late_from s e due p (k ∷ drop (j + 1) ks) ≡ total = ap (λ xs. w + late_from s e due p xs) (sym left) ∙ so_far in
    let same : (min e (p + n) - max s p) * begun_months due k.day ≡ (min e (p + k.cents) - max s p) * begun_months due k.day = ap (λ m. (min e (p + m) - max s p) * begun_months due k.day) amount in
    let rest : late_from s e due (p + n) (drop (j + 1) ks) ≡ late_from s e due (p + k.cents) (drop (j + 1) ks) = ap (λ m. late_from s e due (p + m) (drop (j + 1) ks)) amount in
    omega arith

pub weight_on-le : (cs : List Charge) (ks : List Credit) (i t : ℕ) → IsAccount cs ks → i < length cs → All (λ k. k.day ≤ t) ks → weight_on cs ks i t ≤ (charge_at cs i).cents * 2412
weight_on-le cs ks i t a within early =
    let s : ℕ = charged_up_to cs i in
    let c : ℕ = (charge_at cs i).cents in
    let due : ℕ = (charge_at cs i).due in
    let open_cents : ℕ = open_part cs ks i in
    let begun : ℕ = begun_months due t in
    let product : open_cents * begun ≤ open_cents * 2412 = mul-le open_cents begun open_cents 2412 (omega arith) (begun_months-le due t) in
    omega (arith, weight_on-is cs ks i t a within early, late-le s (s + c) due 0 ks, sums_from-overlap (λ (k : Credit). k.cents) s (s + c) 0 ks (omega arith), open_part-is cs ks i within)

-- where all credits were walked
pub weight_walked : (cs : List Charge) (ks : List Credit) (i t s w o z j p : ℕ) (d : Charge) → IsAccount cs ks → i < length cs → All (λ k. k.day ≤ t) ks → d ≡ charge_at cs i → s ≡ charged_up_to cs i → o ≡ open_part cs ks i → z ≡ o * begun_months d.due t → length ks ≤ j → w + late_from s (s + d.cents) d.due p (drop j ks) ≡ late_from s (s + d.cents) d.due 0 ks → w + z ≡ weight_on cs ks i t
weight_walked cs ks i t s w o z j p d a within early charge start open_cents part done walked =
    let none : late_from s (s + d.cents) d.due p (drop j ks) ≡ 0 = ap (λ xs. late_from s (s + d.cents) d.due p xs) (drop_all j ks done) in
    let all : w ≡ late_from s (s + d.cents) d.due 0 ks = omega arith in
    let same : late_from s (s + d.cents) d.due 0 ks ≡ late_from (charged_up_to cs i) (charged_up_to cs i + (charge_at cs i).cents) (charge_at cs i).due 0 ks = (λ n. late_from (start n) (start n + (charge n).cents) (charge n).due 0 ks) in
    let rest : o * begun_months d.due t ≡ open_part cs ks i * begun_months (charge_at cs i).due t = (λ n. open_cents n * begun_months (charge n).due t) in
    (λ n. (all ∙ same) n + (part ∙ rest) n) ∙ sym (weight_on-is cs ks i t a within early)
