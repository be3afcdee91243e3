-- The rows of charges.
use Rattle.std.proofs.Common.{◌≡◌, ℕ, ◌+◌, ◌-◌, ◌*◌, ◌≤◌, List, [], ◌∷◌, ◌++◌, length, map, take, drop, min, max, zero, suc, refl, sym, ap, ◌∙◌, arith}
use Rattle.std.specs.List.{range_with_len, sum_by}
use Rattle.std.proofs.lemmas.List.{take_at}
use Rattle.std.proofs.lemmas.List.Concat.{flat_map_single}
use Rattle.std.proofs.lemmas.List.Sums.{sum_by-cons}
use Rattle.clear_money.specs.Calendar.{begun_months}
use Rattle.clear_account.specs.declared.entries.Charge.{Charge}
use Rattle.clear_account.specs.declared.entries.Credit.{Credit}
use Rattle.clear_account.specs.Account.{charge_at, charged, charged_up_to, credited}
use Rattle.clear_account.specs.Allocation.{open_part}
use Rattle.clear_account.proofs.GridLemmas.{parts_from-append}
use Rattle.clear_account.proofs.LawLemmas.{late_shares-walk}
use Rattle.clear_account.proofs.OpenLemmas.{late_from}
use Rattle.clear_account.proofs.ShareLemmas.{paid_of-walk}
use Rattle.clear_account.proofs.StretchLemmas.{parts_from, sums_from, sums_from-overlap, flat_map-range}
use Rattle.clear_kept.specs.declared.rows.WeighedCharge.{WeighedCharge}
use Rattle.clear_kept.specs.Weighed.{weighed_charge, weighed_charges}

-- what the credits from p on pay of the charge from s to e
abbrev pub paid_from : ℕ → ℕ → ℕ → List Credit → ℕ
paid_from s e p ks = sums_from (λ k. k.cents) (λ q r k. min e r - max s q) p ks

-- the row of a charge from s to e
abbrev pub row_between : ℕ → ℕ → Charge → List Credit → WeighedCharge
row_between s e c ks = record {
  month = c.month;
  due = c.due;
  cents = c.cents;
  left = c.cents - paid_from s e 0 ks;
  weight = late_from s e c.due 0 ks;
}

-- what is open of a charge from s on
pub left_is : (s : ℕ) (c : Charge) (ks : List Credit) → c.cents - paid_from s (s + c.cents) 0 ks ≡ (s + c.cents - credited ks) - (s - credited ks)
left_is s c ks = omega (arith, sums_from-overlap (λ (k : Credit). k.cents) s (s + c.cents) 0 ks (omega arith))

weighed_charge-walk : (cs : List Charge) (ks : List Credit) (i : ℕ) → weighed_charge cs ks i ≡ row_between (charged_up_to cs i) (charged_up_to cs (i + 1)) (charge_at cs i) ks
unfolding open_part
weighed_charge-walk cs ks i = (λ t. record {
  month = (charge_at cs i).month;
  due = (charge_at cs i).due;
  cents = (charge_at cs i).cents;
  left = (charge_at cs i).cents - paid_of-walk cs ks i t;
  weight = late_shares-walk cs ks i t;
})

-- ---- credits that begin where a stretch ends
module _ {X : Type 0} (f : X → ℕ) (G : ℕ → ℕ → X → ℕ) (e : ℕ) (none : (q r : ℕ) (x : X) → e ≤ q → G q r x ≡ 0) where
  sums_from-past : (p : ℕ) (xs : List X) → e ≤ p → sums_from f G p xs ≡ 0
  sums_from-past p [] h = refl
  sums_from-past p (x ∷ xs) h = (λ i. none p (p + f x) x h i + sums_from-past (p + f x) xs (omega arith) i)

  sums_from-front : (p : ℕ) (xs ys : List X) → e ≤ p + sum_by f xs → sums_from f G p (xs ++ ys) ≡ sums_from f G p xs
  sums_from-front p [] ys h = sums_from-past p ys (omega arith)
  sums_from-front p (x ∷ xs) ys h = ap (λ n. G p (p + f x) x + n) (sums_from-front (p + f x) xs ys (omega (arith, sum_by-cons f x xs)))

past : (s e n q r : ℕ) → e ≤ q → (min e r - max s q) * n ≡ 0
past s e n q r h = let none : min e r - max s q ≡ 0 = omega arith in ap (λ m. m * n) none ∙ omega arith

row_front : (s e : ℕ) (c : Charge) (ws us : List Credit) → e ≤ credited ws → row_between s e c (ws ++ us) ≡ row_between s e c ws
row_front s e c ws us h = (λ i. record {
  month = c.month;
  due = c.due;
  cents = c.cents;
  left = c.cents - sums_from-front (λ (k : Credit). k.cents) (λ q r k. min e r - max s q) e (λ q r k low. omega arith) 0 ws us (omega arith) i;
  weight = sums_from-front (λ (k : Credit). k.cents) (λ q r k. (min e r - max s q) * begun_months c.due k.day) e (λ q r k low. past s e (begun_months c.due k.day) q r low) 0 ws us (omega arith) i;
})

-- ---- the rows as a walk along the charges
abbrev pub rows_walk : ℕ → List Charge → List Credit → List WeighedCharge
rows_walk s cs ks = parts_from (λ c. c.cents) (λ t e c. row_between t e c ks ∷ []) s cs

pub weighed_charges-walk : (cs : List Charge) (ks : List Credit) → weighed_charges cs ks ≡ rows_walk 0 cs ks
weighed_charges-walk cs ks =
    (λ t. map (λ i. weighed_charge-walk cs ks i t) (range_with_len 0 (length cs)))
    ∙ sym (flat_map_single (λ i. row_between (charged_up_to cs i) (charged_up_to cs (i + 1)) (charge_at cs i) ks) (range_with_len 0 (length cs)))
    ∙ flat_map-range (λ c. c.cents) (record { month = 0; due = 0; cents = 0 }) (λ s e c. row_between s e c ks ∷ []) cs

pub length-rows_walk : (s : ℕ) (cs : List Charge) (ks : List Credit) → length (rows_walk s cs ks) ≡ length cs
length-rows_walk s [] ks = refl
length-rows_walk s (c ∷ cs) ks = omega (arith, length-rows_walk (s + c.cents) cs ks)

pub rows_front : (n : ℕ) (ds bs : List Charge) (ks : List Credit) → length ds ≡ n → take n (weighed_charges (ds ++ bs) ks) ≡ rows_walk 0 ds ks
rows_front n ds bs ks is =
    ap (take n) (weighed_charges-walk (ds ++ bs) ks ∙ parts_from-append (λ c. c.cents) (λ t e c. row_between t e c ks ∷ []) 0 ds bs)
    ∙ take_at (rows_walk 0 ds ks) (rows_walk (0 + charged ds) bs ks) n (length-rows_walk 0 ds ks ∙ is)

pub rows_walk-front : (s : ℕ) (cs : List Charge) (ws us : List Credit) → s + charged cs ≤ credited ws → rows_walk s cs (ws ++ us) ≡ rows_walk s cs ws
rows_walk-front s [] ws us h = refl
rows_walk-front s (c ∷ cs) ws us h =
    let sum : charged (c ∷ cs) ≡ c.cents + charged cs = sum_by-cons (λ (d : Charge). d.cents) c cs in
    (λ i. row_front s (s + c.cents) c ws us (omega arith) i ∷ rows_walk-front (s + c.cents) cs ws us (omega arith) i)

-- ---- the rows behind a front
pub drop-map-range : {X : Type 0} (f : ℕ → X) (a n k : ℕ) → k ≤ n → drop k (map f (range_with_len a n)) ≡ map f (range_with_len (a + k) (n - k))
drop-map-range f a n zero h = (λ i. map f (range_with_len (sym zero_a i) (sym zero_n i)))
  where
    zero_a : a + zero ≡ a
    zero_a = omega arith

    zero_n : n - zero ≡ n
    zero_n = omega arith
drop-map-range f a zero (suc k) h = absurd (omega arith)
drop-map-range f a (suc n) (suc k) h =
    let start : a + 1 + k ≡ a + suc k = omega arith in
    let rest : n - k ≡ suc n - suc k = omega arith in
    drop-map-range f (a + 1) n k (omega arith) ∙ (λ i. map f (range_with_len (start i) (rest i)))
