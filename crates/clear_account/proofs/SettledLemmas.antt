-- The shares of a charge, by a walk along the payments.
use Rattle.std.proofs.Common.{◌≡◌, ℕ, ◌+◌, ◌-◌, ◌*◌, ◌<◌, ◌≤◌, Bool, true, false, cond, nat_lt, subst, List, [], ◌∷◌, ◌++◌, length, get_or, take, drop, min, max, zero, suc, refl, sym, ap, ◌∙◌, arith, append_assoc}
use Rattle.std.specs.List.{All, flat_map, range_with_len, sum_by}
use Rattle.std.proofs.lemmas.List.{append-nil, drop_all, drop_more, get_or_default, get_or_read}
use Rattle.std.proofs.lemmas.Bool.{ltb-false}
use Rattle.std.proofs.lemmas.List.Elements.{All-append, All-cons, All-nil}
use Rattle.std.proofs.lemmas.List.Sums.{sum_by-append, sum_by-cons, sum_by-take-le, sum_by_more}
use Rattle.std.proofs.lemmas.Nat.{mul-le}
use Rattle.clear_money.specs.Calendar.{begun_months}
use Rattle.clear_account.specs.declared.entries.Charge.{Charge}
use Rattle.clear_account.specs.declared.entries.Credit.{Credit}
use Rattle.clear_account.specs.declared.settled.Share.{Share}
use Rattle.clear_account.specs.Account.{IsAccount, charge_at, charged_up_to, credit_at, credited_up_to, places}
use Rattle.clear_account.specs.Allocation.{open_part, paid_of, share}
use Rattle.clear_account.specs.Laws.{late_shares}
use Rattle.clear_account.specs.Settled.{share_at, shares_of}
use Rattle.clear_account.specs.Walk.{late_cents, shares_between}
use Rattle.clear_account.proofs.AccountLemmas.{charge_at_place, charged-le}
use Rattle.clear_account.proofs.OpenLemmas.{begun_months-le}
use Rattle.clear_account.proofs.ShareLemmas.{charged_up_to-more, paid_of-is}
use Rattle.clear_account.proofs.StretchLemmas.{at}

-- the shares of the stretch from s to e, the credits beginning at p and place n
abbrev pub shares_from : ℕ → ℕ → ℕ → ℕ → List Credit → List Share
shares_from s e p n [] = []
shares_from s e p n (k ∷ ks) = share_at n (min e (p + k.cents) - max s p) ++ shares_from s e (p + k.cents) (n + 1) ks

walk_from : (s e : ℕ) (all before ks : List Credit) (n p : ℕ) → all ≡ before ++ ks → n ≡ length before → p ≡ sum_by (λ k. k.cents) before → flat_map (λ j. share_at j (min e (credited_up_to all (j + 1)) - max s (credited_up_to all j))) (range_with_len n (length ks)) ≡ shares_from s e p n ks
walk_from s e all before [] n p is place sum = refl
walk_from s e all before (k ∷ ks) n p is place sum =
    let h = at (λ (k : Credit). k.cents) (record { day = 0; serial = 0; cents = 0 }) all before k ks n p is place sum in
    (λ i. share_at n (min e (h.end i) - max s (h.start i)) ++ walk_from s e all (before ++ k ∷ []) ks (n + 1) (p + k.cents) h.front h.place h.ends i)

pub shares_between-walk : (s e : ℕ) (ks : List Credit) → shares_between s e ks ≡ shares_from s e 0 0 ks
shares_between-walk s e ks = walk_from s e ks [] ks 0 0 refl refl refl

no_share : (n z : ℕ) → z ≡ 0 → share_at n z ≡ []
no_share n z is = ap (share_at n) is

-- credits that end where the stretch begins have no share
pub shares_from-skip : (s e p n j q m : ℕ) (ks : List Credit) → j ≤ length ks → q ≡ p + credited_up_to ks j → m ≡ n + j → q ≤ s → shares_from s e p n ks ≡ shares_from s e q m (drop j ks)
shares_from-skip s e p n zero q m ks within start place behind =
    (λ i. let begins : p ≡ q = omega arith in let number : n ≡ m = omega arith in shares_from s e (begins i) (number i) ks)
shares_from-skip s e p n (suc j) q m [] within start place behind = absurd (omega arith)
shares_from-skip s e p n (suc j) q m (k ∷ ks) within start place behind =
    let sum : credited_up_to (k ∷ ks) (suc j) ≡ k.cents + credited_up_to ks j = sum_by-cons (λ (l : Credit). l.cents) k (take j ks) in
    let none : min e (p + k.cents) - max s p ≡ 0 = omega arith in
    (λ i. no_share n (min e (p + k.cents) - max s p) none i ++ shares_from s e (p + k.cents) (n + 1) ks)
    ∙ shares_from-skip s e (p + k.cents) (n + 1) j q m ks (omega arith) (omega arith) (omega arith) behind

-- those that begin where it ends have none
pub shares_from-past : (s e p n : ℕ) (ks : List Credit) → e ≤ p → shares_from s e p n ks ≡ []
shares_from-past s e p n [] h = refl
shares_from-past s e p n (k ∷ ks) h =
    let none : min e (p + k.cents) - max s p ≡ 0 = omega arith in
    (λ i. no_share n (min e (p + k.cents) - max s p) none i ++ shares_from-past s e (p + k.cents) (n + 1) ks (omega arith) i)

-- a credit of m cents, with its share of z cents, leaves the walk along the rest
module _ (done items all : List Share) (s e p m z j : ℕ) (k : Credit) (ks : List Credit) (within : j < length ks) (is : k ≡ get_or ks j k) (amount : m ≡ k.cents) (share : z ≡ min e (p + m) - max s p) (added : items ≡ done ++ share_at j z) (so_far : done ++ shares_from s e p j (drop j ks) ≡ all) where
  pub share_step : items ++ shares_from s e (p + m) (j + 1) (drop (j + 1) ks) ≡ all
  share_step =
      let left : drop j ks ≡ k ∷ drop (j + 1) ks = drop_more ks j k within ∙ ap (λ x. x ∷ drop (j + 1) ks) (sym is) in
      let cents : z ≡ min e (p + k.cents) - max s p = share ∙ ap (λ n. min e (p + n) - max s p) amount in
      (λ i. added i ++ shares_from s e (p + amount i) (j + 1) (drop (j + 1) ks))
      ∙ (λ i. (done ++ share_at j (cents i)) ++ shares_from s e (p + k.cents) (j + 1) (drop (j + 1) ks))
      ∙ append_assoc done (share_at j (min e (p + k.cents) - max s p)) _
      ∙ ap (λ xs. done ++ shares_from s e p j xs) (sym left)
      ∙ so_far

  -- which ends where it reaches the end of the stretch
  pub share_last : e ≤ p + m → items ≡ all
  share_last h =
      sym (append-nil items)
      ∙ ap (λ xs. items ++ xs) (sym (shares_from-past s e (p + m) (j + 1) (drop (j + 1) ks) h))
      ∙ share_step

-- where all credits were walked
pub share_none : (items all : List Share) (s e p j : ℕ) (ks : List Credit) → length ks ≤ j → items ++ shares_from s e p j (drop j ks) ≡ all → items ≡ all
share_none items all s e p j ks done so_far =
    sym (append-nil items) ∙ ap (λ xs. items ++ shares_from s e p j xs) (sym (drop_all j ks done)) ∙ so_far

-- ---- a charge among the charges
-- a charge that begins where those before it end
pub ends_at : (cs : List Charge) (ks : List Credit) (i s : ℕ) (d : Charge) → IsAccount cs ks → i < length cs → d ≡ get_or cs i d → s ≡ charged_up_to cs i → s + d.cents ≡ charged_up_to cs (i + 1)
ends_at cs ks i s d a within is start =
    let charge : d ≡ charge_at cs i = get_or_read cs i d within is (record { month = 0; due = 0; cents = 0 }) in
    omega (arith, ap (λ (c : Charge). c.cents) charge, charged_up_to-more cs i within)

pub ends_low : (cs : List Charge) (ks : List Credit) (i s : ℕ) (d : Charge) → IsAccount cs ks → i < length cs → d ≡ get_or cs i d → s ≡ charged_up_to cs i → s + d.cents ≤ 12000000000000
ends_low cs ks i s d a within is start =
    omega (arith, ends_at cs ks i s d a within is start, charged-le cs ks a, sum_by-take-le (λ (c : Charge). c.cents) cs (i + 1))

-- ---- sums over shares
sum_by-flat_map : {X Y : Type 0} (f : Y → ℕ) (F : X → List Y) (g : X → ℕ) → ((x : X) → sum_by f (F x) ≡ g x) → (xs : List X) → sum_by f (flat_map F xs) ≡ sum_by g xs
sum_by-flat_map f F g same [] = refl
sum_by-flat_map f F g same (x ∷ xs) =
    sum_by-append f (F x) (flat_map F xs)
    ∙ (λ i. same x i + sum_by-flat_map f F g same xs i)
    ∙ sym (sum_by-cons g x xs)

-- a share of 0 cents, which no share is, counts nothing
sum_by-share_at_is : (g : ℕ → ℕ → ℕ) (n z : ℕ) (b : Bool) → g n 0 ≡ 0 → nat_lt 0 z ≡ b → sum_by (λ (s : Share). g s.place s.cents) (cond b (record { place = n; cents = z } ∷ []) []) ≡ g n z
sum_by-share_at_is g n z true none is = omega arith
sum_by-share_at_is g n z false none is = let zero_is : z ≡ 0 = omega (arith, ltb-false 0 z is) in sym (ap (g n) zero_is ∙ none)

sum_by-shares_of : (g : ℕ → ℕ → ℕ) → ((n : ℕ) → g n 0 ≡ 0) → (cs : List Charge) (ks : List Credit) (i : ℕ) → sum_by (λ (s : Share). g s.place s.cents) (shares_of cs ks i) ≡ sum_by (λ j. g j (share cs ks i j)) (places ks)
sum_by-shares_of g none cs ks i =
    sum_by-flat_map (λ (s : Share). g s.place s.cents) (λ j. share_at j (share cs ks i j)) (λ j. g j (share cs ks i j))
    (λ j. sum_by-share_at_is g j (share cs ks i j) (nat_lt 0 (share cs ks i j)) (none j) refl) (places ks)

-- late cents are no more than cents for all months
pub late_cents-le : (ks : List Credit) (due : ℕ) (ss : List Share) → sum_by (late_cents ks due) ss ≤ sum_by (λ (s : Share). s.cents) ss * 2412
late_cents-le ks due [] = omega arith
late_cents-le ks due (s ∷ ss) =
    omega (arith, sum_by-cons (late_cents ks due) s ss, sum_by-cons (λ (r : Share). r.cents) s ss, late_cents-le ks due ss, mul-le s.cents (begun_months due (credit_at ks s.place).day) s.cents 2412 (omega arith) (begun_months-le due (credit_at ks s.place).day))

-- one share more
pub late_cents-more : (ks : List Credit) (due i w z : ℕ) (k : Credit) (ss : List Share) → let r : Share = get_or ss i (record { place = 0; cents = 0 }) in i < length ss → r.place < length ks → z ≡ r.cents * begun_months due (get_or ks r.place k).day → w ≡ sum_by (late_cents ks due) (take i ss) → w + z ≡ sum_by (late_cents ks due) (take (i + 1) ss)
late_cents-more ks due i w z k ss within low part so_far =
    let r : Share = get_or ss i (record { place = 0; cents = 0 }) in
    let same : z ≡ late_cents ks due r = part ∙ ap (λ (l : Credit). r.cents * begun_months due l.day) (get_or_default ks r.place k (record { day = 0; serial = 0; cents = 0 }) low) in
    (λ j. so_far j + same j) ∙ sym (sum_by_more (late_cents ks due) ss i (record { place = 0; cents = 0 }) within)

pub late_cents-low : (ks : List Credit) (due i : ℕ) (ss : List Share) → sum_by (λ (s : Share). s.cents) ss ≤ 5000000000 → sum_by (late_cents ks due) (take i ss) ≤ 12060000000000
late_cents-low ks due i ss low =
    omega (arith, late_cents-le ks due (take i ss), sum_by-take-le (λ (s : Share). s.cents) ss i)

-- ---- the places of shares
share_within : (m n z : ℕ) (b : Bool) → n < m → All (λ (s : Share). s.place < m) (cond b (record { place = n; cents = z } ∷ []) [])
share_within m n z true low = All-cons (λ (s : Share). s.place < m) (record { place = n; cents = z }) [] low (All-nil (λ (s : Share). s.place < m))
share_within m n z false low = All-nil (λ (s : Share). s.place < m)

shares_within : (F : ℕ → ℕ) (m p n : ℕ) → p + n ≤ m → All (λ (s : Share). s.place < m) (flat_map (λ j. share_at j (F j)) (range_with_len p n))
shares_within F m p zero low = All-nil (λ (s : Share). s.place < m)
shares_within F m p (suc n) low =
    All-append (λ (s : Share). s.place < m) (share_at p (F p)) (flat_map (λ j. share_at j (F j)) (range_with_len (p + 1) n))
    (share_within m p (F p) (nat_lt 0 (F p)) (omega arith)) (shares_within F m (p + 1) n (omega arith))

-- each share is one of a payment
pub places-shares_of : (cs : List Charge) (ks : List Credit) (i : ℕ) → All (λ (s : Share). s.place < length ks) (shares_of cs ks i)
places-shares_of cs ks i = shares_within (λ j. share cs ks i j) (length ks) 0 (length ks) (omega arith)

-- ---- a charge that the walk has come to, and its shares
module _ (cs : List Charge) (ks : List Credit) (i s : ℕ) (d : Charge) (shares : List Share) (a : IsAccount cs ks) (within : i < length cs) (is : d ≡ get_or cs i d) (start : s ≡ charged_up_to cs i) (right : shares ≡ shares_between s (s + d.cents) ks) where
  charge_is : d ≡ charge_at cs i
  charge_is = get_or_read cs i d within is (record { month = 0; due = 0; cents = 0 })

  pub shares_are : shares ≡ shares_of cs ks i
  shares_are = right ∙ (λ j. shares_between (start j) (ends_at cs ks i s d a within is start j) ks)

  paid_is : sum_by (λ (r : Share). r.cents) shares ≡ paid_of cs ks i
  paid_is = ap (sum_by (λ (r : Share). r.cents)) shares_are ∙ sum_by-shares_of (λ n z. z) (λ n. refl) cs ks i

  pub paid-le : sum_by (λ (r : Share). r.cents) shares ≤ d.cents
  paid-le = omega (arith, paid_is, paid_of-is cs ks i within, ap (λ (c : Charge). c.cents) charge_is)

  pub paid-low : sum_by (λ (r : Share). r.cents) shares ≤ 5000000000
  paid-low = omega (arith, paid-le, (charge_at_place cs i a.each_charge within).cents, ap (λ (c : Charge). c.cents) charge_is)

  pub places_within : All (λ (r : Share). r.place < length ks) shares
  places_within = subst (λ (ss : List Share). All (λ r. r.place < length ks) ss) (sym shares_are) (places-shares_of cs ks i)

  pub left_is : (p : ℕ) → p ≡ sum_by (λ (r : Share). r.cents) shares → d.cents - p ≡ open_part cs ks i
  unfolding open_part
  left_is p sum = (λ j. (charge_is j).cents - (sum ∙ paid_is) j)

  pub late_is : sum_by (late_cents ks d.due) shares ≡ late_shares cs ks i
  late_is =
      (λ j. sum_by (late_cents ks (charge_is j).due) (shares_are j))
      ∙ sum_by-shares_of (λ n z. z * begun_months (charge_at cs i).due (credit_at ks n).day) (λ n. omega arith) cs ks i
