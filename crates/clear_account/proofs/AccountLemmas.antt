-- What holds of each account.
use Rattle.std.proofs.Common.{◌≡◌, ◌≢◌, ℕ, ◌+◌, ◌-◌, ◌<◌, ◌≤◌, Bool, true, false, List, [], ◌∷◌, ◌++◌, length, get_or, take, drop, set, zero, suc, nat_lt, cond, refl, sym, ap, subst, ◌∙◌, inl, inr, arith}
use Rattle.std.specs.Prelude.{Option, Some, None, ◌==◌}
use Rattle.std.specs.List.{All, AllPairs, filter, position_or_len}
use Rattle.std.specs.List.Sorted.{IsNonDecreasingBy}
use Rattle.std.specs.Option.{option_map, option_map_or}
use Rattle.std.proofs.Math.Nat.{eq-or-lt_of_le}
use Rattle.std.proofs.lemmas.Option.{slice_get-get_or}
use Rattle.std.proofs.lemmas.List.Sums.{position_or_len_is, sum_by-le}
use Rattle.std.proofs.lemmas.List.{length-take, length-drop, length-append, get_or-drop, get_or-take, get_or_default, set_split}
use Rattle.std.proofs.lemmas.List.Elements.{All-head, All-tail, All-drop, All-weaker}
use Rattle.std.proofs.lemmas.Bool.{cases_lt, cond-true, eq-eqb, le-ltb, lt-ltb, ltb-true, ne_eqb}
use Rattle.std.proofs.lemmas.Bool.Decides.{nat_tests}
use Rattle.clear_money.specs.Numbers.{IsAmount}
use Rattle.clear_account.specs.declared.entries.Charge.{Charge}
use Rattle.clear_account.specs.declared.entries.Credit.{Credit}
use Rattle.clear_account.specs.Account.{HoldsSerial, IsAccount, IsCharge, charge_at, charged, comes_before, credited, last_day, place_of, with_charge, with_credit}
use Rattle.clear_account.proofs.PlaceLemmas.{AllPairs-head, AllPairs-tail, AllPairs-with, AllPairs-with_either, All-with, filter_front, filter_back}

-- what holds of all holds of an element that was read
pub All-read : {X : Type 0} (P : X → Type 0) (xs : List X) (i : ℕ) (x : X) → All P xs → i < length xs → x ≡ get_or xs i x → P x
All-read P xs i x all lt is = subst P (sym is) (all i x lt)

pub charge_at_place : (cs : List Charge) (i : ℕ) → All IsCharge cs → i < length cs → IsCharge (charge_at cs i)
charge_at_place cs i all within = all i (record { month = 0; due = 0; cents = 0 }) within

-- rising numbers from a first to a last are no more than lie between
rising_few : {X : Type 0} (f : X → ℕ) (first last : ℕ) (xs : List X) → All (λ x. first ≤ f x) xs → All (λ x. f x ≤ last) xs → AllPairs (λ x y. f x < f y) xs → length xs ≤ last + 1 - first
rising_few f first last [] low high rise = omega arith
rising_few f first last (x ∷ xs) low high rise =
    let above : All (λ y. f x + 1 ≤ f y) xs = (λ k d lt. let step : f x < f _ = AllPairs-head (λ y z. f y < f z) x xs rise k d lt in omega arith) in
    let rest : length xs ≤ last + 1 - (f x + 1) = rising_few f (f x + 1) last xs above (All-tail (λ y. f y ≤ last) x xs high) (AllPairs-tail (λ y z. f y < f z) x xs rise) in
    omega (arith, All-head (λ y. first ≤ f y) x xs low, All-head (λ y. f y ≤ last) x xs high)

-- an account has at most 2,400 charges, since there are no more months
pub few_charges : (cs : List Charge) (ks : List Credit) → IsAccount cs ks → length cs ≤ 2400
few_charges cs ks a =
    rising_few (λ c. c.month) 24000 26399 cs (λ k d lt. (a.each_charge k d lt).month.0) (λ k d lt. (a.each_charge k d lt).month.1) a.months_rise

pub charged-le : (cs : List Charge) (ks : List Credit) → IsAccount cs ks → charged cs ≤ 12000000000000
charged-le cs ks a = omega (arith, few_charges cs ks a, sum_by-le (λ c. c.cents) 5000000000 cs (λ k d lt. (a.each_charge k d lt).cents))

pub credited-le : (cs : List Charge) (ks : List Credit) → IsAccount cs ks → credited ks ≤ 10000000000000000
credited-le cs ks a = omega (arith, a.few_credits, sum_by-le (λ k. k.cents) 100000000000 ks (λ k d lt. (a.each_credit k d lt).1))

-- ---- a charge in its place
module _ (c : Charge) (n : ℕ) (cs : List Charge) (rise : AllPairs (λ d e. d.month < e.month) cs) (before : All (λ d. d.month < c.month) (take n cs)) (from : All (λ d. c.month ≤ d.month) (drop n cs)) where
  earlier : All (λ d. nat_lt d.month c.month ≡ true) (take n cs)
  earlier = All-weaker (λ d. d.month < c.month) (λ d. nat_lt d.month c.month ≡ true) (λ d h. lt-ltb d.month c.month h) (take n cs) before

  not_earlier : All (λ d. nat_lt d.month c.month ≡ false) (drop n cs)
  not_earlier = All-weaker (λ d. c.month ≤ d.month) (λ d. nat_lt d.month c.month ≡ false) (λ d h. le-ltb d.month c.month h) (drop n cs) from

  not_later : All (λ d. nat_lt c.month d.month ≡ false) (take n cs)
  not_later = All-weaker (λ d. d.month < c.month) (λ d. nat_lt c.month d.month ≡ false) (λ d h. le-ltb c.month d.month (omega arith)) (take n cs) before

  at_place : (d : Charge) → get_or (drop n cs) 0 d ≡ get_or cs n d
  at_place d = get_or-drop n cs 0 d ∙ ap (λ m. get_or cs m d) (omega arith)

  later : ((d : Charge) → n < length cs → (get_or cs n d).month ≢ c.month) → (k : ℕ) (d : Charge) → k < length (drop n cs) → c.month < (get_or (drop n cs) k d).month
  later other zero d lt =
      let here : (get_or (drop n cs) 0 d).month ≡ (get_or cs n d).month = ap (λ e. e.month) (at_place d) in
      let low : c.month ≤ (get_or (drop n cs) 0 d).month = from 0 d lt in
      let differs : (get_or cs n d).month ≢ c.month = other d (omega (arith, length-drop n cs)) in
      omega arith
  later other (suc k) d lt =
      let here : (get_or (drop n cs) 0 d).month ≡ (get_or cs n d).month = ap (λ e. e.month) (at_place d) in
      let there : (get_or (drop n cs) (suc k) d).month ≡ (get_or cs (n + suc k) d).month = ap (λ e. e.month) (get_or-drop n cs (suc k) d) in
      let low : c.month ≤ (get_or (drop n cs) 0 d).month = from 0 d (omega arith) in
      let step : (get_or cs n d).month < (get_or cs (n + suc k) d).month = rise n (n + suc k) d (omega arith) (omega (arith, length-drop n cs)) in
      omega arith

  -- where the month has no charge yet
  pub with_charge_new : ((d : Charge) → n < length cs → (get_or cs n d).month ≢ c.month) → take n cs ++ c ∷ drop n cs ≡ with_charge c cs
  with_charge_new other =
      let back : All (λ d. nat_lt c.month d.month ≡ true) (drop n cs) = (λ k d lt. lt-ltb c.month (get_or (drop n cs) k d).month (later other k d lt)) in
      (λ i. sym (filter_front (λ d. nat_lt d.month c.month) n cs earlier not_earlier) i ++ c ∷ sym (filter_back (λ d. nat_lt c.month d.month) n cs not_later back) i)

  up_to_place : ((d : Charge) → (get_or cs n d).month ≡ c.month) → n < length cs → All (λ d. nat_lt c.month d.month ≡ false) (take (suc n) cs)
  up_to_place same within k d lt =
      let low : k < suc n = omega (arith, length-take (suc n) cs) in
      let is : (get_or (take (suc n) cs) k d).month ≡ (get_or cs k d).month = ap (λ e. e.month) (get_or-take (suc n) cs k d low) in
      elim (cases_lt k n) [
        | inl less ↦
            let step : (get_or cs k d).month < (get_or cs n d).month = rise k n d less within in
            le-ltb c.month (get_or (take (suc n) cs) k d).month (omega (arith, same d))
        | inr more ↦
            let here : (get_or cs k d).month ≡ (get_or cs n d).month = ap (λ m. (get_or cs m d).month) (omega arith) in
            le-ltb c.month (get_or (take (suc n) cs) k d).month (omega (arith, same d))
      ]

  beyond_place : ((d : Charge) → (get_or cs n d).month ≡ c.month) → All (λ d. nat_lt c.month d.month ≡ true) (drop (suc n) cs)
  beyond_place same k d lt =
      let is : (get_or (drop (suc n) cs) k d).month ≡ (get_or cs (suc n + k) d).month = ap (λ e. e.month) (get_or-drop (suc n) cs k d) in
      let step : (get_or cs n d).month < (get_or cs (suc n + k) d).month = rise n (suc n + k) d (omega arith) (omega (arith, length-drop (suc n) cs)) in
      lt-ltb c.month (get_or (drop (suc n) cs) k d).month (omega (arith, same d))

  -- where it has one
  pub with_charge_again : n < length cs → ((d : Charge) → (get_or cs n d).month ≡ c.month) → set cs n c ≡ with_charge c cs
  with_charge_again within same =
      set_split cs n c within
      ∙ (λ i. sym (filter_front (λ d. nat_lt d.month c.month) n cs earlier not_earlier) i ++ c ∷ sym (filter_back (λ d. nat_lt c.month d.month) (suc n) cs (up_to_place same within) (beyond_place same)) i)

pub IsAccount-with_charge : (c : Charge) (cs : List Charge) (ks : List Credit) → IsCharge c → IsAccount cs ks → IsAccount (with_charge c cs) ks
IsAccount-with_charge c cs ks one a = record {
  each_charge = All-with IsCharge (λ d. nat_lt d.month c.month) (λ d. nat_lt c.month d.month) c cs one a.each_charge;
  months_rise = AllPairs-with (λ d e. d.month < e.month) (λ x y z g h. omega arith) (λ d. nat_lt d.month c.month) (λ d. nat_lt c.month d.month) c (λ y h. ltb-true y.month c.month h) (λ y h. ltb-true c.month y.month h) cs a.months_rise;
  each_credit = a.each_credit;
  credits_rise = a.credits_rise;
  serials_differ = a.serials_differ;
  few_credits = a.few_credits;
}

-- ---- a credit in its place
-- days and serials compare as numbers do
pub before_trans : (k l m : Credit) → comes_before k l ≡ true → comes_before l m ≡ true → comes_before k m ≡ true
before_trans k l m g h = grind (arith, nat_tests)

pub before_not_after : (k l : Credit) → comes_before k l ≡ true → comes_before l k ≡ false
before_not_after k l h = grind (arith, nat_tests)

before_or_after : (k l : Credit) → (k.serial ≢ l.serial) → comes_before k l ≡ false → comes_before l k ≡ true
before_or_after k l differ h = grind (arith, nat_tests)

pub other_serials : (serial : ℕ) (ks : List Credit) → ¬ HoldsSerial ks serial → All (λ k. k.serial ≢ serial) ks
other_serials serial ks none i d lt same = none (i, get_or ks i d, lt, get_or_default ks i (get_or ks i d) d lt, same)

pub with_credit_new : (k : Credit) (n : ℕ) (ks : List Credit) → All (λ l. comes_before l k ≡ true) (take n ks) → All (λ l. comes_before l k ≡ false) (drop n ks) → ¬ HoldsSerial ks k.serial → take n ks ++ k ∷ drop n ks ≡ with_credit k ks
with_credit_new k n ks before from none =
    let not_after : All (λ l. comes_before k l ≡ false) (take n ks) = All-weaker (λ l. comes_before l k ≡ true) (λ l. comes_before k l ≡ false) (λ l h. before_not_after l k h) (take n ks) before in
    let after : All (λ l. comes_before k l ≡ true) (drop n ks) = (λ i d lt. before_or_after (get_or (drop n ks) i d) k (All-drop (λ l. l.serial ≢ k.serial) n ks (other_serials k.serial ks none) i d lt) (from i d lt)) in
    (λ i. sym (filter_front (λ l. comes_before l k) n ks before from) i ++ k ∷ sym (filter_back (λ l. comes_before k l) n ks not_after after) i)

-- two tests that exclude each other pass no more than all
exclusive_step : {X : Type 0} (p q : X → Bool) (x : X) (xs : List X) (u v : Bool) → p x ≡ u → q x ≡ v → (u ≡ true → v ≡ false) → length (filter p xs) + length (filter q xs) ≤ length xs → length (filter p (x ∷ xs)) + length (filter q (x ∷ xs)) ≤ suc (length xs)
exclusive_step p q x xs true true p_is q_is apart rest = let no : true ≡ false = apart refl in cc
exclusive_step p q x xs true false p_is q_is apart rest =
    let one : length (filter p (x ∷ xs)) ≡ suc (length (filter p xs)) = ap (λ b. length (cond b (x ∷ filter p xs) (filter p xs))) p_is in
    let none : length (filter q (x ∷ xs)) ≡ length (filter q xs) = ap (λ b. length (cond b (x ∷ filter q xs) (filter q xs))) q_is in
    omega arith
exclusive_step p q x xs false v p_is q_is apart rest =
    let none : length (filter p (x ∷ xs)) ≡ length (filter p xs) = ap (λ b. length (cond b (x ∷ filter p xs) (filter p xs))) p_is in
    let most : length (filter q (x ∷ xs)) ≤ suc (length (filter q xs)) = elim v as (λ w. q x ≡ w → length (filter q (x ∷ xs)) ≤ suc (length (filter q xs))) [
      | true ↦ λ e. omega (arith, ap (λ b. length (cond b (x ∷ filter q xs) (filter q xs))) e)
      | false ↦ λ e. omega (arith, ap (λ b. length (cond b (x ∷ filter q xs) (filter q xs))) e)
    ] q_is in
    omega arith

exclusive : {X : Type 0} (p q : X → Bool) → ((x : X) → p x ≡ true → q x ≡ false) → (xs : List X) → length (filter p xs) + length (filter q xs) ≤ length xs
exclusive p q apart [] = omega arith
exclusive p q apart (x ∷ xs) = exclusive_step p q x xs (p x) (q x) refl refl (apart x) (exclusive p q apart xs)

pub IsAccount-with_credit : (k : Credit) (cs : List Charge) (ks : List Credit) → IsAmount k.cents → ¬ HoldsSerial ks k.serial → length ks < 100000 → IsAccount cs ks → IsAccount cs (with_credit k ks)
IsAccount-with_credit k cs ks one fresh room a = record {
  each_charge = a.each_charge;
  months_rise = a.months_rise;
  each_credit = All-with (λ l. IsAmount l.cents) (λ l. comes_before l k) (λ l. comes_before k l) k ks one a.each_credit;
  credits_rise = AllPairs-with (λ l m. comes_before l m ≡ true) before_trans (λ l. comes_before l k) (λ l. comes_before k l) k (λ l h. h) (λ l h. h) ks a.credits_rise;
  serials_differ =
      AllPairs-with_either (λ l m. l.serial ≢ m.serial) (λ l m h. λ same. h (sym same)) (λ l. comes_before l k) (λ l. comes_before k l) (λ l h. before_not_after l k h) k ks
      (All-weaker (λ l. l.serial ≢ k.serial) (λ l. k.serial ≢ l.serial) (λ l h. λ same. h (sym same)) ks (other_serials k.serial ks fresh)) a.serials_differ;
  few_credits = omega (arith, length-append (filter (λ l. comes_before l k) ks) (k ∷ filter (λ l. comes_before k l) ks), exclusive (λ l. comes_before l k) (λ l. comes_before k l) (λ l h. before_not_after l k h) ks);
}

-- ---- looking up
-- the month of a charge stands at the charge's place alone
pub place_of-at : (cs : List Charge) (i : ℕ) (d : Charge) → AllPairs (λ c e. c.month < e.month) cs → i < length cs → place_of cs (get_or cs i d).month ≡ Some i
place_of-at cs i d rise within =
    let month : ℕ = (get_or cs i d).month in
    let is : position_or_len (λ (c : Charge). c.month == month) cs ≡ i =
    position_or_len_is (λ (c : Charge). c.month == month) cs i d (omega arith)
    (λ k lt. ne_eqb (get_or cs k d).month month (let step : (get_or cs k d).month < (get_or cs i d).month = rise k i d lt within in λ same. omega arith))
    (λ _. eq-eqb (get_or cs i d).month month refl) in
    ap (λ n. cond (nat_lt n (length cs)) (Some n) None) is ∙ cond-true (nat_lt i (length cs)) (Some i) None (lt-ltb i (length cs) within)

-- so what is looked up by the month of charge i is that of place i
pub looked_up : {X : Type 0} (cs : List Charge) (i : ℕ) (c : Charge) (f : ℕ → X) (o : Option X) → AllPairs (λ d e. d.month < e.month) cs → i < length cs → charge_at cs i ≡ c → o ≡ option_map f (place_of cs c.month) → o ≡ Some (f i)
looked_up cs i c f o rise within is found =
    found ∙ ap (λ d. option_map f (place_of cs d.month)) (sym is) ∙ ap (option_map f) (place_of-at cs i (record { month = 0; due = 0; cents = 0 }) rise within)

-- ---- days
before_day : (k l : Credit) → comes_before k l ≡ true → k.day ≤ l.day
before_day k l h = grind (arith, nat_tests)

pub days_rise : (ks : List Credit) → AllPairs (λ k l. comes_before k l ≡ true) ks → IsNonDecreasingBy (λ k. k.day) ks
days_rise ks rise i j d le within =
    elim (eq-or-lt_of_le le) [
      | inl same ↦ let here : (get_or ks i d).day ≡ (get_or ks j d).day = ap (λ n. (get_or ks n d).day) same in omega arith
      | inr less ↦ before_day (get_or ks i d) (get_or ks j d) (rise i j d less within)
    ]

-- no credit is later than the last
pub up_to_last_day : (ks : List Credit) (t : ℕ) → AllPairs (λ k l. comes_before k l ≡ true) ks → last_day ks ≤ t → All (λ k. k.day ≤ t) ks
up_to_last_day ks t rise late i d within =
    let last : ℕ = length ks - 1 in
    let is : last_day ks ≡ (get_or ks last d).day = ap (λ o. option_map_or (λ (k : Credit). k.day) o 10957) (slice_get-get_or ks last d (omega arith)) in
    let step : (get_or ks i d).day ≤ (get_or ks last d).day = days_rise ks rise i last d (omega arith) (omega arith) in
    omega arith
