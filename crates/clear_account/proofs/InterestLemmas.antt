-- Interest in small cases.
use Rattle.std.proofs.Common.{◌≡◌, ◌≢◌, ℕ, ◌+◌, ◌-◌, ◌*◌, ◌/◌, ◌<◌, ◌≤◌, true, List, [], ◌∷◌, length, refl, sym, ap, ◌∙◌, arith}
use Rattle.std.specs.Prelude.{Some}
use Rattle.std.specs.List.{All, AllPairs}
use Rattle.std.specs.Option.{option_map_or}
use Rattle.std.proofs.lemmas.Bool.Decides.{nat_tests}
use Rattle.std.proofs.lemmas.Nat.{div-mul-add}
use Rattle.std.proofs.lemmas.List.Elements.{All-cons, All-nil}
use Rattle.std.proofs.lemmas.List.Kept.{AllPairs-cons}
use Rattle.clear_money.specs.Calendar.{IsMonth, begun_months, day_in, day_of_month}
use Rattle.clear_money.specs.Numbers.{IsAmount}
use Rattle.clear_money.specs.Rates.{Rate, rate_in_force}
use Rattle.clear_money.proofs.BegunLemmas.{begun_months-behind}
use Rattle.clear_money.proofs.MonthLemmas.{day_in-place, day_of_month-day_in, first_day-later, month_length_bounds}
use Rattle.clear_account.specs.declared.entries.Charge.{Charge}
use Rattle.clear_account.specs.declared.entries.Credit.{Credit}
use Rattle.clear_account.specs.Account.{IsAccount, IsCharge, charge_at, comes_before}
use Rattle.clear_account.specs.Allocation.{open_part, paid_of}
use Rattle.clear_account.specs.Interest.{interest_on, weight_on}
use Rattle.clear_account.specs.Laws.{InterestByCharge, InterestPerHundred, InterestRoundedOnce, charge_of, third_in}
use Rattle.clear_account.proofs.OpenLemmas.{weight_on-is}

-- ---- days
day_of_charge : (m : ℕ) → IsMonth m → day_of_month (day_in (m + 1) 20) ≡ 20
day_of_charge m h =
    day_of_month-day_in (m + 1) 20 (omega (arith, h.0)) (omega (arith, h.1)) (omega arith) (omega (arith, (month_length_bounds (m + 1)).0))

later_day : (m n : ℕ) → IsMonth m → m < n → day_in m 21 < day_in n 21
later_day m n h lt =
    omega (arith, h.0, day_in-place m 21 h.0 (omega arith), day_in-place n 21 (omega (arith, h.0)) (omega arith), first_day-later m n h.0 lt, (month_length_bounds m).0)

-- from the 20th of a month up to the 21st of one that is no earlier
begun : (m n c : ℕ) → IsMonth m → IsMonth n → m ≤ n → c ≡ n - m + 1 → begun_months (day_in m 20) (day_in n 21) ≡ c
begun m n c im in_ le is =
    let there : m + (n - m) ≡ n = omega arith in
    ap (λ x. begun_months (day_in m 20) (day_in x 21)) (sym there)
    ∙ begun_months-behind m (n - m) 20 21 im (omega (arith, im.0, in_.1), omega (arith, in_.1)) (omega arith, omega arith) (omega arith, omega arith) (omega arith)
    ∙ sym is

-- ---- accounts
is_charge : (m cents : ℕ) → IsMonth m → cents ≤ 5000000000 → IsCharge (charge_of m cents)
is_charge m cents h le = record { month = h; due = omega (arith, day_of_charge m h); cents = le }

AllPairs-nil : {X : Type 0} (R : X → X → Type 0) → AllPairs R []
AllPairs-nil R i j d lt within = absurd (omega arith)

AllPairs-one : {X : Type 0} (R : X → X → Type 0) (x : X) → AllPairs R (x ∷ [])
AllPairs-one R x = AllPairs-cons R x [] (All-nil (R x)) (AllPairs-nil R)

AllPairs-two : {X : Type 0} (R : X → X → Type 0) (x y : X) → R x y → AllPairs R (x ∷ y ∷ [])
AllPairs-two R x y h = AllPairs-cons R x (y ∷ []) (All-cons (R x) y [] h (All-nil (R x))) (AllPairs-one R y)

All-three : {X : Type 0} (P : X → Type 0) (x y z : X) → P x → P y → P z → All P (x ∷ y ∷ z ∷ [])
All-three P x y z a b c = All-cons P x (y ∷ z ∷ []) a (All-cons P y (z ∷ []) b (All-cons P z [] c (All-nil P)))

AllPairs-three : {X : Type 0} (R : X → X → Type 0) (x y z : X) → R x y → R x z → R y z → AllPairs R (x ∷ y ∷ z ∷ [])
AllPairs-three R x y z a b c =
    AllPairs-cons R x (y ∷ z ∷ []) (All-cons (R x) y (z ∷ []) a (All-cons (R x) z [] b (All-nil (R x)))) (AllPairs-two R y z c)

before : (k l : Credit) → k.day < l.day → comes_before k l ≡ true
before k l lt = grind (arith, nat_tests)

thirds : ℕ → List Credit
thirds m = third_in (m + 1) 1 ∷ third_in (m + 2) 2 ∷ third_in (m + 3) 3 ∷ []

account_of_thirds : (m : ℕ) → IsMonth m → IsMonth (m + 3) → IsAccount (charge_of m 99 ∷ []) (thirds m)
unfolding thirds
account_of_thirds m h last =
    let second : IsMonth (m + 1) = (omega (arith, h.0), omega (arith, last.1)) in
    let third : IsMonth (m + 2) = (omega (arith, h.0), omega (arith, last.1)) in
    record {
      each_charge = All-cons IsCharge (charge_of m 99) [] (is_charge m 99 h (omega arith)) (All-nil IsCharge);
      months_rise = AllPairs-one (λ c d. c.month < d.month) (charge_of m 99);
      each_credit = All-three (λ k. IsAmount k.cents) _ _ _ (omega arith, omega arith) (omega arith, omega arith) (omega arith, omega arith);
      credits_rise = AllPairs-three (λ k l. comes_before k l ≡ true) (third_in (m + 1) 1) (third_in (m + 2) 2) (third_in (m + 3) 3)
          (before (third_in (m + 1) 1) (third_in (m + 2) 2) (later_day (m + 1) (m + 2) second (omega arith)))
          (before (third_in (m + 1) 1) (third_in (m + 3) 3) (later_day (m + 1) (m + 3) second (omega arith)))
          (before (third_in (m + 2) 2) (third_in (m + 3) 3) (later_day (m + 2) (m + 3) third (omega arith)));
      serials_differ = AllPairs-three (λ k l. k.serial ≢ l.serial) (third_in (m + 1) 1) (third_in (m + 2) 2) (third_in (m + 3) 3) (λ e. omega arith) (λ e. omega arith) (λ e. omega arith);
      few_credits = omega arith;
    }

-- an account without payments
account_of : (cs : List Charge) → All IsCharge cs → AllPairs (λ c d. c.month < d.month) cs → IsAccount cs []
account_of cs each rise = record {
  each_charge = each;
  months_rise = rise;
  each_credit = All-nil (λ k. IsAmount k.cents);
  credits_rise = AllPairs-nil (λ k l. comes_before k l ≡ true);
  serials_differ = AllPairs-nil (λ k l. k.serial ≢ l.serial);
  few_credits = omega arith;
}

-- ---- weights
weight_of_thirds : (m day : ℕ) → IsMonth m → IsMonth (m + 3) → day_in (m + 3) 21 ≤ day → weight_on (charge_of m 99 ∷ []) (thirds m) 0 day ≡ 198
unfolding thirds open_part
weight_of_thirds m day h last le =
    let second : IsMonth (m + 1) = (omega (arith, h.0), omega (arith, last.1)) in
    let third : IsMonth (m + 2) = (omega (arith, h.0), omega (arith, last.1)) in
    let early : All (λ (k : Credit). k.day ≤ day) (thirds m) = All-three (λ (k : Credit). k.day ≤ day) (third_in (m + 1) 1) (third_in (m + 2) 2) (third_in (m + 3) 3)
    (omega (arith, later_day (m + 1) (m + 3) second (omega arith)))
    (omega (arith, later_day (m + 2) (m + 3) third (omega arith)))
    le in
    let due : ℕ = day_in (m + 1) 20 in
    let parts : weight_on (charge_of m 99 ∷ []) (thirds m) 0 day ≡ 33 * begun_months due (day_in (m + 1) 21) + (33 * begun_months due (day_in (m + 2) 21) + (33 * begun_months due (day_in (m + 3) 21) + 0)) + 0 * begun_months due day =
    weight_on-is (charge_of m 99 ∷ []) (thirds m) 0 day (account_of_thirds m h last) (omega arith) early in
    omega (arith, parts, begun (m + 1) (m + 1) 1 second second (omega arith) (omega arith), begun (m + 1) (m + 2) 2 second third (omega arith) (omega arith), begun (m + 1) (m + 3) 3 second last (omega arith) (omega arith))

-- of a charge of which nothing is paid
open_unpaid : (cs : List Charge) (i : ℕ) → open_part cs [] i ≡ (charge_at cs i).cents
unfolding open_part
open_unpaid cs i = let none : paid_of cs [] i ≡ 0 = refl in omega (arith, none)

weight_unpaid : (cs : List Charge) (i day : ℕ) → IsAccount cs [] → i < length cs → weight_on cs [] i day ≡ (charge_at cs i).cents * begun_months (charge_at cs i).due day
weight_unpaid cs i day a within =
    weight_on-is cs [] i day a within (All-nil (λ (k : Credit). k.day ≤ day))
    ∙ ap (λ n. 0 + n * begun_months (charge_at cs i).due day) (open_unpaid cs i)
    ∙ omega arith

-- ---- interest
interest-of : (rates : List Rate) (row : Rate) (cs : List Charge) (ks : List Credit) (i day w : ℕ) → weight_on cs ks i day ≡ w → rate_in_force rates (charge_at cs i).month ≡ Some row → interest_on rates cs ks i day ≡ w * row.interest_rate / 10000
interest-of rates row cs ks i day w weight is =
    λ n. weight n * option_map_or (λ (r : Rate). r.interest_rate) (is n) 0 / 10000

pub interest_rounded_once : InterestRoundedOnce
unfolding thirds
interest_rounded_once rates row m day h last le is rate =
    interest-of rates row (charge_of m 99 ∷ []) (thirds m) 0 day 198 (weight_of_thirds m day h last le) is
    ∙ ap (λ r. 198 * r / 10000) rate

-- two charges of which nothing is paid
account_of_two : (m : ℕ) → IsMonth m → IsMonth (m + 3) → IsAccount (charge_of m 99 ∷ charge_of (m + 1) 99 ∷ []) []
account_of_two m h last =
    let second : IsMonth (m + 1) = (omega (arith, h.0), omega (arith, last.1)) in
    account_of (charge_of m 99 ∷ charge_of (m + 1) 99 ∷ [])
    (All-cons IsCharge (charge_of m 99) (charge_of (m + 1) 99 ∷ []) (is_charge m 99 h (omega arith)) (All-cons IsCharge (charge_of (m + 1) 99) [] (is_charge (m + 1) 99 second (omega arith)) (All-nil IsCharge)))
    (AllPairs-two (λ c d. c.month < d.month) (charge_of m 99) (charge_of (m + 1) 99) (omega arith))

pub interest_by_charge : InterestByCharge
interest_by_charge rates row next m h last is rate is_next next_rate =
    let second : IsMonth (m + 1) = (omega (arith, h.0), omega (arith, last.1)) in
    let third : IsMonth (m + 1 + 1) = (omega (arith, h.0), omega (arith, last.1)) in
    let cs : List Charge = charge_of m 99 ∷ charge_of (m + 1) 99 ∷ [] in
    let day : ℕ = day_in (m + 3) 21 in
    let account : IsAccount cs [] = account_of_two m h last in
    let first_weight : weight_on cs [] 0 day ≡ 297 = weight_unpaid cs 0 day account (omega arith) ∙ ap (λ n. 99 * n) (begun (m + 1) (m + 3) 3 second last (omega arith) (omega arith)) in
    let next_weight : weight_on cs [] 1 day ≡ 198 = weight_unpaid cs 1 day account (omega arith) ∙ ap (λ n. 99 * n) (begun (m + 1 + 1) (m + 3) 2 third last (omega arith) (omega arith)) in
    let first_interest : interest_on rates cs [] 0 day ≡ 2 = interest-of rates row cs [] 0 day 297 first_weight is ∙ ap (λ r. 297 * r / 10000) rate in
    let next_interest : interest_on rates cs [] 1 day ≡ 3 = interest-of rates next cs [] 1 day 198 next_weight is_next ∙ ap (λ r. 198 * r / 10000) next_rate in
    (λ n. 0 + first_interest n + next_interest n)

per_hundred : (n k r : ℕ) → n * 10000 * k * r / 10000 ≡ n * k * r
per_hundred n k r =
    let turned : n * 10000 * k * r ≡ n * k * r * 10000 + 0 = omega arith in
    ap (λ x. x / 10000) turned ∙ div-mul-add (n * k * r) 10000 0 (omega arith)

pub interest_per_hundred : InterestPerHundred
interest_per_hundred rates row m k n h last some few is =
    let cs : List Charge = charge_of m (n * 10000) ∷ [] in
    let day : ℕ = day_in (m + k) 21 in
    let second : IsMonth (m + 1) = (omega (arith, h.0), omega (arith, last.1)) in
    let account : IsAccount cs [] = account_of cs (All-cons IsCharge (charge_of m (n * 10000)) [] (is_charge m (n * 10000) h (omega arith)) (All-nil IsCharge)) (AllPairs-one (λ c d. c.month < d.month) (charge_of m (n * 10000))) in
    let weight : weight_on cs [] 0 day ≡ n * 10000 * k = weight_unpaid cs 0 day account (omega arith) ∙ ap (λ b. n * 10000 * b) (begun (m + 1) (m + k) k second last (omega arith) (omega arith)) in
    interest-of rates row cs [] 0 day (n * 10000 * k) weight is ∙ per_hundred n k row.interest_rate
