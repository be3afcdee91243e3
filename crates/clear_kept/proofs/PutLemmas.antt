-- What is put in or taken out leaves what comes before it.
use Rattle.std.proofs.Common.{◌≡◌, ◌≢◌, ℕ, ◌<◌, ◌≤◌, Bool, true, false, cond, nat_lt, take, drop, List, [], ◌∷◌, ◌++◌, refl, sym, ap, ◌∙◌, arith}
use Rattle.std.specs.Prelude.{◌==◌, not}
use Rattle.std.specs.List.{All, filter}
use Rattle.std.proofs.lemmas.Bool.{eqb-true, le-ltb, lt-ltb, ltb-true}
use Rattle.clear_account.proofs.PlaceLemmas.{filter_all, filter_front, filter_none}
use Rattle.std.proofs.lemmas.Bool.Decides.{nat_tests}
use Rattle.std.proofs.lemmas.List.{append-nil}
use Rattle.std.proofs.lemmas.List.Elements.{All-cons, All-head, All-tail, All-weaker, filter-append, filter_passes}
use Rattle.clear_account.specs.declared.entries.Charge.{Charge}
use Rattle.clear_account.specs.declared.entries.Credit.{Credit}
use Rattle.clear_account.specs.Account.{comes_before}
use Rattle.clear_account.proofs.AccountLemmas.{other_serials}
use Rattle.clear_kept.specs.Changes.{ChargePut, CreditPut, CreditTaken, charges_before, credits_before}
use Rattle.clear_kept.proofs.LawLemmas.{credits_from, credits_parted}

-- filters that agree on a list
pub filter_same : {X : Type 0} (p q : X → Bool) (xs : List X) → All (λ x. p x ≡ q x) xs → filter p xs ≡ filter q xs
filter_same p q [] all = refl
filter_same p q (x ∷ xs) all =
    (λ i. cond (All-head (λ y. p y ≡ q y) x xs all i) (x ∷ filter_same p q xs (All-tail (λ y. p y ≡ q y) x xs all) i) (filter_same p q xs (All-tail (λ y. p y ≡ q y) x xs all) i))

-- a filter of a filter that passes no less
filter_step : {X : Type 0} (p r : X → Bool) (x : X) (xs : List X) (u v : Bool) → p x ≡ u → r x ≡ v → (v ≡ false → u ≡ false) → filter p xs ≡ filter p (filter r xs) → filter p (x ∷ xs) ≡ filter p (filter r (x ∷ xs))
filter_step p r x xs u true p_is r_is less rest =
    ap (λ ys. cond (p x) (x ∷ ys) ys) rest
    ∙ ap (λ b. filter p (cond b (x ∷ filter r xs) (filter r xs))) (sym r_is)
filter_step p r x xs u false p_is r_is less rest =
    ap (λ b. cond b (x ∷ filter p xs) (filter p xs)) (p_is ∙ less refl)
    ∙ rest
    ∙ ap (λ b. filter p (cond b (x ∷ filter r xs) (filter r xs))) (sym r_is)

pub filter_twice : {X : Type 0} (p r : X → Bool) (xs : List X) → All (λ x. r x ≡ false → p x ≡ false) xs → filter p xs ≡ filter p (filter r xs)
filter_twice p r [] all = refl
filter_twice p r (x ∷ xs) all =
    filter_step p r x xs (p x) (r x) refl refl (All-head (λ y. r y ≡ false → p y ≡ false) x xs all)
    (filter_twice p r xs (All-tail (λ y. r y ≡ false → p y ≡ false) x xs all))

-- ---- the laws
pub charge_put : ChargePut
charge_put c cs =
    let p : Charge → Bool = λ (d : Charge). nat_lt d.month c.month in
    let q : Charge → Bool = λ (d : Charge). nat_lt c.month d.month in
    let none : filter p (c ∷ filter q cs) ≡ [] =
    filter_none p (c ∷ filter q cs) (All-cons (λ d. p d ≡ false) c (filter q cs) (le-ltb c.month c.month (omega arith))
    (All-weaker (λ d. q d ≡ true) (λ d. p d ≡ false) (λ d is. let less : c.month < d.month = ltb-true c.month d.month is in le-ltb d.month c.month (omega arith)) (filter q cs) (filter_passes q cs))) in
    sym (filter-append p (filter p cs) (c ∷ filter q cs)
    ∙ (λ i. filter_all p (filter p cs) (filter_passes p cs) i ++ none i)
    ∙ append-nil (filter p cs))

same_side : (k l : Credit) → l.serial ≢ k.serial → not (comes_before l k) ≡ comes_before k l
same_side k l differ = grind (arith, nat_tests)

pub credit_put : CreditPut
credit_put k first ks rise fresh later =
    let p : Credit → Bool = λ (l : Credit). comes_before l first in
    let after : credits_from k ks ≡ filter (λ l. comes_before k l) ks =
    filter_same (λ (l : Credit). not (comes_before l k)) (λ l. comes_before k l) ks (All-weaker (λ l. l.serial ≢ k.serial) (λ l. not (comes_before l k) ≡ comes_before k l) (λ l. same_side k l) ks (other_serials k.serial ks fresh)) in
    ap (filter p) (credits_parted k ks rise)
    ∙ filter-append p (credits_before k ks) (credits_from k ks)
    ∙ ap (λ ys. filter p (credits_before k ks) ++ filter p ys) after
    ∙ ap (λ b. filter p (credits_before k ks) ++ cond b (k ∷ filter p (filter (λ l. comes_before k l) ks)) (filter p (filter (λ l. comes_before k l) ks))) (sym later)
    ∙ sym (filter-append p (credits_before k ks) (k ∷ filter (λ l. comes_before k l) ks))

shown : (v : Bool) → not v ≡ false → v ≡ true
shown true is = refl
shown false is = sym is

pub credit_taken : CreditTaken
credit_taken serial first ks all =
    filter_twice (λ (l : Credit). comes_before l first) (λ l. not (l.serial == serial)) ks
    (All-weaker (λ l. l.serial ≡ serial → comes_before l first ≡ false) (λ l. not (l.serial == serial) ≡ false → comes_before l first ≡ false) (λ l is gone. is (eqb-true l.serial serial (shown (l.serial == serial) gone))) ks all)

-- ---- the front of a list
pub front_charges : (month n : ℕ) (cs : List Charge) → All (λ c. c.month < month) (take n cs) → All (λ c. month ≤ c.month) (drop n cs) → charges_before month cs ≡ take n cs
front_charges month n cs sooner later =
    filter_front (λ (c : Charge). nat_lt c.month month) n cs
    (All-weaker (λ c. c.month < month) (λ c. nat_lt c.month month ≡ true) (λ c h. lt-ltb c.month month h) (take n cs) sooner)
    (All-weaker (λ c. month ≤ c.month) (λ c. nat_lt c.month month ≡ false) (λ c h. le-ltb c.month month h) (drop n cs) later)
