-- An element put in its place in a rising list.
use Rattle.std.proofs.Common.{◌≡◌, ℕ, ◌+◌, ◌<◌, Bool, true, false, cond, List, [], ◌∷◌, ◌++◌, length, get_or, take, drop, suc, refl, sym, ap, subst, ◌∙◌, inl, inr, arith}
use Rattle.std.specs.List.{All, AllPairs, AllWithin, filter}
use Rattle.std.specs.List.Sorted.{IsPartitionedBy}
use Rattle.std.proofs.Math.Nat.{eq-or-lt_of_le}
use Rattle.std.proofs.lemmas.List.{append-nil, take-append-drop, get_or-take, get_or-drop, length-take, length-drop}
use Rattle.std.proofs.lemmas.List.Elements.{All-append, All-cons, All-nil, All-head, All-tail, All-filter, All-weaker, filter-append, filter_passes}
use Rattle.std.proofs.lemmas.List.Kept.{AllPairs-cons, AllPairs-filter}

pub AllPairs-head : {X : Type 0} (R : X → X → Type 0) (x : X) (xs : List X) → AllPairs R (x ∷ xs) → All (R x) xs
AllPairs-head R x xs pairs k d lt = pairs 0 (suc k) d (omega arith) (omega arith)

pub AllPairs-tail : {X : Type 0} (R : X → X → Type 0) (x : X) (xs : List X) → AllPairs R (x ∷ xs) → AllPairs R xs
AllPairs-tail R x xs pairs i j d lt within = pairs (suc i) (suc j) d (omega arith) (omega arith)

AllPairs-append : {X : Type 0} (R : X → X → Type 0) (xs ys : List X) → AllPairs R xs → AllPairs R ys → All (λ x. All (R x) ys) xs → AllPairs R (xs ++ ys)
AllPairs-append R [] ys first second across = second
AllPairs-append R (x ∷ xs) ys first second across =
    AllPairs-cons R x (xs ++ ys)
    (All-append (R x) xs ys (AllPairs-head R x xs first) (All-head (λ z. All (R z) ys) x xs across))
    (AllPairs-append R xs ys (AllPairs-tail R x xs first) second (All-tail (λ z. All (R z) ys) x xs across))

-- a list that rises still does with an element behind those that come before it, and before those that come after it
pub AllPairs-with : {X : Type 0} (R : X → X → Type 0) → ((x y z : X) → R x y → R y z → R x z) → (p q : X → Bool) (x : X) → ((y : X) → p y ≡ true → R y x) → ((y : X) → q y ≡ true → R x y) → (xs : List X) → AllPairs R xs → AllPairs R (filter p xs ++ x ∷ filter q xs)
AllPairs-with R trans p q x before after xs rise =
    let later : All (R x) (filter q xs) = All-weaker (λ y. q y ≡ true) (R x) after (filter q xs) (filter_passes q xs) in
    AllPairs-append R (filter p xs) (x ∷ filter q xs) (AllPairs-filter R p xs rise)
    (AllPairs-cons R x (filter q xs) later (AllPairs-filter R q xs rise))
    (All-weaker (λ y. p y ≡ true) (λ y. All (R y) (x ∷ filter q xs))
    (λ y is. let step : R y x = before y is in All-cons (R y) x (filter q xs) step (All-weaker (R x) (R y) (λ z. trans y x z step) (filter q xs) later))
    (filter p xs) (filter_passes p xs))

-- what holds of each two of a list, in either order, holds across two parts of it that exclude each other
across_step : {X : Type 0} (R : X → X → Type 0) → ((x y : X) → R x y → R y x) → (p q : X → Bool) (x : X) (xs : List X) (u v : Bool) → p x ≡ u → q x ≡ v → (u ≡ true → v ≡ false) → All (R x) xs → All (λ y. All (R y) (filter q xs)) (filter p xs) → All (λ y. All (R y) (filter q (x ∷ xs))) (filter p (x ∷ xs))
across_step R turn p q x xs true true p_is q_is apart one rest = let no_way : true ≡ false = apart refl in cc
across_step R turn p q x xs true false p_is q_is apart one rest =
    subst (λ (v : Bool). All (λ y. All (R y) (cond v (x ∷ filter q xs) (filter q xs))) (filter p (x ∷ xs))) (sym q_is)
    (subst (λ (u : Bool). All (λ y. All (R y) (filter q xs)) (cond u (x ∷ filter p xs) (filter p xs))) (sym p_is)
    (All-cons (λ y. All (R y) (filter q xs)) x (filter p xs) (All-filter q (R x) xs one) rest))
across_step R turn p q x xs false true p_is q_is apart one rest =
    subst (λ (v : Bool). All (λ y. All (R y) (cond v (x ∷ filter q xs) (filter q xs))) (filter p (x ∷ xs))) (sym q_is)
    (subst (λ (u : Bool). All (λ y. All (R y) (x ∷ filter q xs)) (cond u (x ∷ filter p xs) (filter p xs))) (sym p_is)
    (λ k d lt. All-cons (R (get_or (filter p xs) k d)) x (filter q xs) (turn x (get_or (filter p xs) k d) (All-filter p (R x) xs one k d lt)) (rest k d lt)))
across_step R turn p q x xs false false p_is q_is apart one rest =
    subst (λ (v : Bool). All (λ y. All (R y) (cond v (x ∷ filter q xs) (filter q xs))) (filter p (x ∷ xs))) (sym q_is)
    (subst (λ (u : Bool). All (λ y. All (R y) (filter q xs)) (cond u (x ∷ filter p xs) (filter p xs))) (sym p_is) rest)

across : {X : Type 0} (R : X → X → Type 0) → ((x y : X) → R x y → R y x) → (p q : X → Bool) → ((x : X) → p x ≡ true → q x ≡ false) → (xs : List X) → AllPairs R xs → All (λ y. All (R y) (filter q xs)) (filter p xs)
across R turn p q apart [] pairs = All-nil (λ y. All (R y) [])
across R turn p q apart (x ∷ xs) pairs =
    across_step R turn p q x xs (p x) (q x) refl refl (apart x) (AllPairs-head R x xs pairs) (across R turn p q apart xs (AllPairs-tail R x xs pairs))

pub AllPairs-with_either : {X : Type 0} (R : X → X → Type 0) → ((x y : X) → R x y → R y x) → (p q : X → Bool) → ((x : X) → p x ≡ true → q x ≡ false) → (x : X) (xs : List X) → All (R x) xs → AllPairs R xs → AllPairs R (filter p xs ++ x ∷ filter q xs)
AllPairs-with_either R turn p q apart x xs one pairs =
    AllPairs-append R (filter p xs) (x ∷ filter q xs) (AllPairs-filter R p xs pairs)
    (AllPairs-cons R x (filter q xs) (All-filter q (R x) xs one) (AllPairs-filter R q xs pairs))
    (λ k d lt. All-cons (R (get_or (filter p xs) k d)) x (filter q xs) (turn x (get_or (filter p xs) k d) (All-filter p (R x) xs one k d lt)) (across R turn p q apart xs pairs k d lt))

-- what holds of all and of one more
pub All-with : {X : Type 0} (P : X → Type 0) (p q : X → Bool) (x : X) (xs : List X) → P x → All P xs → All P (filter p xs ++ x ∷ filter q xs)
All-with P p q x xs one all = All-append P (filter p xs) (x ∷ filter q xs) (All-filter p P xs all) (All-cons P x (filter q xs) one (All-filter q P xs all))

pub filter_all : {X : Type 0} (p : X → Bool) (xs : List X) → All (λ x. p x ≡ true) xs → filter p xs ≡ xs
filter_all p [] all = refl
filter_all p (x ∷ xs) all =
    ap (λ b. cond b (x ∷ filter p xs) (filter p xs)) (All-head (λ y. p y ≡ true) x xs all)
    ∙ ap (λ ys. x ∷ ys) (filter_all p xs (All-tail (λ y. p y ≡ true) x xs all))

pub filter_none : {X : Type 0} (p : X → Bool) (xs : List X) → All (λ x. p x ≡ false) xs → filter p xs ≡ []
filter_none p [] all = refl
filter_none p (x ∷ xs) all =
    ap (λ b. cond b (x ∷ filter p xs) (filter p xs)) (All-head (λ y. p y ≡ false) x xs all)
    ∙ filter_none p xs (All-tail (λ y. p y ≡ false) x xs all)

pub filter_front : {X : Type 0} (p : X → Bool) (n : ℕ) (xs : List X) → All (λ x. p x ≡ true) (take n xs) → All (λ x. p x ≡ false) (drop n xs) → filter p xs ≡ take n xs
filter_front p n xs front back =
    ap (filter p) (sym (take-append-drop n xs))
    ∙ filter-append p (take n xs) (drop n xs)
    ∙ (λ i. filter_all p (take n xs) front i ++ filter_none p (drop n xs) back i)
    ∙ append-nil (take n xs)

pub filter_back : {X : Type 0} (p : X → Bool) (n : ℕ) (xs : List X) → All (λ x. p x ≡ false) (take n xs) → All (λ x. p x ≡ true) (drop n xs) → filter p xs ≡ drop n xs
filter_back p n xs front back =
    ap (filter p) (sym (take-append-drop n xs))
    ∙ filter-append p (take n xs) (drop n xs)
    ∙ (λ i. filter_none p (take n xs) front i ++ filter_all p (drop n xs) back i)

-- the two sides of a place
pub All-take_within : {X : Type 0} (P : X → Type 0) (n : ℕ) (xs : List X) → AllWithin P xs 0 n → All P (take n xs)
All-take_within P n xs within k d lt =
    let low : k < n = omega (arith, length-take n xs) in
    subst P (sym (get_or-take n xs k d low)) (within k d (omega arith) low)

pub All-drop_within : {X : Type 0} (P : X → Type 0) (n : ℕ) (xs : List X) → AllWithin P xs n (length xs) → All P (drop n xs)
All-drop_within P n xs within k d lt =
    subst P (sym (get_or-drop n xs k d)) (within (n + k) d (omega arith) (omega (arith, length-drop n xs)))

-- in a rising list no element that passes comes after one that fails
pub IsPartitionedBy-rising : {X : Type 0} (R : X → X → Type 0) (p : X → Bool) → ((y z : X) → R y z → p z ≡ true → p y ≡ true) → (xs : List X) → AllPairs R xs → IsPartitionedBy p xs
IsPartitionedBy-rising R p keeps xs rise i j d le within pass =
    elim (eq-or-lt_of_le le) [
      | inl same ↦ subst (λ n. p (get_or xs n d) ≡ true) (sym same) pass
      | inr less ↦ keeps (get_or xs i d) (get_or xs j d) (rise i j d less within) pass
    ]
