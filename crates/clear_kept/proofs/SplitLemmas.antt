-- A rising list, parted.
use Rattle.std.proofs.Common.{◌≡◌, ℕ, ◌<◌, Bool, true, false, cond, List, [], ◌∷◌, ◌++◌, length, get_or, take, refl, sym, ap, subst, ◌∙◌, arith}
use Rattle.std.specs.Prelude.{not}
use Rattle.std.specs.List.{All, AllPairs, filter}
use Rattle.std.proofs.lemmas.List.{get_or_default, get_or-take, length-take}
use Rattle.clear_account.proofs.PlaceLemmas.{AllPairs-head, AllPairs-tail, filter_none}

-- ---- by a test that no later element passes again
split_step : {X : Type 0} (p : X → Bool) (x : X) (xs : List X) (v : Bool) → p x ≡ v → (v ≡ false → All (λ y. p y ≡ false) xs) → xs ≡ filter p xs ++ filter (λ y. not (p y)) xs → x ∷ xs ≡ filter p (x ∷ xs) ++ filter (λ y. not (p y)) (x ∷ xs)
split_step p x xs true is later rest =
    ap (λ ys. x ∷ ys) rest
    ∙ sym (λ i. cond (is i) (x ∷ filter p xs) (filter p xs) ++ cond (not (is i)) (x ∷ filter (λ y. not (p y)) xs) (filter (λ y. not (p y)) xs))
split_step p x xs false is later rest =
    let none : filter p xs ≡ [] = filter_none p xs (later refl) in
    let others : List _ = filter (λ y. not (p y)) xs in
    ap (λ ys. x ∷ ys) (rest ∙ ap (λ ys. ys ++ others) none)
    ∙ ap (λ ys. ys ++ (x ∷ others)) (sym none)
    ∙ sym (λ i. (cond (is i) (x ∷ filter p xs) (filter p xs)) ++ cond (not (is i)) (x ∷ others) others)

pub split_rising : {X : Type 0} (R : X → X → Type 0) (p : X → Bool) → ((y z : X) → R y z → p y ≡ false → p z ≡ false) → (xs : List X) → AllPairs R xs → xs ≡ filter p xs ++ filter (λ y. not (p y)) xs
split_rising R p on [] rise = refl
split_rising R p on (x ∷ xs) rise =
    split_step p x xs (p x) refl
    (λ is k d lt. on x (get_or xs k d) (AllPairs-head R x xs rise k d lt) is)
    (split_rising R p on xs (AllPairs-tail R x xs rise))

-- ---- at an index
pub before_index : {X : Type 0} (R : X → X → Type 0) (xs : List X) (n : ℕ) (d : X) → AllPairs R xs → n < length xs → All (λ x. R x (get_or xs n d)) (take n xs)
before_index R xs n d rise within k e lt =
    let low : k < n = omega (arith, length-take n xs) in
    subst (λ x. R x (get_or xs n d)) (get_or_default xs k d e (omega arith) ∙ sym (get_or-take n xs k e low)) (rise k n d low within)
