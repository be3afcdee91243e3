-- Where a place parts a list.
use Rattle.std.proofs.Common.{◌≡◌, ℕ, ◌+◌, ◌<◌, ◌≤◌, List, [], ◌∷◌, ◌++◌, length, get_or, take, drop, suc, inl, inr, refl, sym, ap, ◌∙◌, arith}
use Rattle.std.specs.List.{sum_by}
use Rattle.std.proofs.lemmas.List.{get_or-drop, length-append, length-drop}
use Rattle.std.proofs.lemmas.List.Sums.{sum_by-append, sum_by_more}
use Rattle.clear_account.specs.Places.{Ends}
use Rattle.clear_account.proofs.GridLemmas.{Reaches}

pub reaches_at : {X : Type 0} (place : ℕ) (f : X → ℕ) (s : ℕ) (xs : List X) → place ≤ s → Reaches place f s xs
reaches_at place f s [] h = tt
reaches_at place f s (x ∷ xs) h = inl h

reaches_by : {X : Type 0} (place : ℕ) (f : X → ℕ) (xs : List X) (n : ℕ) (ys : List X) → (n < length xs → place < sum_by f (take (n + 1) xs)) → drop n xs ≡ ys → Reaches place f (sum_by f (take n xs)) ys
reaches_by place f xs n [] beyond is = tt
reaches_by place f xs n (y ∷ ys) beyond is =
    let within : n < length xs = omega (arith, length-drop n xs, ap length is) in
    let here : get_or xs n y ≡ y = ap (λ m. get_or xs m y) (omega arith) ∙ sym (get_or-drop n xs 0 y) ∙ ap (λ zs. get_or zs 0 y) is in
    inr (omega (arith, beyond within, sum_by_more f xs n y within, ap f here))

pub ends_reaches : {X : Type 0} (place : ℕ) (f : X → ℕ) (xs : List X) (n : ℕ) → Ends f xs place n → Reaches place f (sum_by f (take n xs)) (drop n xs)
ends_reaches place f xs n e = reaches_by place f xs n (drop n xs) e.beyond refl

-- ---- a list with another before it
pub take_over : {X : Type 0} (xs ys : List X) (n : ℕ) → take (length xs + n) (xs ++ ys) ≡ xs ++ take n ys
take_over [] ys n = ap (λ m. take m ys) (omega arith)
take_over (x ∷ xs) ys n =
    let more : length (x ∷ xs) + n ≡ suc (length xs + n) = omega arith in
    ap (λ m. take m (x ∷ xs ++ ys)) more ∙ ap (λ zs. x ∷ zs) (take_over xs ys n)

pub drop_over : {X : Type 0} (xs ys : List X) (n : ℕ) → drop (length xs + n) (xs ++ ys) ≡ drop n ys
drop_over [] ys n = ap (λ m. drop m ys) (omega arith)
drop_over (x ∷ xs) ys n =
    let more : length (x ∷ xs) + n ≡ suc (length xs + n) = omega arith in
    ap (λ m. drop m (x ∷ xs ++ ys)) more ∙ drop_over xs ys n

pub ends_behind : {X : Type 0} (f : X → ℕ) (xs ys : List X) (n : ℕ) → Ends f ys 0 n → Ends f (xs ++ ys) (sum_by f xs) (length xs + n)
ends_behind f xs ys n e = record {
  within = omega (arith, length-append xs ys, e.within);
  below = omega (arith, ap (sum_by f) (take_over xs ys n), sum_by-append f xs (take n ys), e.below);
  beyond = λ within.
      let more : length xs + (n + 1) ≡ length xs + n + 1 = omega arith in
      let next : take (length xs + n + 1) (xs ++ ys) ≡ xs ++ take (n + 1) ys = ap (λ m. take m (xs ++ ys)) (sym more) ∙ take_over xs ys (n + 1) in
      omega (arith, ap (sum_by f) next, sum_by-append f xs (take (n + 1) ys), e.beyond (omega (arith, length-append xs ys)));
}
