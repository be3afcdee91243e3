-- Rows of a list that pass no test, the one row that passes, and rows that pass a further test.
use Rattle.std.proofs.Common.{◌≡◌, ◌≤◌, ◌&&◌, ℤ, ◌<ℤ◌, Bool, true, false, cond, List, [], ◌∷◌, filter, length, refl, sym, ap, ap₂, subst, ◌∙◌, arith, int_eq}
use Rattle.std.specs.List.{AllByRecursion}
use Rattle.std.proofs.lemmas.Int.{ints}
use Rattle.sqlite_keyed.specs.Keyed.{IsKeyedBy}
use Rattle.sqlite_keyed.specs.Lists.{update_where}
use Rattle.sqlite_keyed.proofs.ListLemmas.{all-filter, filter_none, all_weaker}

module _ {X : Type 0} (p : X → Bool) where
  -- where none passes, each fails
  pub each_fails : (xs : List X) → filter p xs ≡ [] → AllByRecursion (λ x. p x ≡ false) xs
  each_fails [] h = tt
  each_fails (x ∷ xs) h = go (p x) refl h (each_fails xs)
    where
      go : (b : Bool) → p x ≡ b → cond b (x ∷ filter p xs) (filter p xs) ≡ [] → (filter p xs ≡ [] → AllByRecursion (λ x. p x ≡ false) xs) → AllByRecursion (λ x. p x ≡ false) (x ∷ xs)
      go true e h more = absurd (cc)
      go false e h more = (e, more h)

  -- and none is replaced
  pub none_replaced : (f : X → X) (xs : List X) → AllByRecursion (λ x. p x ≡ false) xs → update_where p f xs ≡ xs
  none_replaced f [] all = refl
  none_replaced f (x ∷ xs) all = ap₂ (λ b l. cond b (f x) x ∷ l) all.0 (none_replaced f xs all.1)

-- where each passes, all are left
pub all_pass : {X : Type 0} (xs : List X) → filter (λ _. true) xs ≡ xs
all_pass [] = refl
all_pass (x ∷ xs) = ap (λ l. x ∷ l) (all_pass xs)

pub more_apart : (a b : ℤ) → a <ℤ b → int_eq b a ≡ false
more_apart a b h = grind (arith, ints)

-- where one row passes, it is the row of its number
module _ {X : Type 0} (key : X → ℤ) (p : X → Bool) (f : X → X) where
  less_apart : (a b : ℤ) → a <ℤ b → int_eq a b ≡ false
  less_apart a b h = grind (arith, ints)

  same_apart : (a : ℤ) → int_eq a a ≡ true
  same_apart a = grind (arith, ints)

  pub one_passes : (ys : List X) (y : X) → IsKeyedBy key ys → filter p ys ≡ y ∷ []
      → (filter (λ z. int_eq (key z) (key y)) ys ≡ y ∷ []) × (update_where p f ys ≡ update_where (λ z. int_eq (key z) (key y)) f ys)
  one_passes [] y up h = absurd (cc)
  one_passes (z ∷ zs) y up h = go (p z) refl h (one_passes zs y up.1)
    where
      q : X → Bool
      q x = int_eq (key x) (key y)

      go : (b : Bool) → p z ≡ b → cond b (z ∷ filter p zs) (filter p zs) ≡ y ∷ []
          → (filter p zs ≡ y ∷ [] → (filter q zs ≡ y ∷ []) × (update_where p f zs ≡ update_where q f zs))
          → (cond (q z) (z ∷ filter q zs) (filter q zs) ≡ y ∷ []) × ((cond b (f z) z ∷ update_where p f zs) ≡ (cond (q z) (f z) z ∷ update_where q f zs))
      go true e h more =
          let here : z ≡ y = cc in
          let rest : filter p zs ≡ [] = cc in
          let passes : q z ≡ true = subst (λ (x : X). int_eq (key z) (key x) ≡ true) here (same_apart (key z)) in
          let others : AllByRecursion (λ x. q x ≡ false) zs = subst (λ (w : X). AllByRecursion (λ x. int_eq (key x) (key w) ≡ false) zs) here (all_weaker (λ x. key z <ℤ key x) (λ x. int_eq (key x) (key z) ≡ false) (λ x less. more_apart (key z) (key x) less) zs up.0) in (
            ap (λ b. cond b (z ∷ filter q zs) (filter q zs)) passes ∙ ap₂ (λ x l. x ∷ l) here (filter_none q zs others),
            ap₂ (λ b l. cond b (f z) z ∷ l) (sym passes) (none_replaced p f zs (each_fails p zs rest) ∙ sym (none_replaced q f zs others)),
          )
      go false e h more =
          let it = more h in
          let less : key z <ℤ key y = (subst (λ (l : List X). AllByRecursion (λ x. key z <ℤ key x) l) h (all-filter (λ x. key z <ℤ key x) p zs up.0)).0 in
          let fails : q z ≡ false = less_apart (key z) (key y) less in (
            ap (λ b. cond b (z ∷ filter q zs) (filter q zs)) fails ∙ it.0,
            ap₂ (λ b l. cond b (f z) z ∷ l) (sym fails) it.1,
          )

module _ {X : Type 0} (p q : X → Bool) where
  -- no more rows pass a further test, too
  pub fewer_pass : (xs : List X) → length (filter (λ x. p x && q x) xs) ≤ length (filter p xs)
  fewer_pass [] = omega arith
  fewer_pass (x ∷ xs) = told (p x) (q x) (fewer_pass xs)
    where
      told : (a b : Bool) → length (filter (λ x. p x && q x) xs) ≤ length (filter p xs) → length (cond (a && b) (x ∷ filter (λ x. p x && q x) xs) (filter (λ x. p x && q x) xs)) ≤ length (cond a (x ∷ filter p xs) (filter p xs))
      told true true fewer = omega (arith, fewer)
      told true false fewer = omega (arith, fewer)
      told false b fewer = fewer
