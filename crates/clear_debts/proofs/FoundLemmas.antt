-- What is found for each element of a list stands under its key.
use Rattle.std.proofs.Common.{◌≡◌, List, [], ◌∷◌, Option, None, Some, Bool, true, false, cond, ◌||◌, refl, ap, ◌∙◌}
use Rattle.std.specs.List.{AllByRecursion, cons_option, filter_map, find, list_any}

module _ {X K Y : Type 0} (key : X → K) (f : K → Option Y) (test : K → Y → Bool) (same : K → K → Bool)
    (right : (k q : K) (y : Y) → f k ≡ Some y → test q y ≡ same k q) (one : (k q : K) → same k q ≡ true → k ≡ q) (itself : (q : K) → same q q ≡ true) where
  abbrev all_found : List X → List Y
  all_found xs = filter_map (λ x. f (key x)) xs

  -- what is found for another key is passed over
  passed_over : (k q : K) (o : Option Y) → f k ≡ o → same k q ≡ false → (rest : List Y) → find (test q) (cons_option o rest) ≡ find (test q) rest
  passed_over k q None is other rest = refl
  passed_over k q (Some y) is other rest = ap (λ b. cond b (Some y) (find (test q) rest)) (right k q y is ∙ other)

  none_there : (q : K) (xs : List X) → f q ≡ None → find (test q) (all_found xs) ≡ None
  none_there q [] none = refl
  none_there q (x ∷ xs) none = told (same (key x) q) refl (none_there q xs none)
    where
      told : (b : Bool) → same (key x) q ≡ b → find (test q) (all_found xs) ≡ None → find (test q) (cons_option (f (key x)) (all_found xs)) ≡ None
      told true is more = ap (λ o. find (test q) (cons_option o (all_found xs))) (ap f (one (key x) q is) ∙ none) ∙ more
      told false other more = passed_over (key x) q (f (key x)) refl other (all_found xs) ∙ more

  first_found : (q : K) (xs : List X) (o : Option Y) → f q ≡ o → find (test q) (cons_option o (all_found xs)) ≡ o
  first_found q xs None is = none_there q xs is
  first_found q xs (Some y) is = ap (λ b. cond b (Some y) (find (test q) (all_found xs))) (right q q y is ∙ itself q)

  pub found_there : (q : K) (xs : List X) → list_any (λ x. same (key x) q) xs ≡ true → find (test q) (all_found xs) ≡ f q
  found_there q [] there = cc there
  found_there q (x ∷ xs) there = told (same (key x) q) refl there (found_there q xs)
    where
      told : (b : Bool) → same (key x) q ≡ b → (b || list_any (λ x. same (key x) q) xs) ≡ true → (list_any (λ x. same (key x) q) xs ≡ true → find (test q) (all_found xs) ≡ f q)
          → find (test q) (cons_option (f (key x)) (all_found xs)) ≡ f q
      told true is there more = ap (λ o. find (test q) (cons_option o (all_found xs))) (ap f (one (key x) q is)) ∙ first_found q xs (f q) refl
      told false other there more = passed_over (key x) q (f (key x)) refl other (all_found xs) ∙ more there

  each_there : (xs ys : List X) → ((q : K) → list_any (λ x. same (key x) q) ys ≡ true → list_any (λ x. same (key x) q) xs ≡ true)
      → AllByRecursion (λ y. find (test (key y)) (all_found xs) ≡ f (key y)) ys
  each_there xs [] all = tt
  each_there xs (y ∷ ys) all = (
    found_there (key y) xs (all (key y) (ap (λ b. b || list_any (λ x. same (key x) (key y)) ys) (itself (key y)))),
    each_there xs ys (λ q later. all q (later_too (same (key y) q) (list_any (λ x. same (key x) q) ys) later)),
  )
    where
      later_too : (b rest : Bool) → rest ≡ true → (b || rest) ≡ true
      later_too true rest later = refl
      later_too false rest later = later

  -- each element of the list itself
  pub each_found : (xs : List X) → AllByRecursion (λ x. find (test (key x)) (all_found xs) ≡ f (key x)) xs
  each_found xs = each_there xs xs (λ q there. there)
