-- What a match's parameters are: the parts of the target that fill the pattern.
use Rattle.std.proofs.Common.{◌≡◌, ℕ, zero, suc, ◌+◌, ◌-◌, ◌<◌, ◌≤◌, ◌^◌, List, [], ◌∷◌, ◌++◌, length, drop, take, get_or, min, true, false, cond, refl, sym, ap, ◌∙◌, arith, ◌==◌, ◌&&◌, ltb, leb, inl, inr, length-drop, get_or-drop, append-nil}
use Rattle.std.proofs.lemmas.Bool.Decides.{nat_tests}
use Rattle.std.proofs.Math.Seq.{drop-nil}
use Rattle.matchit.specs.Seek.{segment}
use Rattle.matchit.specs.Params.{walk, wild_from, wild_stop}
use Rattle.clear_routes.specs.Raw.{parts}
use Rattle.clear_routes.specs.Fitting.{NoSlash, Fits}
use Rattle.clear_routes.proofs.WalkLemmas.{Ends, Simple, seg-part, drop-append, length-more}

drop-later : (n m : ℕ) (xs : List ℕ) → drop (n + m) xs ≡ drop m (drop n xs)
drop-later zero m xs =
    let e : 0 + m ≡ m = omega arith in
    rw e refl
drop-later (suc n) m [] = drop-nil (suc n + m) ∙ sym (drop-nil m)
drop-later (suc n) m (x ∷ xs) =
    let e : suc n + m ≡ suc (n + m) = omega arith in
    rw e (drop-later n m xs)

take-front : (v w : List ℕ) → take (length v) (v ++ w) ≡ v
take-front [] w = refl
take-front (b ∷ v) w = ap (λ (xs : List ℕ). b ∷ xs) (take-front v w)

length-both : (v w : List ℕ) → length (v ++ w) ≡ length v + length w
length-both [] w = omega arith
length-both (b ∷ v) w = omega (arith, length-both v w)

next : (i x : ℕ) (xs ys : List ℕ) → drop i xs ≡ x ∷ ys → drop (i + 1) xs ≡ ys
next i x xs ys e = drop-later i 1 xs ∙ ap (drop 1) e

place : (i x : ℕ) (xs ys : List ℕ) → drop i xs ≡ x ∷ ys → get_or xs i 0 ≡ x
place i x xs ys e =
    let z : i + 0 ≡ i = omega arith in
    let g : get_or xs (i + 0) 0 ≡ x = sym (get_or-drop i xs 0 0) ∙ ap (λ (l : List ℕ). get_or l 0 0) e in
    rw z at g

count : (i : ℕ) (xs ys : List ℕ) → drop i xs ≡ ys → length xs - i ≡ length ys
count i xs ys e = sym (length-drop i xs) ∙ ap length e

module _ (pattern text path : List ℕ) (few : length pattern < 2 ^ 63) where
  abbrev here : List (ℕ × ℕ) → ℕ → ℕ → List (List ℕ × List ℕ)
  here names token at = walk pattern text path names token at

  skip : (names : List (ℕ × ℕ)) (token at x : ℕ) (t : List ℕ) → drop token pattern ≡ x ∷ t → x < 256 → at < length path
      → here names token at ≡ here names (token + 1) (at + 1)
  skip [] token at x t e low l = refl
  skip (name ∷ names) token at x t e low l =
      let n : drop (token + 1) pattern ≡ t = next token x pattern t e in
      let a : ltb x 256 ≡ true = grind (arith, nat_tests) in
      let b : ltb at (length path) ≡ true = grind (arith, nat_tests) in
      let same : wild_from (drop token pattern) (length path) token at ≡ wild_from (drop (token + 1) pattern) (length path) (token + 1) (at + 1) =
      rw (e, n, a, b) refl in
      rw same refl

  -- one parameter, whose part ends at a place
  takes : (name : ℕ × ℕ) (names : List (ℕ × ℕ)) (token at : ℕ) (t v rest : List ℕ) → drop token pattern ≡ 256 ∷ t → drop at path ≡ v ++ rest → at ≤ length path
      → wild_stop pattern token path at ≡ at + length v → parts (here (name ∷ names) token at) ≡ v ∷ parts (here names (token + 1) (at + length v))
  takes name names token at t v rest e d l s =
      let long = count at path (v ++ rest) d in
      let both = length-both v rest in
      let pn = count token pattern (256 ∷ t) e in
      let a : leb at (at + length v) ≡ true = grind (arith, nat_tests) in
      let b : leb (at + length v) (length path) ≡ true = grind (arith, nat_tests, long, both, l) in
      let c : at + length v - at ≡ length v = omega arith in
      let k : min (token + 1) 18446744073709551615 ≡ token + 1 = omega (arith, pn, few) in
      rw (e, s, a, b, c, k, d, take-front v rest) refl

  stop-end : (token at : ℕ) (v : List ℕ) → drop token pattern ≡ 256 ∷ [] → drop at path ≡ v → at ≤ length path → wild_stop pattern token path at ≡ at + length v
  stop-end token at v e d l =
      let pn = count token pattern (256 ∷ []) e in
      let long = count at path v d in
      let c : ltb (token + 1) (length pattern) ≡ false = grind (arith, nat_tests, pn) in
      let w : length path ≡ at + length v = omega (arith, long, l) in
      rw c (elim (ltb token (length pattern) && (get_or pattern token 0 == 256)) as (λ z. cond (z && false) (at + length (segment (drop at path)) - length (segment (drop (token + 1) pattern))) (length path) ≡ at + length v) [ true ↦ w | false ↦ w ])

  stop-slash : (token at : ℕ) (t v rest : List ℕ) → drop token pattern ≡ 256 ∷ 47 ∷ t → drop at path ≡ v ++ 47 ∷ rest → NoSlash v → wild_stop pattern token path at ≡ at + length v
  stop-slash token at t v rest e d n =
      let pn = count token pattern (256 ∷ 47 ∷ t) e in
      let a : ltb token (length pattern) ≡ true = grind (arith, nat_tests, pn) in
      let b : get_or pattern token 0 ≡ 256 = place token 256 pattern (47 ∷ t) e in
      let c : ltb (token + 1) (length pattern) ≡ true = grind (arith, nat_tests, pn) in
      let f : drop (token + 1) pattern ≡ 47 ∷ t = next token 256 pattern (47 ∷ t) e in
      let g = seg-part v rest n in
      rw (a, b, c, d, f, g.0, length-more v) (omega arith)

  values_from : (t : List ℕ) (vs : List (List ℕ)) (p : List ℕ) (names : List (ℕ × ℕ)) (token at : ℕ) → drop token pattern ≡ t → drop at path ≡ p → at ≤ length path
      → Simple t → Fits t vs p → length names ≡ length vs → parts (here names token at) ≡ vs
  values_from [] vs p [] token at e d l s f m = sym f.0
  values_from [] vs p (name ∷ names) token at e d l s f m = absurd (omega (arith, ap length f.0))
  values_from (x ∷ t) vs p names token at e d l s (inl f) m =
      let d2 : drop at path ≡ x ∷ f.0 = d ∙ f.2 in
      let long = count at path (x ∷ f.0) d2 in
      let some : at < length path = omega (arith, long) in
      ap parts (skip names token at x t e f.1 some)
      ∙ values_from t vs f.0 names (token + 1) (at + 1) (next token x pattern t e) (next at x path f.0 d2) (omega arith) s.2 f.3 m
  values_from (x ∷ t) vs p [] token at e d l s (inr f) m = absurd (omega (arith, ap length f.4))
  values_from (x ∷ t) vs p (name ∷ names) token at e d l s (inr f) m =
      let v = f.0 in
      let rest = f.1 in
      let e2 : drop token pattern ≡ 256 ∷ t = e ∙ ap (λ (y : ℕ). y ∷ t) f.3 in
      let d2 : drop at path ≡ v ++ rest = d ∙ f.6 in
      let long = count at path (v ++ rest) d2 in
      let both = length-both v rest in
      let some = f.5.0 in
      let e3 : drop (token + 1) pattern ≡ t = next token 256 pattern t e2 in
      let d3 : drop (at + length v) path ≡ rest = drop-later at (length v) path ∙ ap (drop (length v)) d2 ∙ drop-append v rest in
      let few_names : length names ≡ length f.2 = omega (arith, ap length f.4, m) in
      let stop : wild_stop pattern token path at ≡ at + length v = ended t e2 d2 f.7 f.5.1 (s.1 f.3) in
      takes name names token at t v rest e2 d2 l stop
      ∙ ap (λ (l : List (List ℕ)). v ∷ l) (values_from t f.2 rest names (token + 1) (at + length v) e3 d3 (omega (arith, long, both, some, l)) s.2 f.7 few_names)
      ∙ sym f.4
    where
      ended : (u : List ℕ) → drop token pattern ≡ 256 ∷ u → drop at path ≡ f.0 ++ f.1 → Fits u f.2 f.1 → NoSlash f.0 → Ends u → wild_stop pattern token path at ≡ at + length f.0
      ended [] e d g n h =
          let none : f.0 ++ f.1 ≡ f.0 = ap (λ (r : List ℕ). f.0 ++ r) g.1 ∙ append-nil f.0 in
          stop-end token at f.0 e (d ∙ none) l
      ended (y ∷ u) e d (inl g) n h =
          let e4 : drop token pattern ≡ 256 ∷ 47 ∷ u = e ∙ ap (λ (z : ℕ). 256 ∷ z ∷ u) h in
          let d4 : drop at path ≡ f.0 ++ 47 ∷ g.0 = d ∙ ap (λ (r : List ℕ). f.0 ++ r) (g.2 ∙ ap (λ (z : ℕ). z ∷ g.0) h) in
          stop-slash token at u f.0 g.0 e4 d4 n
      ended (y ∷ u) e d (inr g) n h =
          let is : y ≡ 256 = g.3 in
          absurd (omega (arith, h, is))

  -- each parameter's part, in their order
  pub values : (vs : List (List ℕ)) (names : List (ℕ × ℕ)) → Simple pattern → Fits pattern vs path → length names ≡ length vs → parts (walk pattern text path names 0 0) ≡ vs
  values vs names s f m = values_from pattern vs path names 0 0 refl refl (omega arith) s f m
