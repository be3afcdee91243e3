-- Patterns: what fits one is the pattern filled, and tests of rows of patterns.
use Rattle.std.proofs.Common.{◌≡◌, ℕ, suc, ◌<◌, ◌≤◌, List, [], ◌∷◌, ◌++◌, length, Bool, true, false, cond, refl, sym, ap, ◌∙◌, subst, arith, ◌==◌, ◌&&◌, ◌||◌, not, ◌⊎◌, inl, inr, leb}
use Rattle.std.specs.Prelude.{⊤}
use Rattle.std.proofs.lemmas.Bool.{and_parts}
use Rattle.std.proofs.lemmas.Bool.Decides.{nat_tests}
use Rattle.matchit.specs.Rows.{RowsOf}
use Rattle.clear_routes.specs.Written.{filled}
use Rattle.clear_routes.specs.Fitting.{IsParameter, Fits}
use Rattle.clear_routes.proofs.WalkLemmas.{Ends, Simple, In, RowsSimple}
use Rattle.clear_routes.proofs.FitLemmas.{apart}

-- ---- what fits is filled

abbrev pub opens : List ℕ → ℕ
opens [] = 0
opens (x ∷ t) = cond (x == 256) (suc (opens t)) (opens t)

abbrev pub AllParameters : List (List ℕ) → Type 0
AllParameters [] = ⊤
AllParameters (v ∷ vs) = IsParameter v × AllParameters vs

not_open : (x : ℕ) → x < 256 → (x == 256) ≡ false
not_open x l = grind (arith, nat_tests)

open_is : (x : ℕ) → x ≡ 256 → (x == 256) ≡ true
open_is x e = grind (arith, nat_tests)

pub count_values : (t : List ℕ) (vs : List (List ℕ)) (p : List ℕ) → Fits t vs p → length vs ≡ opens t
count_values [] vs p f = ap length f.0
count_values (x ∷ t) vs p (inl f) = rw (not_open x f.1) (count_values t vs f.0 f.3)
count_values (x ∷ t) vs p (inr f) = rw (open_is x f.3) (ap length f.4 ∙ ap suc (count_values t f.2 f.1 f.7))

pub fits_is_filled : (t : List ℕ) (vs : List (List ℕ)) (p : List ℕ) → Fits t vs p → p ≡ filled t vs
fits_is_filled [] vs p f = f.1
fits_is_filled (x ∷ t) [] p (inl f) = f.2 ∙ ap (λ (r : List ℕ). x ∷ r) (fits_is_filled t [] f.0 f.3)
fits_is_filled (x ∷ t) [] p (inr f) = cc (f.4)
fits_is_filled (x ∷ t) (v ∷ vs) p (inl f) = rw (not_open x f.1) (f.2 ∙ ap (λ (r : List ℕ). x ∷ r) (fits_is_filled t (v ∷ vs) f.0 f.3))
fits_is_filled (x ∷ t) (v ∷ vs) p (inr f) =
    let first : v ≡ f.0 = cc (f.4) in
    let more : vs ≡ f.2 = cc (f.4) in
    let rest : f.1 ≡ filled t vs = subst (λ (us : List (List ℕ)). f.1 ≡ filled t us) (sym more) (fits_is_filled t f.2 f.1 f.7) in
    rw (open_is x f.3) (f.6 ∙ (λ i. sym first i ++ rest i))

pub filled_fits : (t : List ℕ) (vs : List (List ℕ)) → Simple t → opens t ≡ length vs → AllParameters vs → Fits t vs (filled t vs)
filled_fits [] [] s e a = (refl, refl)
filled_fits [] (v ∷ vs) s e a = absurd (omega (arith, e))
filled_fits (x ∷ t) [] s e a = by (x == 256) refl e (λ q. filled_fits t [] s.2 q tt)
  where
    by : (b : Bool) → (x == 256) ≡ b → cond b (suc (opens t)) (opens t) ≡ 0 → (opens t ≡ 0 → Fits t [] (filled t [])) → Fits (x ∷ t) [] (x ∷ filled t [])
    by true q e ih = absurd (omega (arith, e))
    by false q e ih =
        let low : x < 256 = grind (arith, nat_tests, s.0, q) in
        inl (filled t [], low, refl, ih e)
filled_fits (x ∷ t) (v ∷ vs) s e a = by (x == 256) refl e (λ q. filled_fits t vs s.2 q a.1) (λ q. filled_fits t (v ∷ vs) s.2 q a)
  where
    by : (b : Bool) → (x == 256) ≡ b → cond b (suc (opens t)) (opens t) ≡ suc (length vs) → (opens t ≡ length vs → Fits t vs (filled t vs)) → (opens t ≡ suc (length vs) → Fits t (v ∷ vs) (filled t (v ∷ vs)))
        → Fits (x ∷ t) (v ∷ vs) (cond b (v ++ filled t vs) (x ∷ filled t (v ∷ vs)))
    by true q e used kept =
        let is : x ≡ 256 = grind (arith, nat_tests, q) in
        inr (v, filled t vs, vs, is, refl, a.0, refl, used (omega (arith, e)))
    by false q e used kept =
        let low : x < 256 = grind (arith, nat_tests, s.0, q) in
        inl (filled t (v ∷ vs), low, refl, kept e)

-- ---- tests of patterns

abbrev ends_test : List ℕ → Bool
ends_test [] = true
ends_test (y ∷ t) = y == 47

abbrev pub simple_test : List ℕ → Bool
simple_test [] = true
simple_test (x ∷ t) = leb x 256 && ((not (x == 256) || ends_test t) && simple_test t)

ends_from : (t : List ℕ) → ends_test t ≡ true → Ends t
ends_from [] e = tt
ends_from (y ∷ t) e = grind (arith, nat_tests)

after : (x : ℕ) (b : Bool) → (not (x == 256) || b) ≡ true → x ≡ 256 → b ≡ true
after x true h e = refl
after x false h e =
    let q : (x == 256) ≡ true = grind (arith, nat_tests) in
    cc (q, h)

pub simple_from : (t : List ℕ) → simple_test t ≡ true → Simple t
simple_from [] e = tt
simple_from (x ∷ t) e =
    let a = and_parts (leb x 256) ((not (x == 256) || ends_test t) && simple_test t) e in
    let b = and_parts (not (x == 256) || ends_test t) (simple_test t) a.1 in
    let l : x ≤ 256 = grind (arith, nat_tests, a.0) in
    (l, λ q. ends_from t (after x (ends_test t) b.0 q), simple_from t b.1)

module _ {K : Type 0} where
  -- rows are simple where each of them is
  pub simple_rows : (rs : RowsOf K) → ((t : List ℕ) (k : K) → In t k rs → Simple t) → RowsSimple rs
  simple_rows [] h = tt
  simple_rows ((t, k) ∷ rs) h = (h t k (inl (refl, refl)), simple_rows rs (λ s j i. h s j (inr i)))

  abbrev apart_from : List ℕ → RowsOf K → Bool
  apart_from t [] = true
  apart_from t ((s, k) ∷ rs) = apart t s && (apart s t && apart_from t rs)

  abbrev pub all_apart : RowsOf K → Bool
  all_apart [] = true
  all_apart ((t, k) ∷ rs) = apart_from t rs && all_apart rs

  one_apart : (t : List ℕ) (rs : RowsOf K) (s : List ℕ) (k : K) → apart_from t rs ≡ true → In s k rs → (apart t s ≡ true) × (apart s t ≡ true)
  one_apart t [] s k e h = absurd h
  one_apart t ((u, j) ∷ rs) s k e (inl h) =
      let a = and_parts (apart t u) (apart u t && apart_from t rs) e in
      let b = and_parts (apart u t) (apart_from t rs) a.1 in
      subst (λ (x : List ℕ). (apart t x ≡ true) × (apart x t ≡ true)) h.0 (a.0, b.0)
  one_apart t ((u, j) ∷ rs) s k e (inr h) =
      let a = and_parts (apart t u) (apart u t && apart_from t rs) e in
      let b = and_parts (apart u t) (apart_from t rs) a.1 in
      one_apart t rs s k b.1 h

  -- two of the rows are one, or apart
  pub two_rows : (rs : RowsOf K) (s t : List ℕ) (j k : K) → all_apart rs ≡ true → In s j rs → In t k rs → (j ≡ k) ⊎ (apart s t ≡ true)
  two_rows [] s t j k e g h = absurd g
  two_rows ((u, i) ∷ rs) s t j k e (inl g) (inl h) = inl (sym g.1 ∙ h.1)
  two_rows ((u, i) ∷ rs) s t j k e (inl g) (inr h) =
      let a = and_parts (apart_from u rs) (all_apart rs) e in
      inr (subst (λ (x : List ℕ). apart x t ≡ true) g.0 (one_apart u rs t k a.0 h).0)
  two_rows ((u, i) ∷ rs) s t j k e (inr g) (inl h) =
      let a = and_parts (apart_from u rs) (all_apart rs) e in
      inr (subst (λ (x : List ℕ). apart s x ≡ true) h.0 (one_apart u rs s j a.0 g).1)
  two_rows ((u, i) ∷ rs) s t j k e (inr g) (inr h) = two_rows rs s t j k (and_parts (apart_from u rs) (all_apart rs) e).1 g h
