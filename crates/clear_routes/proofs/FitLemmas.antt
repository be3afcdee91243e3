-- The walk finds a row exactly where the target is its pattern with some parameters.
use Rattle.std.proofs.Common.{◌≡◌, ◌≢◌, ℕ, ◌<◌, List, [], ◌∷◌, ◌++◌, length, Option, Some, None, Bool, true, false, cond, refl, sym, ap, ◌∙◌, subst, arith, ◌==◌, ◌&&◌, ◌⊎◌, inl, inr}
use Rattle.std.specs.Prelude.{⊤, ltb}
use Rattle.std.proofs.lemmas.Bool.Decides.{nat_tests}
use Rattle.matchit.specs.Rows.{RowsOf}
use Rattle.matchit.specs.Seek.{own, step, or_else, first}
use Rattle.clear_routes.specs.Fitting.{NoSlash, IsParameter, Fits}
use Rattle.clear_routes.proofs.WalkLemmas.{Ends, Simple, Bytes, go, In, RowsSimple, same_walk}

-- ---- a target is one pattern with one list of parameters

abbrev AtSlash : List ℕ → Type 0
AtSlash [] = ⊤
AtSlash (b ∷ bs) = b ≡ 47

at_slash : (t : List ℕ) (vs : List (List ℕ)) (p : List ℕ) → Ends t → Fits t vs p → AtSlash p
at_slash [] vs p h f = rw (f.1) tt
at_slash (y ∷ t) vs p h (inl f) = rw (f.2) h
at_slash (y ∷ t) vs p h (inr f) =
    let is : y ≡ 256 = f.3 in
    absurd (omega (arith, h, is))

-- the front without a slash is one
same_front : (v w x y : List ℕ) → NoSlash v → NoSlash w → AtSlash x → AtSlash y → v ++ x ≡ w ++ y → (v ≡ w) × (x ≡ y)
same_front [] [] x y nv nw ax ay e = (refl, e)
same_front [] (b ∷ w) [] y nv nw ax ay e = cc e
same_front [] (b ∷ w) (c ∷ x) y nv nw ax ay e =
    let h : c ≡ b = cc e in
    absurd (nw.0 (sym h ∙ ax))
same_front (b ∷ v) [] x [] nv nw ax ay e = cc e
same_front (b ∷ v) [] x (c ∷ y) nv nw ax ay e =
    let h : b ≡ c = cc e in
    absurd (nv.0 (h ∙ ay))
same_front (b ∷ v) (c ∷ w) x y nv nw ax ay e =
    let h : b ≡ c = cc e in
    let t : v ++ x ≡ w ++ y = cc e in
    let ih = same_front v w x y nv.1 nw.1 ax ay t in
    (rw (h, ih.0) refl, ih.1)

pub one_fit : (t : List ℕ) (us vs : List (List ℕ)) (p : List ℕ) → Simple t → Fits t us p → Fits t vs p → us ≡ vs
one_fit [] us vs p s f g = f.0 ∙ sym g.0
one_fit (x ∷ t) us vs p s (inl f) (inl g) =
    let e : f.0 ≡ g.0 = (let q : x ∷ f.0 ≡ x ∷ g.0 = sym f.2 ∙ g.2 in cc q) in
    one_fit t us vs f.0 s.2 f.3 (subst (λ (r : List ℕ). Fits t vs r) (sym e) g.3)
one_fit (x ∷ t) us vs p s (inl f) (inr g) =
    let is : x ≡ 256 = g.3 in
    absurd (omega (arith, f.1, is))
one_fit (x ∷ t) us vs p s (inr f) (inl g) =
    let is : x ≡ 256 = f.3 in
    absurd (omega (arith, g.1, is))
one_fit (x ∷ t) us vs p s (inr f) (inr g) =
    let ends : Ends t = s.1 f.3 in
    let e = same_front f.0 g.0 f.1 g.1 f.5.1 g.5.1 (at_slash t f.2 f.1 ends f.7) (at_slash t g.2 g.1 ends g.7) (sym f.6 ∙ g.6) in
    let more : f.2 ≡ g.2 = one_fit t f.2 g.2 f.1 s.2 f.7 (subst (λ (r : List ℕ). Fits t g.2 r) (sym e.1) g.7) in
    f.4 ∙ rw (e.0, more) refl ∙ sym g.4

-- two patterns that differ first in two bytes, or of which one goes on where the other ends
abbrev pub apart : List ℕ → List ℕ → Bool
apart [] [] = false
apart [] (y ∷ t) = true
apart (x ∷ s) [] = true
apart (x ∷ s) (y ∷ t) = cond (x == y) (apart s t) (ltb x 256 && ltb y 256)

nothing : (x : ℕ) (t : List ℕ) (vs : List (List ℕ)) (p : List ℕ) → p ≡ [] → Fits (x ∷ t) vs p → ⊥
nothing x t vs p e (inl f) =
    let q : x ∷ f.0 ≡ [] = sym f.2 ∙ e in
    cc q
nothing x t vs p e (inr f) = by f.0 f.5 (sym f.6 ∙ e)
  where
    by : (v : List ℕ) → IsParameter v → v ++ f.1 ≡ [] → ⊥
    by [] h q = absurd (omega (arith, h.0))
    by (b ∷ v) h q = cc q

pub no_two : (s t : List ℕ) (us vs : List (List ℕ)) (p : List ℕ) → Simple s → Simple t → apart s t ≡ true → Fits s us p → Fits t vs p → ⊥
no_two [] [] us vs p hs ht a f g = cc a
no_two [] (y ∷ t) us vs p hs ht a f g = nothing y t vs p f.1 g
no_two (x ∷ s) [] us vs p hs ht a f g = nothing x s us p g.1 f
no_two (x ∷ s) (y ∷ t) us vs p hs ht a f g =
    by (x == y) refl a f g (λ us2 vs2 q a2 f2 g2. no_two s t us2 vs2 q hs.2 ht.2 a2 f2 g2)
  where
    by : (v : Bool) → (x == y) ≡ v → cond v (apart s t) (ltb x 256 && ltb y 256) ≡ true → Fits (x ∷ s) us p → Fits (y ∷ t) vs p
        → ((us2 vs2 : List (List ℕ)) (q : List ℕ) → apart s t ≡ true → Fits s us2 q → Fits t vs2 q → ⊥) → ⊥
    by true q a (inl f) (inl g) ih =
        let r : f.0 ≡ g.0 = (let z : x ∷ f.0 ≡ y ∷ g.0 = sym f.2 ∙ g.2 in cc z) in
        ih us vs f.0 a f.3 (subst (λ (r : List ℕ). Fits t vs r) (sym r) g.3)
    by true q a (inl f) (inr g) ih =
        let e : x ≡ y = grind (arith, nat_tests) in
        let is : y ≡ 256 = g.3 in
        absurd (omega (arith, f.1, is, e))
    by true q a (inr f) (inl g) ih =
        let e : x ≡ y = grind (arith, nat_tests) in
        let is : x ≡ 256 = f.3 in
        absurd (omega (arith, g.1, is, e))
    by true q a (inr f) (inr g) ih =
        let ends = same_front f.0 g.0 f.1 g.1 f.5.1 g.5.1 (at_slash s f.2 f.1 (hs.1 f.3) f.7) (at_slash t g.2 g.1 (ht.1 g.3) g.7) (sym f.6 ∙ g.6) in
        ih f.2 g.2 f.1 a f.7 (subst (λ (r : List ℕ). Fits t g.2 r) (sym ends.1) g.7)
    by false q a (inl f) (inl g) ih =
        let e : x ≡ y = (let z : x ∷ f.0 ≡ y ∷ g.0 = sym f.2 ∙ g.2 in cc z) in
        absurd (grind (arith, nat_tests))
    by false q a (inl f) (inr g) ih =
        let is : y ≡ 256 = g.3 in
        absurd (grind (arith, nat_tests))
    by false q a (inr f) g ih =
        let is : x ≡ 256 = f.3 in
        absurd (grind (arith, nat_tests))

module _ {K : Type 0} where
  abbrev pub Reaches : Option K → Type 0
  Reaches found = (k : K) × (found ≡ Some k)

  own-in : (rs : RowsOf K) (k : K) → own rs ≡ Some k → In [] k rs
  own-in [] k e = cc e
  own-in (([], j) ∷ rs) k e =
      let q : j ≡ k = cc e in
      inl (refl, q)
  own-in ((x ∷ t, j) ∷ rs) k e = inr (own-in rs k e)

  own-reaches : (rs : RowsOf K) (k : K) → In [] k rs → Reaches (own rs)
  own-reaches [] k h = absurd h
  own-reaches (([], j) ∷ rs) k h = (j, refl)
  own-reaches ((x ∷ t, j) ∷ rs) k (inl h) = cc (h.0)
  own-reaches ((x ∷ t, j) ∷ rs) k (inr h) = own-reaches rs k h

  step-in : (b : ℕ) (rs : RowsOf K) (t : List ℕ) (k : K) → In t k (step b rs) → In (b ∷ t) k rs
  step-in b [] t k h = absurd h
  step-in b (([], j) ∷ rs) t k h = inr (step-in b rs t k h)
  step-in b ((x ∷ s, j) ∷ rs) t k h = by (x == b) refl h (step-in b rs t k)
    where
      by : (v : Bool) → (x == b) ≡ v → In t k (cond v ((s, j) ∷ step b rs) (step b rs)) → (In t k (step b rs) → In (b ∷ t) k rs) → In (b ∷ t) k ((x ∷ s, j) ∷ rs)
      by true q (inl h) ih =
          let e : x ≡ b = grind (arith, nat_tests) in
          inl (rw (e, h.0) refl, h.1)
      by true q (inr h) ih = inr (ih h)
      by false q h ih = inr (ih h)

  in-step : (b : ℕ) (rs : RowsOf K) (t : List ℕ) (k : K) → In (b ∷ t) k rs → In t k (step b rs)
  in-step b [] t k h = absurd h
  in-step b (([], j) ∷ rs) t k (inl h) = cc (h.0)
  in-step b (([], j) ∷ rs) t k (inr h) = in-step b rs t k h
  in-step b ((x ∷ s, j) ∷ rs) t k (inl h) =
      let e : x ≡ b = cc (h.0) in
      let r : s ≡ t = cc (h.0) in
      let q : (x == b) ≡ true = grind (arith, nat_tests) in
      rw q (inl (r, h.1))
  in-step b ((x ∷ s, j) ∷ rs) t k (inr h) =
      let ih = in-step b rs t k h in
      elim (x == b) as (λ v. In t k (cond v ((s, j) ∷ step b rs) (step b rs))) [ true ↦ inr ih | false ↦ ih ]

  or_else-some : (a b : Option K) (k : K) → or_else a b ≡ Some k → (a ≡ Some k) ⊎ (b ≡ Some k)
  or_else-some None b k e = inr e
  or_else-some (Some j) b k e = inl e

  or_else-left : (a b : Option K) → Reaches a → Reaches (or_else a b)
  or_else-left None b h = cc (h.1)
  or_else-left (Some j) b h = (j, refl)

  or_else-right : (a b : Option K) → Reaches b → Reaches (or_else a b)
  or_else-right None b h = h
  or_else-right (Some j) b h = (j, refl)

  -- what is found is written so

  abbrev Found : Bool → RowsOf K → List ℕ → K → Type 0
  Found false rs p k = (t : List ℕ) × (vs : List (List ℕ)) × In t k rs × Fits t vs p
  Found true rs p k = (t : List ℕ) × (vs : List (List ℕ)) × (v rest : List ℕ) × In t k rs × NoSlash v × (p ≡ v ++ rest) × Fits t vs rest

  sound : (p : List ℕ) (i : Bool) (rs : RowsOf K) (k : K) → Bytes p → go i rs p ≡ Some k → Found i rs p k
  sound [] true rs k h e = ([], [], [], [], own-in rs k e, tt, refl, (refl, refl))
  sound [] false rs k h e = ([], [], own-in rs k e, (refl, refl))
  sound (b ∷ p) true rs k h e = by (b == 47) refl e (λ i r. sound p i r k h.1)
    where
      by : (v : Bool) → (b == 47) ≡ v → cond v (go false (step 47 rs) p) (go true rs p) ≡ Some k
          → ((i : Bool) (r : RowsOf K) → go i r p ≡ Some k → Found i r p k) → Found true rs (b ∷ p) k
      by true q e ih =
          let is : b ≡ 47 = grind (arith, nat_tests) in
          let f = ih false (step 47 rs) e in
          let low : 47 < 256 = omega arith in
          (47 ∷ f.0, f.1, [], b ∷ p, step-in 47 rs f.0 k f.2, tt, refl, inl (p, low, ap (λ (x : ℕ). x ∷ p) is, f.3))
      by false q e ih =
          let not_so : b ≢ 47 = λ z. grind (arith, nat_tests) in
          let f = ih true rs e in
          (f.0, f.1, b ∷ f.2, f.3, f.4, (not_so, f.5), ap (λ (xs : List ℕ). b ∷ xs) f.6, f.7)
  sound (b ∷ p) false rs k h e = by (or_else-some _ _ k e) (λ i r. sound p i r k h.1)
    where
      last : (v : Bool) → (b == 47) ≡ v → cond v None (go true (step 256 rs) p) ≡ Some k
          → (go true (step 256 rs) p ≡ Some k → Found true (step 256 rs) p k) → Found false rs (b ∷ p) k
      last true q e ih = cc e
      last false q e ih =
          let not_so : b ≢ 47 = λ z. grind (arith, nat_tests) in
          let f = ih e in
          let some : 0 < length (b ∷ f.2) = omega arith in (
            256 ∷ f.0,
            (b ∷ f.2) ∷ f.1,
            step-in 256 rs f.0 k f.4,
            inr (b ∷ f.2, f.3, f.1, refl, refl, (some, (not_so, f.5)), ap (λ (xs : List ℕ). b ∷ xs) f.6, f.7),
          )

      by : (go false (step b rs) p ≡ Some k) ⊎ (cond (b == 47) None (go true (step 256 rs) p) ≡ Some k)
          → ((i : Bool) (r : RowsOf K) → go i r p ≡ Some k → Found i r p k) → Found false rs (b ∷ p) k
      by (inl e) ih =
          let f = ih false (step b rs) e in
          (b ∷ f.0, f.1, step-in b rs f.0 k f.2, inl (p, h.0, refl, f.3))
      by (inr e) ih = last (b == 47) refl e (ih true (step 256 rs))

  -- what is written so is found

  through : (v rest : List ℕ) (rs : RowsOf K) → NoSlash v → Reaches (go true rs rest) → Reaches (go true rs (v ++ rest))
  through [] rest rs n h = h
  through (b ∷ v) rest rs n h =
      let e : (b == 47) ≡ false = grind (arith, nat_tests, n.0) in
      rw e (through v rest rs n.1 h)

  total : (t : List ℕ) (rs : RowsOf K) (k : K) (vs : List (List ℕ)) (p : List ℕ) → Simple t → In t k rs → Fits t vs p
      → Reaches (go false rs p) × (Ends t → Reaches (go true rs p))
  total [] rs k vs p s h f = rw (f.1) (own-reaches rs k h, λ z. own-reaches rs k h)
  total (x ∷ t) rs k vs p s h (inl f) =
      let ih = total t (step x rs) k vs f.0 s.2 (in-step x rs t k h) f.3 in
      rw (f.2) (or_else-left (go false (step x rs) f.0) _ ih.0, by ih.0)
    where
      by : Reaches (go false (step x rs) f.0) → x ≡ 47 → Reaches (go true rs (x ∷ f.0))
      by r e =
          let r2 : Reaches (go false (step 47 rs) f.0) = subst (λ (y : ℕ). Reaches (go false (step y rs) f.0)) e r in
          rw e r2
  total (x ∷ t) rs k vs p s h (inr f) =
      let is : x ≡ 256 = f.3 in
      let ends : Ends t = s.1 is in
      let ih = total t (step x rs) k f.2 f.1 s.2 (in-step x rs t k h) f.7 in
      let inside : Reaches (go true (step 256 rs) f.1) = subst (λ (y : ℕ). Reaches (go true (step y rs) f.1)) is (ih.1 ends) in
      (rw (f.6) (by f.0 f.5 inside), λ z. absurd (omega (arith, z, is)))
    where
      by : (v : List ℕ) → IsParameter v → Reaches (go true (step 256 rs) f.1) → Reaches (go false rs (v ++ f.1))
      by [] n r = absurd (omega (arith, n.0))
      by (b ∷ v) n r =
          let e : (b == 47) ≡ false = grind (arith, nat_tests, n.1.0) in
          let q : Reaches (cond (b == 47) None (go true (step 256 rs) (v ++ f.1))) = rw e (through v f.1 (step 256 rs) n.1.1 r) in
          or_else-right (go false (step b rs) (v ++ f.1)) _ q

  -- ---- and of matchit's own walk

  pub found_fits : (rs : RowsOf K) (p : List ℕ) (k : K) → RowsSimple rs → Bytes p → first rs p ≡ Some k → (t : List ℕ) × (vs : List (List ℕ)) × In t k rs × Fits t vs p
  found_fits rs p k s h e =
      let w = same_walk (length p) rs p (omega arith) s in
      sound p false rs k h (sym w ∙ e)

  pub fits_found : (rs : RowsOf K) (t : List ℕ) (k : K) (vs : List (List ℕ)) (p : List ℕ) → RowsSimple rs → Simple t → In t k rs → Fits t vs p → Reaches (first rs p)
  fits_found rs t k vs p s st h f =
      let w = same_walk (length p) rs p (omega arith) s in
      let r = (total t rs k vs p st h f).0 in
      (r.0, w ∙ r.1)
