-- What matchit's walk finds over rows whose parameters each fill a whole part between slashes.
use Rattle.std.proofs.Common.{◌≡◌, ◌≢◌, ℕ, zero, suc, ◌-◌, ◌<◌, ◌≤◌, List, [], ◌∷◌, ◌++◌, length, drop, Option, Some, None, Bool, true, false, cond, refl, sym, ap, ◌∙◌, subst, arith, nat_eq, ◌==◌, ltb, ◌&&◌, ◌⊎◌, inl, inr}
use Rattle.std.specs.Prelude.{⊤}
use Rattle.std.proofs.lemmas.Bool.Decides.{nat_tests}
use Rattle.std.specs.Cmp.Lexicographic.{pointwise, bytes_decides}
use Rattle.matchit.specs.Rows.{RowsOf, param_token}
use Rattle.matchit.specs.Seek.{own, step, or_else, seek, param_step, has_slash, segment, cuts, longest_from, with_suffix}
use Rattle.clear_routes.specs.Fitting.{NoSlash}

-- ---- patterns

abbrev pub Ends : List ℕ → Type 0
Ends [] = ⊤
Ends (y ∷ t) = y ≡ 47

-- each parameter is followed by a slash or by nothing, and there is no catch-all
abbrev pub Simple : List ℕ → Type 0
Simple [] = ⊤
Simple (x ∷ t) = (x ≤ 256) × (x ≡ 256 → Ends t) × Simple t

abbrev pub Bytes : List ℕ → Type 0
Bytes [] = ⊤
Bytes (b ∷ bs) = (b < 256) × Bytes bs

-- a target's front without a slash, and what follows
split_slash : (p : List ℕ) → NoSlash p ⊎ ((v rest : List ℕ) × NoSlash v × (p ≡ v ++ 47 ∷ rest))
split_slash [] = inl tt
split_slash (b ∷ p) = by (b == 47) refl (split_slash p)
  where
    by : (t : Bool) → (b == 47) ≡ t → NoSlash p ⊎ ((v rest : List ℕ) × NoSlash v × (p ≡ v ++ 47 ∷ rest))
        → NoSlash (b ∷ p) ⊎ ((v rest : List ℕ) × NoSlash v × (b ∷ p ≡ v ++ 47 ∷ rest))
    by true q r =
        let e : b ≡ 47 = grind (arith, nat_tests) in
        inr ([], p, tt, ap (λ (x : ℕ). x ∷ p) e)
    by false q (inl n) =
        let e : b ≢ 47 = λ h. grind (arith, nat_tests) in
        inl (e, n)
    by false q (inr r) =
        let e : b ≢ 47 = λ h. grind (arith, nat_tests) in
        inr (b ∷ r.0, r.1, (e, r.2), ap (λ (xs : List ℕ). b ∷ xs) r.3)

pub seg-part : (v rest : List ℕ) → NoSlash v → (segment (v ++ 47 ∷ rest) ≡ v ++ 47 ∷ []) × (has_slash (v ++ 47 ∷ rest) ≡ true)
seg-part [] rest n = (refl, refl)
seg-part (b ∷ v) rest n =
    let e : (b == 47) ≡ false = grind (arith, nat_tests, n.0) in
    let ih = seg-part v rest n.1 in
    rw e (ap (λ (xs : List ℕ). b ∷ xs) ih.0, ih.1)

seg-whole : (p : List ℕ) → NoSlash p → (segment p ≡ p) × (has_slash p ≡ false)
seg-whole [] n = (refl, refl)
seg-whole (b ∷ p) n =
    let e : (b == 47) ≡ false = grind (arith, nat_tests, n.0) in
    let ih = seg-whole p n.1 in
    rw e (ap (λ (xs : List ℕ). b ∷ xs) ih.0, ih.1)

no_slash-drop : (n : ℕ) (p : List ℕ) → NoSlash p → NoSlash (drop n p)
no_slash-drop zero p h = h
no_slash-drop (suc n) [] h = tt
no_slash-drop (suc n) (b ∷ p) h = no_slash-drop n p h.1

pub drop-append : (v w : List ℕ) → drop (length v) (v ++ w) ≡ w
drop-append [] w = refl
drop-append (b ∷ v) w = drop-append v w

pub length-more : (v : List ℕ) → length (v ++ 47 ∷ []) ≡ suc (length v)
length-more [] = refl
length-more (b ∷ v) = ap suc (length-more v)

one_less : (n : ℕ) → suc n - 1 ≡ n
one_less n = omega arith

not_slash : (xs : List ℕ) → NoSlash xs → xs ≢ 47 ∷ []
not_slash [] n e = cc e
not_slash (b ∷ xs) n e =
    let h : b ≡ 47 = cc e in
    absurd (n.0 h)

cuts-whole : (p : List ℕ) → NoSlash p → cuts p (47 ∷ []) ≡ false
cuts-whole p n = by (pointwise nat_eq (47 ∷ []) (drop (length p - 1) p)) refl
  where
    by : (t : Bool) → pointwise nat_eq (47 ∷ []) (drop (length p - 1) p) ≡ t → (ltb 1 (length p) && pointwise nat_eq (47 ∷ []) (drop (length p - 1) p)) ≡ false
    by true q = absurd (not_slash (drop (length p - 1) p) (no_slash-drop (length p - 1) p n) (sym ((bytes_decides (47 ∷ []) (drop (length p - 1) p)).0 q)))
    by false q = rw q (elim (ltb 1 (length p)) as (λ t. (t && false) ≡ false) [ true ↦ refl | false ↦ refl ])

cuts-part : (b : ℕ) (v : List ℕ) → cuts ((b ∷ v) ++ 47 ∷ []) (47 ∷ []) ≡ true
cuts-part b v =
    let l : length (v ++ 47 ∷ []) ≡ suc (length v) = length-more v in
    let d : drop (length (b ∷ v)) ((b ∷ v) ++ 47 ∷ []) ≡ 47 ∷ [] = drop-append (b ∷ v) (47 ∷ []) in
    let many : ltb 1 (suc (suc (length v))) ≡ true = grind (arith, nat_tests) in
    rw (l, many, one_less (suc (length v)), d) refl

drop-all : (p : List ℕ) → drop (length p) p ≡ []
drop-all [] = refl
drop-all (b ∷ p) = drop-all p

length-later : (v rest : List ℕ) (n : ℕ) → length (v ++ 47 ∷ rest) ≤ n → length rest ≤ n
length-later [] rest n h = omega arith
length-later (b ∷ v) rest n h = length-later v rest n (omega arith)

module _ {K : Type 0} where
  -- ---- a walk over rows that knows no suffixes: inside a parameter, or not

  abbrev pub go : Bool → RowsOf K → List ℕ → Option K
  go true rs [] = own rs
  go false rs [] = own rs
  go true rs (b ∷ p) = cond (b == 47) (go false (step 47 rs) p) (go true rs p)
  go false rs (b ∷ p) = or_else (go false (step b rs) p) (cond (b == 47) None (go true (step param_token rs) p))

  abbrev pub In : List ℕ → K → RowsOf K → Type 0
  In t k [] = ⊥
  In t k ((s, j) ∷ rs) = ((s ≡ t) × (j ≡ k)) ⊎ In t k rs

  abbrev pub RowsSimple : RowsOf K → Type 0
  RowsSimple [] = ⊤
  RowsSimple ((t, k) ∷ rs) = Simple t × RowsSimple rs

  abbrev pub RowsEnd : RowsOf K → Type 0
  RowsEnd [] = ⊤
  RowsEnd ((t, k) ∷ rs) = Ends t × RowsEnd rs

  step-simple : (b : ℕ) (rs : RowsOf K) → RowsSimple rs → RowsSimple (step b rs)
  step-simple b [] h = tt
  step-simple b (([], k) ∷ rs) h = step-simple b rs h.1
  step-simple b ((x ∷ t, k) ∷ rs) h =
      elim (x == b) as (λ v. RowsSimple (cond v ((t, k) ∷ step b rs) (step b rs))) [
        | true ↦ (h.0.2, step-simple b rs h.1)
        | false ↦ step-simple b rs h.1
      ]

  step-end : (rs : RowsOf K) → RowsSimple rs → RowsEnd (step 256 rs)
  step-end [] h = tt
  step-end (([], k) ∷ rs) h = step-end rs h.1
  step-end ((x ∷ t, k) ∷ rs) h = by (x == 256) refl (step-end rs h.1)
    where
      by : (v : Bool) → (x == 256) ≡ v → RowsEnd (step 256 rs) → RowsEnd (cond v ((t, k) ∷ step 256 rs) (step 256 rs))
      by true q ih =
          let e : x ≡ 256 = grind (arith, nat_tests) in
          (h.0.1 e, ih)
      by false q ih = ih

  no_catch_all : (rs : RowsOf K) → RowsSimple rs → step 257 rs ≡ []
  no_catch_all [] h = refl
  no_catch_all (([], k) ∷ rs) h = no_catch_all rs h.1
  no_catch_all ((x ∷ t, k) ∷ rs) h =
      let low : x ≤ 256 = h.0.0 in
      let e : (x == 257) ≡ false = grind (arith, nat_tests) in
      rw e (no_catch_all rs h.1)

  step-other : (b : ℕ) (rs : RowsOf K) → (47 == b) ≡ false → RowsEnd rs → step b rs ≡ []
  step-other b [] n h = refl
  step-other b (([], k) ∷ rs) n h = step-other b rs n h.1
  step-other b ((x ∷ t, k) ∷ rs) n h =
      rw (h.0, n) (step-other b rs n h.1)

  -- ---- the rows that go on with a slash

  with-step : (rs : RowsOf K) → RowsEnd rs → (step 47 (with_suffix (47 ∷ []) rs) ≡ step 47 rs) × RowsEnd (with_suffix (47 ∷ []) rs)
  with-step [] h = (refl, tt)
  with-step (([], k) ∷ rs) h = with-step rs h.1
  with-step ((x ∷ t, k) ∷ rs) h =
      let ih = with-step rs h.1 in
      rw (h.0) (ap (λ (r : RowsOf K). (t, k) ∷ r) ih.0, (refl, ih.1))

  longest-kept : (seg : List ℕ) (rs : RowsOf K) → RowsEnd rs → longest_from seg (47 ∷ []) rs ≡ 47 ∷ []
  longest-kept seg [] h = refl
  longest-kept seg (([], k) ∷ rs) h = longest-kept seg rs h.1
  longest-kept seg ((x ∷ t, k) ∷ rs) h = rw (h.0) (longest-kept seg rs h.1)

  longest-none : (seg : List ℕ) (rs : RowsOf K) → cuts seg (47 ∷ []) ≡ false → RowsEnd rs → longest_from seg [] rs ≡ []
  longest-none seg [] c h = refl
  longest-none seg (([], k) ∷ rs) c h = longest-none seg rs c h.1
  longest-none seg ((x ∷ t, k) ∷ rs) c h = rw (h.0, c) (longest-none seg rs c h.1)

  longest-slash : (seg : List ℕ) (rs : RowsOf K) → cuts seg (47 ∷ []) ≡ true → RowsEnd rs
      → (longest_from seg [] rs ≡ 47 ∷ []) ⊎ ((longest_from seg [] rs ≡ []) × (step 47 rs ≡ []))
  longest-slash seg [] c h = inr (refl, refl)
  longest-slash seg (([], k) ∷ rs) c h = longest-slash seg rs c h.1
  longest-slash seg ((x ∷ t, k) ∷ rs) c h = rw (h.0, c) (inl (longest-kept seg rs h.1))

  -- ---- the two walks are one

  or_else-none : (a : Option K) → or_else a None ≡ a
  or_else-none None = refl
  or_else-none (Some k) = refl

  param-empty : (p : List ℕ) → (param_step {K = K} [] p).1 ≡ []
  unfolding param_step
  param-empty p =
      elim (has_slash p) as (λ v. (cond {A = ℕ × RowsOf K} v (0, []) (length p, [])).1 ≡ []) [
        | true ↦ refl
        | false ↦ refl
      ]

  seek-none : (n : ℕ) (p : List ℕ) → seek {K = K} n [] p ≡ None
  unfolding seek
  seek-none n [] = refl
  seek-none (suc n) (b ∷ p) = seek-none n p
  seek-none zero (b ∷ p) = simp (seek-none 0 p, param-empty (b ∷ p), seek-none (((param_step {K = K} [] (b ∷ p)).0) - 1) p)

  seek-drop : (n : ℕ) (rs : RowsOf K) (p : List ℕ) → seek n rs p ≡ seek 0 rs (drop n p)
  unfolding seek
  seek-drop zero rs p = refl
  seek-drop (suc n) rs [] = refl
  seek-drop (suc n) rs (b ∷ p) = seek-drop n rs p

  inside-part : (v rest : List ℕ) (rs : RowsOf K) → NoSlash v → go true rs (v ++ 47 ∷ rest) ≡ go false (step 47 rs) rest
  inside-part [] rest rs n = refl
  inside-part (b ∷ v) rest rs n =
      let e : (b == 47) ≡ false = grind (arith, nat_tests, n.0) in
      rw e (inside-part v rest rs n.1)

  inside-whole : (p : List ℕ) (rs : RowsOf K) → NoSlash p → go true rs p ≡ own rs
  inside-whole [] rs n = refl
  inside-whole (b ∷ p) rs n =
      let e : (b == 47) ≡ false = grind (arith, nat_tests, n.0) in
      rw e (inside-whole p rs n.1)

  -- what a parameter's part of the walk gives
  part : RowsOf K → ℕ → List ℕ → Option K
  part ts b p = seek ((param_step ts (b ∷ p)).0 - 1) (param_step ts (b ∷ p)).1 p

  part-slash : (ts : RowsOf K) (p : List ℕ) → RowsEnd ts → part ts 47 p ≡ None
  unfolding part param_step
  part-slash ts p h = rw (longest-none (47 ∷ []) ts refl h) (seek-none 0 p)

  part-whole : (ts : RowsOf K) (b : ℕ) (p : List ℕ) → RowsEnd ts → NoSlash (b ∷ p) → part ts b p ≡ own ts
  unfolding part param_step seek
  part-whole ts b p h n =
      let w = seg-whole (b ∷ p) n in
      rw (w.0, longest-none (b ∷ p) ts (cuts-whole (b ∷ p) n) h, w.1, one_less (length p), seek-drop (length p) ts p, drop-all p) refl

  after-slash : (ts : RowsOf K) (rest : List ℕ) → RowsEnd ts → seek 0 (with_suffix (47 ∷ []) ts) (47 ∷ rest) ≡ seek 0 (step 47 ts) rest
  unfolding seek
  after-slash ts rest h =
      let w = with-step ts h in
      simp (
        w.0,
        step-other 256 (with_suffix (47 ∷ []) ts) refl w.1,
        step-other 257 (with_suffix (47 ∷ []) ts) refl w.1,
        param-empty (47 ∷ rest),
        seek-none ((param_step {K = K} [] (47 ∷ rest)).0 - 1) rest,
        or_else-none,
      )

  part-part : (ts : RowsOf K) (b : ℕ) (v rest : List ℕ) → RowsEnd ts → NoSlash (b ∷ v) → part ts b (v ++ 47 ∷ rest) ≡ seek 0 (step 47 ts) rest
  unfolding part param_step
  part-part ts b v rest h n =
      let w = seg-part (b ∷ v) rest n in
      by (longest-slash ((b ∷ v) ++ 47 ∷ []) ts (cuts-part b v) h) w
    where
      by : (longest_from ((b ∷ v) ++ 47 ∷ []) [] ts ≡ 47 ∷ []) ⊎ ((longest_from ((b ∷ v) ++ 47 ∷ []) [] ts ≡ []) × (step 47 ts ≡ []))
          → ((segment ((b ∷ v) ++ 47 ∷ rest) ≡ (b ∷ v) ++ 47 ∷ []) × (has_slash ((b ∷ v) ++ 47 ∷ rest) ≡ true))
          → part ts b (v ++ 47 ∷ rest) ≡ seek 0 (step 47 ts) rest
      by (inl e) w =
          rw (w.0, e, length-more v, one_less (suc (length v)), one_less (length v), seek-drop (length v) (with_suffix (47 ∷ []) ts) (v ++ 47 ∷ rest), drop-append v (47 ∷ rest))
          (after-slash ts rest h)
      by (inr e) w = rw (w.0, e.0, w.1, e.1) (seek-none 0 (v ++ 47 ∷ rest) ∙ sym (seek-none 0 rest))

  pub same_walk : (n : ℕ) (rs : RowsOf K) (p : List ℕ) → length p ≤ n → RowsSimple rs → seek 0 rs p ≡ go false rs p
  unfolding seek part
  same_walk n rs [] l h = refl
  same_walk zero rs (b ∷ p) l h = absurd (omega arith)
  same_walk (suc n) rs (b ∷ p) l h =
      let ih = same_walk n (step b rs) p (omega arith) (step-simple b rs h) in
      let ends = step-end rs h in
      let rest : part (step 256 rs) b p ≡ cond (b == 47) None (go true (step 256 rs) p) =
      by (b == 47) refl (split_slash p) ends (λ q m. same_walk n (step 47 (step 256 rs)) q m (step-simple 47 (step 256 rs) (step-simple 256 rs h))) in
      rw (ih, no_catch_all rs h, or_else-none (part (step 256 rs) b p), rest) refl
    where
      by : (t : Bool) → (b == 47) ≡ t → NoSlash p ⊎ ((v rest : List ℕ) × NoSlash v × (p ≡ v ++ 47 ∷ rest)) → RowsEnd (step 256 rs)
          → ((q : List ℕ) → length q ≤ n → seek 0 (step 47 (step 256 rs)) q ≡ go false (step 47 (step 256 rs)) q)
          → part (step 256 rs) b p ≡ cond t None (go true (step 256 rs) p)
      by true q s ends ih =
          let e : b ≡ 47 = grind (arith, nat_tests) in
          rw e (part-slash (step 256 rs) p ends)
      by false q (inl none) ends ih =
          let e : b ≢ 47 = λ z. grind (arith, nat_tests) in
          part-whole (step 256 rs) b p ends (e, none) ∙ sym (inside-whole p (step 256 rs) none)
      by false q (inr s) ends ih =
          let e : b ≢ 47 = λ z. grind (arith, nat_tests) in
          let small : length (s.0 ++ 47 ∷ s.1) ≤ n = subst (λ (xs : List ℕ). length xs ≤ n) s.3 (omega arith) in
          rw (s.3) (part-part (step 256 rs) b s.0 s.1 ends (e, s.2) ∙ ih s.1 (length-later s.0 s.1 n small) ∙ sym (inside-part s.0 s.1 (step 256 rs) s.2))
