-- The open parts summed month by month are the paid parts, each times the months begun until it was paid, and what is
-- still open times all months begun.
use Rattle.std.proofs.Common.{◌≡◌, ℕ, ◌+◌, ◌-◌, ◌*◌, ◌<◌, ◌≤◌, Bool, true, false, List, [], ◌∷◌, length, get_or, min, max, nat_lt, nat_le, cond, refl, sym, ap, ◌∙◌, arith, suc}
use Rattle.std.proofs.Math.Nat.{mul-add, mul-suc, mul-one}
use Rattle.std.specs.List.{All, sum_by, count_by, filter}
use Rattle.std.specs.List.Sorted.{IsNonDecreasingBy}
use Rattle.std.proofs.lemmas.List.Sums.{sum_by-cons, length-filter}
use Rattle.std.proofs.lemmas.Bool.{ltb-true, lt-ltb, leb-false, lt-leb}
use Rattle.std.proofs.lemmas.Bool.Decides.{nat_tests}
use Rattle.clear_account.proofs.StretchLemmas.{sums_from, sums_from-overlap}

-- ---- sums
sum_by-add : {X : Type 0} (f g : X → ℕ) (xs : List X) → sum_by (λ x. f x + g x) xs ≡ sum_by f xs + sum_by g xs
sum_by-add f g [] = omega arith
sum_by-add f g (x ∷ xs) = omega (arith, sum_by-cons (λ y. f y + g y) x xs, sum_by-cons f x xs, sum_by-cons g x xs, sum_by-add f g xs)

sum_by-const : {X : Type 0} (n : ℕ) (xs : List X) → sum_by (λ x. n) xs ≡ n * length xs
sum_by-const n [] = omega arith
sum_by-const n (x ∷ xs) = omega (arith, sum_by-cons (λ y. n) x xs, sum_by-const n xs, mul-suc n (length xs))

cond_times : (v : Bool) (n c : ℕ) → cond v n 0 + n * c ≡ n * (cond v 1 0 + c)
cond_times true n c = omega (arith, mul-add n 1 c, mul-one n)
cond_times false n c = omega (arith, mul-add n 0 c)

sum_by-cond : {X : Type 0} (n : ℕ) (b : X → Bool) (xs : List X) → sum_by (λ x. cond (b x) n 0) xs ≡ n * count_by b xs
sum_by-cond n b [] = omega arith
sum_by-cond n b (x ∷ xs) =
    sum_by-cons (λ y. cond (b y) n 0) x xs
    ∙ ap (λ z. cond (b x) n 0 + z) (sum_by-cond n b xs)
    ∙ cond_times (b x) n (count_by b xs)
    ∙ ap (λ z. n * z) (sym (sum_by-cons (λ y. cond (b y) 1 0) x xs))

-- counting those that pass b among those that pass a, where b passes only what a passes
count_step : {X : Type 0} (a b : X → Bool) (x : X) (xs : List X) (u v : Bool) → a x ≡ u → b x ≡ v → (v ≡ true → u ≡ true) → count_by b (filter a xs) ≡ count_by b xs → count_by b (filter a (x ∷ xs)) ≡ count_by b (x ∷ xs)
count_step a b x xs true v p q h e =
    ap (λ w. count_by b (cond w (x ∷ filter a xs) (filter a xs))) p
    ∙ sum_by-cons (λ y. cond (b y) 1 0) x (filter a xs)
    ∙ ap (λ z. cond (b x) 1 0 + z) e
    ∙ sym (sum_by-cons (λ y. cond (b y) 1 0) x xs)
count_step a b x xs false true p q h e = let absurdity : false ≡ true = h refl in cc
count_step a b x xs false false p q h e =
    ap (λ w. count_by b (cond w (x ∷ filter a xs) (filter a xs))) p
    ∙ e
    ∙ omega arith
    ∙ ap (λ w. cond w 1 0 + count_by b xs) (sym q)
    ∙ sym (sum_by-cons (λ y. cond (b y) 1 0) x xs)

count_by-filter : {X : Type 0} (a b : X → Bool) → ((x : X) → b x ≡ true → a x ≡ true) → (xs : List X) → count_by b (filter a xs) ≡ count_by b xs
count_by-filter a b h [] = refl
count_by-filter a b h (x ∷ xs) = count_step a b x xs (a x) (b x) refl refl (h x) (count_by-filter a b h xs)

module _ {X : Type 0} (amount : X → ℕ) where
  sums-add : (G H K : ℕ → ℕ → X → ℕ) → ((q r : ℕ) (x : X) → G q r x + H q r x ≡ K q r x) → (p : ℕ) (xs : List X) → sums_from amount G p xs + sums_from amount H p xs ≡ sums_from amount K p xs
  sums-add G H K h p [] = omega arith
  sums-add G H K h p (x ∷ xs) = omega (arith, h p (p + amount x) x, sums-add G H K h (p + amount x) xs)

  sums-same : (P : X → Type 0) (G H : ℕ → ℕ → X → ℕ) → ((q r : ℕ) (x : X) → P x → G q r x ≡ H q r x) → (p : ℕ) (xs : List X) → All P xs → sums_from amount G p xs ≡ sums_from amount H p xs
  sums-same P G H h p [] all = refl
  sums-same P G H h p (x ∷ xs) all =
      (λ i. h p (p + amount x) x (all 0 x (omega arith)) i + sums-same P G H h (p + amount x) xs (λ k d lt. all (suc k) d (omega arith)) i)

  -- the k-th sum leaves out what does not pass
  sum_by-sums : (b : ℕ → X → Bool) (s e p : ℕ) (xs : List X) (ks : List ℕ) → sum_by (λ k. sums_from amount (λ q r x. cond (b k x) (min e r - max s q) 0) p xs) ks ≡ sums_from amount (λ q r x. (min e r - max s q) * count_by (λ k. b k x) ks) p xs
  sum_by-sums b s e p [] ks = sum_by-const 0 ks ∙ omega arith
  sum_by-sums b s e p (x ∷ xs) ks =
      sum_by-add (λ k. cond (b k x) (min e (p + amount x) - max s p) 0) (λ k. sums_from amount (λ q r y. cond (b k y) (min e r - max s q) 0) (p + amount x) xs) ks
      ∙ (λ i. sum_by-cond (min e (p + amount x) - max s p) (λ k. b k x) ks i + sum_by-sums b s e (p + amount x) xs ks i)

module _ {X : Type 0} (amount day : X → ℕ) where
  -- the amounts of those dated up to and on a day
  abbrev by : ℕ → List X → ℕ
  by d xs = sum_by amount (filter (λ x. nat_le (day x) d) xs)

  by-yes : (d : ℕ) (x : X) (xs : List X) → nat_le (day x) d ≡ true → by d (x ∷ xs) ≡ amount x + by d xs
  by-yes d x xs is = ap (λ w. sum_by amount (cond w (x ∷ filter (λ y. nat_le (day y) d) xs) (filter (λ y. nat_le (day y) d) xs))) is ∙ sum_by-cons amount x (filter (λ y. nat_le (day y) d) xs)

  by-no : (d : ℕ) (x : X) (xs : List X) → nat_le (day x) d ≡ false → by d (x ∷ xs) ≡ by d xs
  by-no d x xs is = ap (λ w. sum_by amount (cond w (x ∷ filter (λ y. nat_le (day y) d) xs) (filter (λ y. nat_le (day y) d) xs))) is

  none_by : (d : ℕ) (xs : List X) → All (λ x. d < day x) xs → by d xs ≡ 0
  none_by d [] all = refl
  none_by d (x ∷ xs) all = by-no d x xs (lt-leb (day x) d (all 0 x (omega arith))) ∙ none_by d xs (λ k o lt. all (suc k) o (omega arith))

  reached_step : (d s e p : ℕ) (x : X) (xs : List X) (u : Bool) → nat_le (day x) d ≡ u → s ≤ e → (u ≡ false → by d xs ≡ 0) → sums_from amount (λ q r y. cond (nat_le (day y) d) (min e r - max s q) 0) (p + amount x) xs ≡ min e (p + amount x + by d xs) - max s (p + amount x) → sums_from amount (λ q r y. cond (nat_le (day y) d) (min e r - max s q) 0) p (x ∷ xs) ≡ min e (p + by d (x ∷ xs)) - max s p
  reached_step d s e p x xs true is h z rest =
      let here : cond (nat_le (day x) d) (min e (p + amount x) - max s p) 0 ≡ min e (p + amount x) - max s p = ap (λ w. cond w (min e (p + amount x) - max s p) 0) is in
      let sum : by d (x ∷ xs) ≡ amount x + by d xs = by-yes d x xs is in
      omega arith
  reached_step d s e p x xs false is h z rest =
      let here : cond (nat_le (day x) d) (min e (p + amount x) - max s p) 0 ≡ 0 = ap (λ w. cond w (min e (p + amount x) - max s p) 0) is in
      let sum : by d (x ∷ xs) ≡ by d xs = by-no d x xs is in
      let none : by d xs ≡ 0 = z refl in
      omega arith

  later : (x : X) (xs : List X) → IsNonDecreasingBy day (x ∷ xs) → (d : ℕ) → d < day x → All (λ y. d < day y) xs
  later x xs order d h k o lt = let step : day x ≤ day (get_or xs k o) = order 0 (suc k) o (omega arith) (omega arith) in omega arith

  rest_in_order : (x : X) (xs : List X) → IsNonDecreasingBy day (x ∷ xs) → IsNonDecreasingBy day xs
  rest_in_order x xs order i j o le lt = order (suc i) (suc j) o (omega arith) (omega arith)

  -- what those dated up to and on a day have in common with the stretch from s to e
  reached : (d s e p : ℕ) (xs : List X) → s ≤ e → IsNonDecreasingBy day xs → sums_from amount (λ q r x. cond (nat_le (day x) d) (min e r - max s q) 0) p xs ≡ min e (p + by d xs) - max s p
  reached d s e p [] h order = omega arith
  reached d s e p (x ∷ xs) h order =
      reached_step d s e p x xs (nat_le (day x) d) refl h
      (λ is. none_by d xs (later x xs order d (leb-false (day x) d is)))
      (reached d s e (p + amount x) xs h (rest_in_order x xs order))

  early_or_late : (u v n : ℕ) → cond (nat_le u v) n 0 + cond (nat_lt v u) n 0 ≡ n
  early_or_late u v n = grind (arith, nat_tests)

  -- what is open on a day is what stays open and what is paid later
  open_then : (d s c : ℕ) (xs : List X) → IsNonDecreasingBy day xs → c - min c (by d xs - s) ≡ (c - sums_from amount (λ q r x. min (s + c) r - max s q) 0 xs) + sums_from amount (λ q r x. cond (nat_lt d (day x)) (min (s + c) r - max s q) 0) 0 xs
  open_then d s c xs order =
      let all : sums_from amount (λ q r x. min (s + c) r - max s q) 0 xs ≡ min (s + c) (0 + sum_by amount xs) - max s 0 = sums_from-overlap amount s (s + c) 0 xs (omega arith) in
      let early : sums_from amount (λ q r x. cond (nat_le (day x) d) (min (s + c) r - max s q) 0) 0 xs ≡ min (s + c) (0 + by d xs) - max s 0 = reached d s (s + c) 0 xs (omega arith) order in
      let both : sums_from amount (λ q r x. cond (nat_le (day x) d) (min (s + c) r - max s q) 0) 0 xs + sums_from amount (λ q r x. cond (nat_lt d (day x)) (min (s + c) r - max s q) 0) 0 xs ≡ sums_from amount (λ q r x. min (s + c) r - max s q) 0 xs = sums-add amount _ _ _ (λ q r x. early_or_late (day x) d (min (s + c) r - max s q)) 0 xs in
      omega arith

  earlier : (u v t : ℕ) → v ≤ t → nat_lt u v ≡ true → nat_lt u t ≡ true
  earlier u v t h is = let lt : u < v = ltb-true u v is in lt-ltb u t (omega arith)

  -- the open parts on the days before t, summed
  pub weight_by_pieces : (s c t : ℕ) (due : ℕ → ℕ) (steps : List ℕ) (xs : List X) → IsNonDecreasingBy day xs → All (λ x. day x ≤ t) xs → sum_by (λ k. c - min c (by (due k) xs - s)) (filter (λ k. nat_lt (due k) t) steps) ≡ sums_from amount (λ q r x. (min (s + c) r - max s q) * count_by (λ k. nat_lt (due k) (day x)) steps) 0 xs + (c - sums_from amount (λ q r x. min (s + c) r - max s q) 0 xs) * count_by (λ k. nat_lt (due k) t) steps
  weight_by_pieces s c t due steps xs order early =
      let ks : List ℕ = filter (λ k. nat_lt (due k) t) steps in
      let left : ℕ = c - sums_from amount (λ q r x. min (s + c) r - max s q) 0 xs in
      let late : ℕ → ℕ = λ k. sums_from amount (λ q r x. cond (nat_lt (due k) (day x)) (min (s + c) r - max s q) 0) 0 xs in
      let parts : sum_by late ks ≡ sums_from amount (λ q r x. (min (s + c) r - max s q) * count_by (λ k. nat_lt (due k) (day x)) steps) 0 xs =
      sum_by-sums amount (λ k x. nat_lt (due k) (day x)) s (s + c) 0 xs ks
      ∙ sums-same amount (λ x. day x ≤ t) _ _ (λ q r x h. ap (λ n. (min (s + c) r - max s q) * n) (count_by-filter (λ k. nat_lt (due k) t) (λ k. nat_lt (due k) (day x)) (λ k. earlier (due k) (day x) t h) steps)) 0 xs early in
      let whole : sum_by (λ k. left) ks ≡ left * count_by (λ k. nat_lt (due k) t) steps = sum_by-const left ks ∙ ap (λ n. left * n) (length-filter (λ k. nat_lt (due k) t) steps) in
      let split : sum_by (λ k. c - min c (by (due k) xs - s)) ks ≡ sum_by (λ k. left) ks + sum_by late ks = (λ i. sum_by (λ k. open_then (due k) s c xs order i) ks) ∙ sum_by-add (λ k. left) late ks in
      split ∙ (λ i. whole i + parts i) ∙ omega arith
