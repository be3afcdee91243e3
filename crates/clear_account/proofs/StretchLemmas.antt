-- Stretches of cents, one behind the other: a sum or a join over indices, each with the sums of the first elements, is a
-- walk along the list with a running sum.
use Rattle.std.proofs.Common.{◌≡◌, ℕ, ◌+◌, ◌-◌, ◌≤◌, List, [], ◌∷◌, ◌++◌, length, get_or, take, min, max, refl, sym, ap, ◌∙◌, arith, append_assoc}
use Rattle.std.specs.List.{sum_by, flat_map, range_with_len}
use Rattle.std.proofs.lemmas.List.{take_at, get_or_at, length_push, map-id}
use Rattle.std.proofs.lemmas.List.FromFn.{map-range_with_len_more}
use Rattle.std.proofs.lemmas.List.Sums.{sum_by-cons, sum_by_push}

module _ {X : Type 0} (f : X → ℕ) where
  -- a sum along the list; each element has where it begins and where it ends
  abbrev pub sums_from : (ℕ → ℕ → X → ℕ) → ℕ → List X → ℕ
  sums_from G p [] = 0
  sums_from G p (x ∷ xs) = G p (p + f x) x + sums_from G (p + f x) xs

  -- a join along the list
  abbrev pub parts_from : {Y : Type 0} → (ℕ → ℕ → X → List Y) → ℕ → List X → List Y
  parts_from G p [] = []
  parts_from G p (x ∷ xs) = G p (p + f x) x ++ parts_from G (p + f x) xs

  -- what the stretches from p on have in common with the stretch from s to e
  pub sums_from-overlap : (s e p : ℕ) (xs : List X) → s ≤ e → sums_from (λ q r x. min e r - max s q) p xs ≡ min e (p + sum_by f xs) - max s p
  sums_from-overlap s e p [] h = omega arith
  sums_from-overlap s e p (x ∷ xs) h = omega (arith, sum_by-cons f x xs, sums_from-overlap s e (p + f x) xs h)

module _ {X : Type 0} (f : X → ℕ) (d : X) where
  -- where the elements before sum to p, the next one begins at p and ends at its own amount behind p
  pub record At (all before : List X) (x : X) (xs : List X) (n p : ℕ) : Type 0 where
    pub front : all ≡ (before ++ x ∷ []) ++ xs
    pub place : n + 1 ≡ length (before ++ x ∷ [])
    pub ends : p + f x ≡ sum_by f (before ++ x ∷ [])
    pub start : sum_by f (take n all) ≡ p
    pub end : sum_by f (take (n + 1) all) ≡ p + f x
    pub item : get_or all n d ≡ x

  pub at : (all before : List X) (x : X) (xs : List X) (n p : ℕ) → all ≡ before ++ x ∷ xs → n ≡ length before → p ≡ sum_by f before → At all before x xs n p
  at all before x xs n p e l s =
      let front : all ≡ (before ++ x ∷ []) ++ xs = e ∙ sym (append_assoc before (x ∷ []) xs) in
      let place : n + 1 ≡ length (before ++ x ∷ []) = omega (arith, length_push before x) in
      let ends : p + f x ≡ sum_by f (before ++ x ∷ []) = omega (arith, sum_by_push f before x) in
      record {
        front = front;
        place = place;
        ends = ends;
        start = ap (λ ys. sum_by f (take n ys)) e ∙ ap (sum_by f) (take_at before (x ∷ xs) n (sym l)) ∙ sym s;
        end = ap (λ ys. sum_by f (take (n + 1) ys)) front ∙ ap (sum_by f) (take_at (before ++ x ∷ []) xs (n + 1) (sym place)) ∙ sym ends;
        item = ap (λ ys. get_or ys n d) e ∙ get_or_at before x xs d n (sym l);
      }

  sum_by-range_from : (G : ℕ → ℕ → X → ℕ) (all before xs : List X) (n p : ℕ) → all ≡ before ++ xs → n ≡ length before → p ≡ sum_by f before → sum_by (λ j. G (sum_by f (take j all)) (sum_by f (take (j + 1) all)) (get_or all j d)) (range_with_len n (length xs)) ≡ sums_from f G p xs
  sum_by-range_from G all before [] n p e l s = refl
  sum_by-range_from G all before (x ∷ xs) n p e l s =
      let h = at all before x xs n p e l s in
      sum_by-cons (λ j. G (sum_by f (take j all)) (sum_by f (take (j + 1) all)) (get_or all j d)) n (range_with_len (n + 1) (length xs))
      ∙ (λ i. G (h.start i) (h.end i) (h.item i) + sum_by-range_from G all (before ++ x ∷ []) xs (n + 1) (p + f x) h.front h.place h.ends i)

  flat_map-range_from : {Y : Type 0} (G : ℕ → ℕ → X → List Y) (all before xs : List X) (n p : ℕ) → all ≡ before ++ xs → n ≡ length before → p ≡ sum_by f before → flat_map (λ j. G (sum_by f (take j all)) (sum_by f (take (j + 1) all)) (get_or all j d)) (range_with_len n (length xs)) ≡ parts_from f G p xs
  flat_map-range_from G all before [] n p e l s = refl
  flat_map-range_from G all before (x ∷ xs) n p e l s =
      let h = at all before x xs n p e l s in
      (λ i. G (h.start i) (h.end i) (h.item i) ++ flat_map-range_from G all (before ++ x ∷ []) xs (n + 1) (p + f x) h.front h.place h.ends i)

  pub sum_by-range : (G : ℕ → ℕ → X → ℕ) (xs : List X) → sum_by (λ j. G (sum_by f (take j xs)) (sum_by f (take (j + 1) xs)) (get_or xs j d)) (range_with_len 0 (length xs)) ≡ sums_from f G 0 xs
  sum_by-range G xs = sum_by-range_from G xs [] xs 0 0 refl refl refl

  pub flat_map-range : {Y : Type 0} (G : ℕ → ℕ → X → List Y) (xs : List X) → flat_map (λ j. G (sum_by f (take j xs)) (sum_by f (take (j + 1) xs)) (get_or xs j d)) (range_with_len 0 (length xs)) ≡ parts_from f G 0 xs
  flat_map-range G xs = flat_map-range_from G xs [] xs 0 0 refl refl refl

-- a sum over one index more
pub sum_by-range_more : (g : ℕ → ℕ) (n : ℕ) → sum_by g (range_with_len 0 (n + 1)) ≡ sum_by g (range_with_len 0 n) + g n
sum_by-range_more g n =
    let more : range_with_len 0 (n + 1) ≡ range_with_len 0 n ++ n ∷ [] =
    sym (map-id (range_with_len 0 (n + 1))) ∙ map-range_with_len_more (λ (k : ℕ). k) 0 n n (omega arith) ∙ ap (λ xs. xs ++ n ∷ []) (map-id (range_with_len 0 n)) in
    ap (sum_by g) more ∙ sum_by_push g (range_with_len 0 n) n
