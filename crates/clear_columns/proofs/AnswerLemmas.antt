-- Answers that are read row by row.
use Rattle.std.proofs.Common.{◌≡◌, ℕ, zero, suc, ◌<◌, ◌+◌, List, [], ◌∷◌, ◌++◌, Some, length, map, take, get_or, slice_get, refl, sym, ap, add-one, subst, ◌∙◌, arith}
use Rattle.std.specs.List.{AllByRecursion}
use Rattle.sqlite.specs.Order.{Row}

module _ {X : Type 0} (show : X → Row) where
  -- the row at a place shows one of those that are shown
  pub shown_at : (xs : List X) (i : ℕ) (row : Row) → i < length (map show xs) → row ≡ get_or (map show xs) i row → (x : X) × (row ≡ show x) × (take (suc i) xs ≡ take i xs ++ x ∷ []) × ((P : X → Type 0) → AllByRecursion P xs → P x)
  shown_at [] i row lt is = absurd (omega arith)
  shown_at (x ∷ xs) zero row lt is = (x, is, refl, λ P all. all.0)
  shown_at (x ∷ xs) (suc i) row lt is =
      let more = shown_at xs i row (omega arith) is in
      (more.0, more.1, ap (λ l. x ∷ l) more.2, λ P all. more.3 P all.1)

  -- one more row is read
  pub reads_more : (rows : List Row) (i : ℕ) (row : Row) (got : X) (before after : List X) → i < length rows → row ≡ get_or rows i row → ((xs : List X) → rows ≡ map show xs → before ≡ take i xs)
      → ((x : X) → row ≡ show x → got ≡ x) → after ≡ before ++ got ∷ [] → (xs : List X) → rows ≡ map show xs → after ≡ take (i + 1) xs
  reads_more rows i row got before after lt is so_far reads pushed xs same =
      let it = shown_at xs i row (subst (λ l. i < length l) same lt) (subst (λ l. row ≡ get_or l i row) same is) in
      pushed ∙ ap (λ l. l ++ got ∷ []) (so_far xs same) ∙ ap (λ x. take i xs ++ x ∷ []) (reads it.0 it.1) ∙ sym it.2 ∙ ap (λ n. take n xs) (sym (add-one i))

  -- a row that is out of its range is one of them
  pub out_of_range : (P : X → Type 0) (rows : List Row) (i : ℕ) (row : Row) → i < length rows → row ≡ get_or rows i row → ((x : X) → row ≡ show x → ¬ P x) → (xs : List X) → rows ≡ map show xs → ¬ AllByRecursion P xs
  out_of_range P rows i row lt is bad xs same all =
      let it = shown_at xs i row (subst (λ l. i < length l) same lt) (subst (λ l. row ≡ get_or l i row) same is) in
      bad it.0 it.1 (it.3 P all)

  -- the first row shows the first of those that are shown
  pub shown_first : (rows : List Row) (xs : List X) (row : Row) → Some row ≡ slice_get rows 0 → rows ≡ map show xs → (x : X) × (slice_get xs 0 ≡ Some x) × (row ≡ show x)
  shown_first rows [] row is same = absurd (let e = is ∙ ap (λ l. slice_get l 0) same in cc)
  shown_first rows (x ∷ xs) row is same = (x, refl, (let e = is ∙ ap (λ l. slice_get l 0) same in cc))
