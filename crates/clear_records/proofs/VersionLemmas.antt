-- Rows whose months rise: a binary search by a month finds the one of the month.
use Rattle.std.proofs.Common.{zero, suc, ◌≡◌, ℕ, ◌<◌, ◌≤◌, ◌==◌, Bool, true, false, cond, List, [], ◌∷◌, Option, Some, None, is_some, Result, Ok, Err, length, ◌⊎◌, inl, inr, refl, sym, ap, ◌∙◌, arith}
use Rattle.std.specs.Prelude.{All, AllPairs}
use Rattle.std.specs.List.{find, slice_index_or}
use Rattle.std.specs.List.Sorted.{IsBinarySearchResult, IsNonDecreasingBy, IsSearchInRange}
use Rattle.std.specs.Result.{MatchResult, is_ok}
use Rattle.std.specs.Ordering.{nat_cmp, ordering_index}
use Rattle.std.proofs.lemmas.Bool.{cases_lt}
use Rattle.std.proofs.lemmas.Bool.Decides.{nat_tests}
use Rattle.std.proofs.lemmas.Cmp.{ranked}

module _ {Row : Type 0} (month : Row → ℕ) (m : ℕ) where
  -- the row of the month
  abbrev pub of_month : List Row → Option Row
  of_month rows = find (λ row. month row == m) rows

  abbrev IsOther : Row → Type 0
  IsOther row = month row == m ≡ false

  -- it is the one at the place, where those before are of other months
  found_at : (rows : List Row) (place : ℕ) (e : Row) → place < length rows → ((k : ℕ) (d : Row) → k < place → IsOther (slice_index_or rows k d)) → month (slice_index_or rows place e) == m ≡ true → of_month rows ≡ Some (slice_index_or rows place e)
  found_at [] place e within before here = absurd (omega (arith, within))
  found_at (row ∷ rows) zero e within before here = ap (λ (b : Bool). cond b (Some row) (of_month rows)) here
  found_at (row ∷ rows) (suc place) e within before here =
      ap (λ (b : Bool). cond b (Some row) (of_month rows)) (before 0 row (omega arith))
      ∙ found_at rows place e (omega (arith, within)) (λ k d less. before (suc k) d (omega (arith, less))) here

  -- there is none, where all are of other months
  none_of : (rows : List Row) → All IsOther rows → of_month rows ≡ None
  none_of [] other = refl
  none_of (row ∷ rows) other =
      ap (λ (b : Bool). cond b (Some row) (of_month rows)) (other 0 row (omega arith))
      ∙ none_of rows (λ k d within. other (suc k) d (omega (arith, within)))

  module _ (rows : List Row) (rise : AllPairs (λ r s. month r < month s) rows) where
    -- the comparisons with the month rise along the rows, as a binary search asks
    comparisons_rise : IsNonDecreasingBy (λ row. ordering_index (nat_cmp (month row) m)) rows
    comparisons_rise i j d le within =
        let up : month (slice_index_or rows i d) ≤ month (slice_index_or rows j d) = grind (arith, rise i j d, λ (same : i ≡ j). ap (λ (k : ℕ). month (slice_index_or rows k d)) same) in
        grind (arith, nat_tests)

    -- what the search says of the month's row
    pub searched : (r : Result ℕ ℕ) → IsSearchInRange r (length rows) → IsBinarySearchResult (λ row. nat_cmp (month row) m) rows r
        → MatchResult r (λ place. (e : Row) → of_month rows ≡ Some (slice_index_or rows place e)) (λ place. of_month rows ≡ None)
    searched (Ok place) within equal = λ e.
        let at : (d : Row) → month (slice_index_or rows place d) ≡ m = λ d. ranked _ m _ (sym (equal d)) in
        found_at rows place e within (λ k d less. sooner (month (slice_index_or rows k d)) (month (slice_index_or rows place d)) (rise k place d less within) (at d)) (same (month (slice_index_or rows place e)) (at e))
      where
        sooner : (x y : ℕ) → x < y → y ≡ m → x == m ≡ false
        sooner x y less is = grind (arith, nat_tests)

        same : (x : ℕ) → x ≡ m → x == m ≡ true
        same x is = grind (arith, nat_tests)
    searched (Err place) within parted = none_of rows (λ k d inside. told k d inside (cases_lt k place))
      where
        told : (k : ℕ) (d : Row) → k < length rows → (k < place) ⊎ (place ≤ k) → IsOther (slice_index_or rows k d)
        told k d inside (inl less) =
            let low : month (slice_index_or rows k d) < m = ranked _ m _ (sym ((parted comparisons_rise).0 k d (omega arith) less)) in
            grind (arith, nat_tests)
        told k d inside (inr le) =
            let high : m < month (slice_index_or rows k d) = ranked _ m _ (sym ((parted comparisons_rise).1 k d le inside)) in
            grind (arith, nat_tests)

  -- whether the search finds a row
  pub found_is : (rows : List Row) → AllPairs (λ r s. month r < month s) rows → (r : Result ℕ ℕ) → IsSearchInRange r (length rows) → IsBinarySearchResult (λ row. nat_cmp (month row) m) rows r → is_ok r ≡ is_some (of_month rows)
  found_is [] rise (Ok place) within equal = absurd (omega (arith, within))
  found_is (row ∷ rows) rise (Ok place) within equal = sym (ap is_some (searched (row ∷ rows) rise (Ok place) within equal row))
  found_is rows rise (Err place) within parted = sym (ap is_some (searched rows rise (Err place) within parted))
