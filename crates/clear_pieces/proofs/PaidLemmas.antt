-- Kept contributions with what more is paid of them, place by place.
use Rattle.std.proofs.Common.{◌≡◌, ◌∙◌, ℕ, ◌+◌, ◌<◌, List, [], ◌∷◌, ◌++◌, ◌-◌, drop, length, get_or, take, zip, min, sym, ap, subst, arith}
use Rattle.std.specs.List.{AllByRecursion}
use Rattle.std.proofs.lemmas.List.{get_or-map, length-drop, length-map, take_all, take_more}
use Rattle.std.proofs.lemmas.List.FromFn.{length-map-range_with_len}
use Rattle.std.proofs.lemmas.List.Elements.{All-from_recursion}
use Rattle.std.proofs.lemmas.Slice.Zip.{get_or-zip, length-zip}
use Rattle.clear_values.specs.RowRanges.{IsKeptCharge}
use Rattle.clear_values.specs.declared.rows.KeptCharge.{KeptCharge}
use Rattle.clear_account.specs.declared.entries.Charge.{Charge}
use Rattle.clear_account.specs.declared.entries.Credit.{Credit}
use Rattle.clear_kept.specs.Weighed.{weighed_charge, weighed_charges}
use Rattle.clear_pieces.specs.Behind.{paid_rows, with_paid}
use Rattle.clear_pieces.specs.Firm.{kept_as, settled_from}

-- two rows of one place, joined
abbrev joined : KeptCharge × KeptCharge → KeptCharge
joined both = with_paid both.0 both.1

module _ (kept paid : List KeptCharge) (same : length kept ≡ length paid) where
  min_same : (n m : ℕ) → n ≡ m → min n m ≡ n
  min_same n m is = omega (arith, is)

  pub as_many : length (paid_rows kept paid) ≡ length kept
  as_many = length-map (zip kept paid) joined ∙ length-zip kept paid ∙ min_same (length kept) (length paid) same

  module _ (i : ℕ) (row more : KeptCharge) (within : i < length kept) (is : row ≡ get_or kept i row) (with_it : more ≡ get_or paid i more) where
    pub joined_at : get_or (paid_rows kept paid) i (with_paid row more) ≡ with_paid row more
    joined_at =
        let long : i < length (zip kept paid) = omega (arith, within, as_many, length-map (zip kept paid) joined) in
        let in_paid : i < length paid = omega (arith, within, same) in
        get_or-map joined (zip kept paid) i (row, more) (with_paid row more) long
        ∙ ap joined (get_or-zip kept paid i (row, more) within in_paid)
        ∙ (λ k. with_paid (sym is k) (sym with_it k))

    pub joined_more : take (i + 1) (paid_rows kept paid) ≡ take i (paid_rows kept paid) ++ with_paid row more ∷ []
    joined_more =
        let long : i < length (paid_rows kept paid) = omega (arith, within, as_many) in
        take_more (paid_rows kept paid) i (with_paid row more) long ∙ ap (λ r. take i (paid_rows kept paid) ++ r ∷ []) joined_at

    -- it is in its ranges where all are
    pub joined_good : AllByRecursion IsKeptCharge (paid_rows kept paid) → IsKeptCharge (with_paid row more)
    joined_good all =
        let long : i < length (paid_rows kept paid) = omega (arith, within, as_many) in
        subst IsKeptCharge joined_at (All-from_recursion IsKeptCharge (paid_rows kept paid) all i (with_paid row more) long)

-- behind a front there are as many kept contributions as settled ones
pub rest_as_many : (e : ℕ) (rows : List KeptCharge) (charges : List Charge) (credits : List Credit) (n : ℕ) → length rows ≡ length charges → length (take (length rows - n) (drop n rows)) ≡ length (settled_from e charges credits n)
rest_as_many e rows charges credits n same =
    ap length (take_all (length rows - n) (drop n rows) (omega (arith, length-drop n rows)))
    ∙ length-drop n rows
    ∙ ap (λ m. m - n) (same ∙ sym (length-map-range_with_len (λ i. weighed_charge charges credits i) 0 (length charges)))
    ∙ sym (length-drop n (weighed_charges charges credits))
    ∙ sym (length-map (drop n (weighed_charges charges credits)) (kept_as e))
