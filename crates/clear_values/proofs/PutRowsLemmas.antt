-- Several rows, each put in the place of the row with its key.
use Rattle.std.proofs.Common.{◌≡◌, ℕ, List, [], ◌∷◌, Some, None, Bool, refl, ap, ◌∙◌}
use Rattle.std.specs.Prelude.{cond}
use Rattle.std.specs.List.{AllByRecursion}
use Rattle.clear_values.specs.Keyed.{find_row, put_row, put_rows, AreOnce}
use Rattle.clear_values.proofs.KeyedChangesLemmas.{find_row-put_row, found_holds}
use Rattle.clear_values.proofs.KeyedLemmas.{is_key-refl, other_row}

module _ {Row : Type 0} (key : Row → List ℕ) where
  -- a key that none of the new rows has finds what it found
  pub find_row-put_rows : (rows news : List Row) (k : List ℕ) → find_row key news k ≡ None → find_row key (put_rows key rows news) k ≡ find_row key rows k
  find_row-put_rows rows [] k none = refl
  find_row-put_rows rows (new ∷ news) k none =
      let other = other_row key new news k none in
      find_row-put_rows (put_row key rows new) news k other.1
      ∙ find_row-put_row key rows new k
      ∙ ap (λ (b : Bool). cond b (Some new) (find_row key rows k)) other.0

  -- what holds of all rows then holds of the new ones, where no key stands twice among them
  pub all_put : (P : Row → Type 0) (rows news : List Row) → AreOnce key news → AllByRecursion P (put_rows key rows news) → AllByRecursion P news
  all_put P rows [] once all = tt
  all_put P rows (new ∷ news) once all = (found_holds key P (put_rows key (put_row key rows new) news) (key new) new all there, all_put P (put_row key rows new) news once.1 all)
    where
      there : find_row key (put_rows key (put_row key rows new) news) (key new) ≡ Some new
      there =
          find_row-put_rows (put_row key rows new) news (key new) once.0
          ∙ find_row-put_row key rows new (key new)
          ∙ ap (λ (b : Bool). cond b (Some new) (find_row key rows (key new))) (is_key-refl (key new))
