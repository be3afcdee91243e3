-- Rows put in the places of those with their keys, one after another.
use Rattle.std.proofs.Common.{◌≡◌, ℕ, List, [], ◌∷◌, Some, is_some, IsSome, Bool, true, false, cond, refl, sym, ap, ◌∙◌, subst}
use Rattle.std.specs.List.{AllByRecursion}
use Rattle.clear_values.specs.Keyed.{is_key, find_row, put_row, put_rows, replaced, replaced_rows}
use Rattle.clear_values.proofs.KeyedChangesLemmas.{find_row-put_row}

module _ {Row : Type 0} (key : Row → List ℕ) where
  -- a key that is there stays
  key_still : (rows : List Row) (new : Row) (k : List ℕ) → IsSome (find_row key rows k) → IsSome (find_row key (put_row key rows new) k)
  key_still rows new k there = ap is_some (find_row-put_row key rows new k) ∙ told (is_key (key new) k)
    where
      told : (here : Bool) → is_some (cond here (Some new) (find_row key rows k)) ≡ true
      told true = refl
      told false = there

  -- and so do several
  keys_still : (rows : List Row) (new : Row) (news : List Row) → AllByRecursion (λ row. IsSome (find_row key rows (key row))) news → AllByRecursion (λ row. IsSome (find_row key (put_row key rows new) (key row))) news
  keys_still rows new [] all = tt
  keys_still rows new (row ∷ news) all = (key_still rows new (key row) all.0, keys_still rows new news all.1)

  -- the first of some rows takes the place of one, where each key is there, and the others' still are
  there_still : (rows : List Row) (new : Row) (news : List Row) → AllByRecursion (λ row. IsSome (find_row key rows (key row))) (new ∷ news) → AllByRecursion (λ row. IsSome (find_row key (replaced key new rows) (key row))) news
  there_still rows new news all =
      subst (λ (here : Bool). AllByRecursion (λ row. IsSome (find_row key (cond here (put_row key rows new) rows) (key row))) news) (sym all.0) (keys_still rows new news all.1)

  -- what is put from that row on is what is put, whether or not it asks if the key is there
  put_next : (rows : List Row) (new : Row) (news : List Row) → IsSome (find_row key rows (key new)) → put_rows key (replaced key new rows) news ≡ put_rows key rows (new ∷ news)
  put_next rows new news there = ap (λ here. put_rows key (cond here (put_row key rows new) rows) news) there

  -- so they are put, where each key is there
  pub replaced_there : (rows news : List Row) → AllByRecursion (λ row. IsSome (find_row key rows (key row))) news → replaced_rows key rows news ≡ put_rows key rows news
  replaced_there rows [] all = refl
  replaced_there rows (new ∷ news) all = replaced_there (replaced key new rows) news (there_still rows new news all) ∙ put_next rows new news all.0
