-- Rows with free keys, added one after another.
use Rattle.std.proofs.Common.{◌≡◌, ℕ, List, [], ◌∷◌, Option, None, Some, is_some, Bool, true, false, cond, ◌||◌, refl, ap, ap₂, ◌∙◌, true≢false}
use Rattle.std.proofs.lemmas.Bool.{or_from, or_parts}
use Rattle.std.specs.Prelude.{◌↔◌}
use Rattle.clear_values.specs.Keyed.{is_key, is_before, is_held, find_row, with_row}
use Rattle.clear_values.proofs.KeyedLemmas.{other_row}
use Rattle.clear_columns.specs.Keys.{are_held}
use Rattle.clear_store.specs.Changes.{AreFree}

-- a key that is none of the rows', whatever the order in which more are added
module _ {Row : Type 0} (key : Row → List ℕ) (k : List ℕ) where
  behind_other : (row : Row) (rows : List Row) → is_key (key row) k ≡ false → find_row key rows k ≡ None → find_row key (row ∷ rows) k ≡ None
  behind_other row rows other none = ap (λ b. cond b (Some row) (find_row key rows k)) other ∙ none

  module _ (order : Row → List ℕ) where
    none_with : (rows : List Row) (new : Row) → is_key (key new) k ≡ false → find_row key rows k ≡ None → find_row key (with_row order rows new) k ≡ None
    none_with [] new other none = behind_other new [] other none
    none_with (row ∷ rows) new other none =
        let parts = other_row key row rows k none in
        told (is_before (order new) (order row)) (behind_other row (with_row order rows new) parts.0 (none_with rows new other parts.1))
      where
        told : (before : Bool) → find_row key (row ∷ with_row order rows new) k ≡ None → find_row key (cond before (new ∷ row ∷ rows) (row ∷ with_row order rows new)) k ≡ None
        told true rest = behind_other new (row ∷ rows) other none
        told false rest = rest

    with_none : (rows : List Row) (new : Row) → find_row key (with_row order rows new) k ≡ None → (is_key (key new) k ≡ false) × (find_row key rows k ≡ None)
    with_none [] new none = other_row key new [] k none
    with_none (row ∷ rows) new none = told (is_before (order new) (order row)) (with_none rows new) none
      where
        told : (before : Bool) → (find_row key (with_row order rows new) k ≡ None → (is_key (key new) k ≡ false) × (find_row key rows k ≡ None))
            → find_row key (cond before (new ∷ row ∷ rows) (row ∷ with_row order rows new)) k ≡ None → (is_key (key new) k ≡ false) × (find_row key (row ∷ rows) k ≡ None)
        told true rest none = other_row key new (row ∷ rows) k none
        told false rest none =
            let parts = other_row key row (with_row order rows new) k none in
            let more = rest parts.1 in
            (more.0, behind_other row rows parts.0 more.1)

module _ {Row : Type 0} (key : Row → List ℕ) where
  -- keys that are free among some rows are so among others, where each is that is none of theirs
  free_among : (xs ys news : List Row) → ((k : List ℕ) → find_row key xs k ≡ None → find_row key ys k ≡ None) → AreFree key xs news → AreFree key ys news
  free_among xs ys [] same free = tt
  free_among xs ys (new ∷ news) same free = (
    same (key new) free.0,
    free_among (with_row key xs new) (with_row key ys new) news (λ k none. let parts = with_none key k key xs new none in none_with key k key ys new parts.0 (same k parts.1)) free.1,
  )

  -- keys that are free behind a row are so, too, where it stands in another order
  free_behind : (first second : Row → List ℕ) (rows : List Row) (new : Row) (news : List Row) → AreFree key (with_row first rows new) news → AreFree key (with_row second rows new) news
  free_behind first second rows new news =
      free_among (with_row first rows new) (with_row second rows new) news (λ k none. let parts = with_none key k first rows new none in none_with key k second rows new parts.0 parts.1)

-- a key is free just where it is not held
pub not_held : {X : Type 0} (found : Option X) → (found ≡ None) ↔ (is_some found ≡ false)
not_held None = (λ free. refl, λ held. refl)
not_held (Some x) = (λ free. ap is_some free, λ held. absurd (true≢false held))

-- rows with two keys, of which they stand in the order of one
pub none_held : {Row : Type 0} (key other : Row → List ℕ) (rows news : List Row)
    → (AreFree key rows news × AreFree other rows news) ↔ (are_held (λ new rows. is_held key new rows || is_held other new rows) key news rows ≡ false)
none_held key other rows [] = (λ free. refl, λ none. (tt, tt))
none_held key other rows (new ∷ news) =
    let rest = none_held key other (with_row key rows new) news in (
      λ free. or_from _ _ (ap₂ (λ x y. is_some x || is_some y) free.0.0 free.1.0) (rest.0 (free.0.1, free_behind other other key rows new news free.1.1)),
      λ none.
          let parts = or_parts _ _ none in
          let first = or_parts _ _ parts.0 in
          let more = rest.1 parts.1 in (
            ((not_held (find_row key rows (key new))).1 first.0, more.0),
            ((not_held (find_row other rows (other new))).1 first.1, free_behind other key other rows new news more.1),
          ),
    )

-- a statement that asks for no free key
pub no_key : Unit {0} ↔ (false ≡ false)
no_key = (λ is. refl, λ is. tt)
