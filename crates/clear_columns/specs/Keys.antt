-- Rows under keys: what they become where the row of one key is changed, and whether one of several that
-- are added is held.
use Rattle.std.specs.Prelude.{ℕ, Bool, false, ◌||◌, List, [], ◌∷◌}
use Rattle.std.specs.Option.{option_map_or}
use Rattle.clear_values.specs.Keyed.{find_row, put_row, with_row}

-- the rows, with the row of this key changed, if there is one
abbrev pub changed_at : {X : Type 0} → (X → List ℕ) → List ℕ → (X → X) → List X → List X
changed_at key k change rows =
    option_map_or (λ row. put_row key rows (change row)) (find_row key rows k) rows

-- whether a row is held, as this test says it of one row, where the rows are added one after another
abbrev pub are_held : {X : Type 0} → (X → List X → Bool) → (X → List ℕ) → List X → List X → Bool
are_held held key [] rows = false
are_held held key (new ∷ news) rows = held new rows || are_held held key news (with_row key rows new)
