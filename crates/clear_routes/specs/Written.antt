-- The targets that are written like a path, with values in place of the names in braces.
use Rattle.std.specs.Prelude.{ℕ, List, [], ◌∷◌, ◌++◌, Bool, true, false, not, ◌==◌}
use Rattle.std.specs.Prelude.{if◌then◌else◌}

-- the bytes of a path's text with 256 for each name in braces, which are 123 and 125
abbrev pub pattern_from : Bool → List ℕ → List ℕ
pattern_from inside [] = []
pattern_from true (b ∷ bs) = pattern_from (not (b == 125)) bs
pattern_from false (b ∷ bs) =
    if b == 123 then 256 ∷ pattern_from true bs else b ∷ pattern_from false bs

abbrev pub pattern : List ℕ → List ℕ
pattern text = pattern_from false text

-- the pattern with these values in place of each 256, in their order
abbrev pub filled : List ℕ → List (List ℕ) → List ℕ
filled [] values = []
filled (x ∷ xs) [] = x ∷ filled xs []
filled (x ∷ xs) (value ∷ values) =
    if x == 256 then value ++ filled xs values else x ∷ filled xs (value ∷ values)
