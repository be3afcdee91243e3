-- What stands in a target that fits a pattern. It serves proofs.
use Rattle.std.specs.Prelude.{◌≡◌, ◌≢◌, ◌<◌, ◌⊎◌, ℕ, List, [], ◌∷◌, ◌++◌, length, ⊤}

-- no byte is a slash, which is 47
abbrev pub NoSlash : List ℕ → Type 0
NoSlash [] = ⊤
NoSlash (b ∷ bs) = (b ≢ 47) × NoSlash bs

-- at least one byte, and no slash
abbrev pub IsParameter : List ℕ → Type 0
IsParameter text = (0 < length text) × NoSlash text

-- the target is the pattern, with these parameters where it is open
abbrev pub Fits : List ℕ → List (List ℕ) → List ℕ → Type 0
Fits [] vs p = (vs ≡ []) × (p ≡ [])
Fits (x ∷ t) vs p =
    ((rest : List ℕ) × (x < 256) × (p ≡ x ∷ rest) × Fits t vs rest)
    ⊎ ((v rest : List ℕ) × (us : List (List ℕ)) × (x ≡ 256) × (vs ≡ v ∷ us) × IsParameter v
    × (p ≡ v ++ rest) × Fits t us rest)
