-- Parameters as they stand in a target. It serves proofs.
use Rattle.std.specs.Prelude.{ℕ, List, [], ◌∷◌, map, ⊤}
use Rattle.std.specs.Str.{IsAscii}
use Rattle.clear_routes.specs.declared.paths.Texts.{Texts}
use Rattle.clear_routes.specs.declared.paths.Texts.TheVariants.{Zero, One, Two}

-- what stands for the parameters, without their names
abbrev pub parts : List (List ℕ × List ℕ) → List (List ℕ)
parts ps = map (λ p. p.1) ps

-- each is ASCII
abbrev pub AllAscii : List (List ℕ) → Type 0
AllAscii [] = ⊤
AllAscii (v ∷ vs) = IsAscii v × AllAscii vs

-- the texts in their order
abbrev pub texts_in : Texts → List (List ℕ)
texts_in Zero = []
texts_in (One a) = a.now ∷ []
texts_in (Two a b) = a.now ∷ b.now ∷ []
