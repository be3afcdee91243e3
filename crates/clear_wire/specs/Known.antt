-- Relations between the bytes that a stream had and has, where those are known.
use Rattle.std.specs.Prelude.{ℕ, List, Option, Some, None, ⊤}

-- where the bytes before are known, those after are, too, and P holds of the two
abbrev pub Leads : (List ℕ → List ℕ → Type 0) → Option (List ℕ) → Option (List ℕ) → Type 0
Leads P None new = ⊤
Leads P (Some xs) None = ⊥
Leads P (Some xs) (Some ys) = P xs ys
