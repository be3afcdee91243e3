-- Whether a `meta` stands first.
use Rattle.std.proofs.Common.{◌≡◌, ◌∙◌, ◌↔◌, ◌≤◌, Bool, IsTrue, List, [], ◌∷◌, ap, arith, length, slice_index_or, sym}

-- a test of the first item tells whether the items begin with that one
pub begins_with : {X : Type 0} (items : List X) (first wanted : X) (is : Bool) → 1 ≤ length items → first ≡ slice_index_or items 0 first
    → (IsTrue is ↔ (first ≡ wanted)) → IsTrue is ↔ ((others : List X) × (items ≡ wanted ∷ others))
begins_with [] first wanted is some there tells = absurd (omega (arith, some))
begins_with (x ∷ others) first wanted is some there tells = (
  λ yes. (others, ap (λ x. x ∷ others) (sym there ∙ tells.0 yes)),
  λ has. tells.1 (let same : x ≡ wanted = let both = has.1 in cc in there ∙ same),
)
