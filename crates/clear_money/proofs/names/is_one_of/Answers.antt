use Rattle.std.proofs.Common.{◌≡◌, ◌∙◌, ◌||◌, ℕ, List, [], ◌∷◌, Bor, bytes_eq, map, refl, ap, rules, tests}
use Rattle.std.proofs.lemmas.Iterator.{YieldsList-from_slice}
use Rattle.std.proofs.lemmas.Iterator.Search.{any_from_yields_List}
use Rattle.std.specs.List.{list_any}
use Rattle.clear_money.proofs.names.is_one_of.Goals as goal

-- the names behind references, and the names
any_of : (name : List ℕ) (names : List (Bor (List ℕ))) → list_any (λ other. bytes_eq name other.now) names ≡ list_any (bytes_eq name) (map (λ other. other.now) names)
any_of name [] = refl
any_of name (x ∷ xs) = ap (λ b. bytes_eq name x.now || b) (any_of name xs)

pub returns : goal.returns
returns c =
    any_from_yields_List (λ (other : Bor (List ℕ)). bytes_eq c.args.name.now other.now) _ _ _ c.any.ensures.ran (YieldsList-from_slice c.args.names.now cc) (λ x b q k. search (rules, tests))
    ∙ any_of c.args.name.now c.args.names.now
