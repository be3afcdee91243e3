-- The first month of the last row of rates.
use Rattle.std.proofs.Common.{◌≡◌, List, [], ◌∷◌, None, Some, Option, refl, subst, sym, length, ◌<◌, arith}
use Rattle.std.specs.List.{last_or}
use Rattle.std.specs.Prelude.{MatchOption}
use Rattle.clear_money.specs.Rates.{Rate, last_first}

-- what is looked for last in some rates is the last of them, if there are any
abbrev IsLast : List Rate → Type 0 → Option Rate → Type 0
IsLast rates none found = MatchOption found none (λ r. r.first ≡ last_first rates)

last_behind : (N : Type 0) (r : Rate) (rs : List Rate) → IsLast (r ∷ rs) N (last_or (Some r) rs)
last_behind N r [] = refl
last_behind N r (q ∷ rs) = last_behind N q rs

last_is : (rates : List Rate) → IsLast rates (rates ≡ []) (last_or None rates)
last_is [] = refl
last_is (r ∷ rs) = last_behind _ r rs

pub first_of_last : (rates : List Rate) (row : Rate) → Some row ≡ last_or None rates → row.first ≡ last_first rates
first_of_last rates row is = subst (IsLast rates (rates ≡ [])) (sym is) (last_is rates)

pub none_left : (rates : List Rate) → None ≡ last_or None rates → 0 < length rates → ⊥
none_left [] is some = omega (arith, some)
none_left (r ∷ rs) is some = subst (IsLast (r ∷ rs) ⊥) (sym is) (last_behind ⊥ r rs)
