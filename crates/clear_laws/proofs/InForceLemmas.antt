-- The rate row in force for a month is the one with the greatest first month not after it.
use Rattle.std.proofs.Common.{◌≡◌, ℕ, suc, ◌≤◌, ◌<◌, List, [], ◌∷◌, Option, Some, None, Bool, true, false, cond, nat_le, nat_lt, refl, arith}
use Rattle.std.proofs.lemmas.Bool.Decides.{nat_tests}
use Rattle.std.specs.List.{AllByRecursion, Contains}
use Rattle.clear_money.specs.Rates.{Rate, rate_in_force, later_row}

-- no row begins later than this one, of those that begin not after the month
abbrev pub AreNoLater : ℕ → ℕ → List Rate → Type 0
AreNoLater m first rates = AllByRecursion (λ (q : Rate). q.first ≤ m → q.first ≤ first) rates

-- what is said of the row in force, if there is one
abbrev pub IsRowInForce : List Rate → ℕ → Option Rate → Type 0
IsRowInForce rates m None = AllByRecursion (λ (q : Rate). m < q.first) rates
IsRowInForce rates m (Some r) = Contains rates r × (r.first ≤ m) × AreNoLater m r.first rates

none_later : (m first : ℕ) (rates : List Rate) → AllByRecursion (λ (q : Rate). m < q.first) rates → AreNoLater m first rates
none_later m first [] h = tt
none_later m first (q ∷ qs) h = ((λ early. absurd (omega (arith, early, h.0))), none_later m first qs h.1)

raised : (m low high : ℕ) (rates : List Rate) → low ≤ high → AreNoLater m low rates → AreNoLater m high rates
raised m low high [] le h = tt
raised m low high (q ∷ qs) le h = ((λ early. let below = h.0 early in omega (arith, below, le)), raised m low high qs le h.1)

pub row_in_force : (rates : List Rate) (m : ℕ) → IsRowInForce rates m (rate_in_force rates m)
row_in_force [] m = tt
row_in_force (r ∷ rs) m = told (nat_le r.first m) refl (rate_in_force rs m) (row_in_force rs m)
  where
    later : (q : Rate) → Contains rs q → Contains (r ∷ rs) q
    later q there = (suc there.0, omega (arith, there.1), there.2)

    begun : nat_le r.first m ≡ true → r.first ≤ m
    begun is = grind (arith, nat_tests)

    ahead : nat_le r.first m ≡ false → m < r.first
    ahead is = grind (arith, nat_tests)

    picked : (q : Rate) → r.first ≤ m → IsRowInForce rs m (Some q) → (b : Bool) → nat_lt q.first r.first ≡ b → IsRowInForce (r ∷ rs) m (cond b (Some r) (Some q))
    picked q early rest true is =
        let above : q.first < r.first = grind (arith, nat_tests) in
        let le : q.first ≤ r.first = omega (arith, above) in
        ((0, omega arith, refl), early, ((λ it. omega arith), raised m q.first r.first rs le rest.2))
    picked q early rest false is =
        let le : r.first ≤ q.first = grind (arith, nat_tests) in
        (later q rest.0, rest.1, ((λ it. le), rest.2))

    told : (p : Bool) → nat_le r.first m ≡ p → (o : Option Rate) → IsRowInForce rs m o → IsRowInForce (r ∷ rs) m (cond p (later_row r o) o)
    told false is None rest = (ahead is, rest)
    told false is (Some q) rest = (later q rest.0, rest.1, ((λ early. let behind = ahead is in absurd (omega (arith, early, behind))), rest.2))
    told true is None rest = ((0, omega arith, refl), begun is, ((λ it. omega arith), none_later m r.first rs rest))
    told true is (Some q) rest = picked q (begun is) rest (nat_lt q.first r.first) refl
