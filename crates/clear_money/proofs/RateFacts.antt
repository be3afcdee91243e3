-- The last row that is not after a month is the one in force.
use Rattle.std.proofs.Common.{◌≡◌, ℕ, zero, suc, ◌+◌, ◌<◌, ◌≤◌, List, [], ◌∷◌, ◌++◌, get_or, length, drop, slice_index_or, Option, Some, None, cond, nat_le, refl, sym, ap, ◌∙◌, subst, arith}
use Rattle.std.specs.List.{AllWithin}
use Rattle.std.specs.List.Sorted.{IsPartitionedBy}
use Rattle.std.proofs.lemmas.Bool.Decides.{nat_tests}
use Rattle.clear_money.specs.Rates.{Rate, rate_in_force, later_row, AllAfter, IsRising, last_first}

chosen_after : (f m : ℕ) (r q : Rate) (o : Option Rate) → f < r.first → (o ≡ Some q → f < q.first) → later_row r o ≡ Some q → f < q.first
chosen_after f m r q None h k e = grind arith
chosen_after f m r q (Some p) h k e = grind (arith, nat_tests)

pub rate_after : (f m : ℕ) (rs : List Rate) (q : Rate) → AllAfter f rs → rate_in_force rs m ≡ Some q → f < q.first
rate_after f m [] q h e = absurd (cc)
rate_after f m (r ∷ rs) q h e =
    let k = rate_after f m rs q h.1 in
    let c = chosen_after f m r q (rate_in_force rs m) h.0 k in
    grind (arith, nat_tests)

later_than : (r q : Rate) → r.first < q.first → later_row r (Some q) ≡ Some q
later_than r q h = grind (arith, nat_tests)

pub rate_behind : (rs : List Rate) (i m : ℕ) (q : Rate) → IsRising rs → rate_in_force (drop i rs) m ≡ Some q → rate_in_force rs m ≡ Some q
rate_behind rs zero m q h e = e
rate_behind [] (suc i) m q h e = e
rate_behind (r ∷ rs) (suc i) m q h e =
    let k : rate_in_force rs m ≡ Some q = rate_behind rs i m q h.1 e in
    let l = later_than r q (rate_after r.first m rs q h.0 k) in
    let s : later_row r (rate_in_force rs m) ≡ Some q = ap (later_row r) k ∙ l in
    grind (arith, nat_tests)

pub rate_here : (rs : List Rate) (i m : ℕ) (d : Rate) → i < length rs → (slice_index_or rs i d).first ≤ m → rate_in_force (drop (suc i) rs) m ≡ None → rate_in_force (drop i rs) m ≡ Some (slice_index_or rs i d)
rate_here [] i m d h l e = absurd (omega arith)
rate_here (r ∷ rs) zero m d h l e = ap (λ o. cond (nat_le r.first m) (later_row r o) o) e ∙ grind (arith, nat_tests)
rate_here (r ∷ rs) (suc i) m d h l e = rate_here rs i m d (omega arith) l e

pub rate_found : (rs : List Rate) (i j m : ℕ) (d q : Rate) → suc i ≡ j → j ≤ length rs → IsRising rs → rate_in_force (drop j rs) m ≡ None → q ≡ slice_index_or rs i d → q.first ≤ m → Some q ≡ rate_in_force rs m
rate_found rs i j m d q e h rising none is l =
    let here = rate_here rs i m d (omega arith) (subst (λ (r : Rate). r.first ≤ m) is l) (subst (λ (n : ℕ). rate_in_force (drop n rs) m ≡ None) (sym e) none) in
    sym (rate_behind rs i m q rising (here ∙ ap Some (sym is)))

first_at : (f : ℕ) (rs : List Rate) (j : ℕ) (d : Rate) → AllAfter f rs → j < length rs → f < (slice_index_or rs j d).first
first_at f [] j d h k = absurd (omega arith)
first_at f (r ∷ rs) zero d h k = h.0
first_at f (r ∷ rs) (suc j) d h k = first_at f rs j d h.1 (omega arith)

-- the rows that are not after a month come first
pub begun_first : (rs : List Rate) (m : ℕ) → IsRising rs → IsPartitionedBy (λ r. nat_le r.first m) rs
begun_first [] m h i j d le k passes = absurd (omega arith)
begun_first (r ∷ rs) m h zero zero d le k passes = passes
begun_first (r ∷ rs) m h zero (suc j) d le k passes =
    let low = first_at r.first rs j d h.0 (omega arith) in
    grind (arith, nat_tests)
begun_first (r ∷ rs) m h (suc i) zero d le k passes = absurd (omega arith)
begun_first (r ∷ rs) m h (suc i) (suc j) d le k passes = begun_first rs m h.1 i j d (omega arith) (omega arith) passes

-- where all rows from a place on are after a month, none of them is in force
pub none_from : (rs : List Rate) (i m : ℕ) → AllWithin (λ r. m < r.first) rs i (length rs) → rate_in_force (drop i rs) m ≡ None
none_from [] zero m after = refl
none_from [] (suc i) m after = refl
none_from (r ∷ rs) zero m after =
    let later : m < r.first = after zero r (omega arith) (omega arith) in
    let rest : rate_in_force rs m ≡ None = none_from rs zero m (λ k d low high. after (suc k) d (omega arith) (omega arith)) in
    grind (arith, nat_tests)
none_from (r ∷ rs) (suc i) m after = none_from rs i m (λ k d low high. after (suc k) d (omega arith) (omega arith))

after_last : (f : ℕ) (r : Rate) (rs : List Rate) → AllAfter f (r ∷ rs) → f < last_first (r ∷ rs)
after_last f r [] h = h.0
after_last f r (q ∷ qs) h = after_last f q qs h.1

after_push : (f : ℕ) (rs : List Rate) (row : Rate) → AllAfter f rs → f < row.first → AllAfter f (rs ++ row ∷ [])
after_push f [] row h k = (k, tt)
after_push f (r ∷ rs) row h k = (h.0, after_push f rs row h.1 k)

-- a row behind the last keeps the first months rising
pub rising_push : (rs : List Rate) (row : Rate) → IsRising rs → last_first rs < row.first → IsRising (rs ++ row ∷ [])
rising_push [] row h k = (tt, tt)
rising_push (r ∷ []) row h k = ((k, tt), (tt, tt))
rising_push (r ∷ q ∷ qs) row h k =
    let low = after_last r.first q qs h.0 in
    (after_push r.first (q ∷ qs) row h.0 (omega arith), rising_push (q ∷ qs) row h.1 k)

pub last_is : (rs : List Rate) (i : ℕ) (d : Rate) → i + 1 ≡ length rs → (get_or rs i d).first ≡ last_first rs
last_is [] i d h = absurd (omega arith)
last_is (r ∷ []) zero d h = refl
last_is (r ∷ []) (suc i) d h = absurd (omega arith)
last_is (r ∷ q ∷ qs) zero d h = absurd (omega arith)
last_is (r ∷ q ∷ qs) (suc i) d h = last_is (q ∷ qs) i d (omega arith)
