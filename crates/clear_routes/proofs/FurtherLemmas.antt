-- Members stand in the order of their bytes, so the first that isn't names is the least of those.
use Rattle.std.proofs.Common.{◌≡◌, ℕ, List, [], ◌∷◌, Option, Some, None, Bool, true, false, cond, String, Global, Ordering, Less, Equal, Greater, string_bytes, string_cmp, nat_cmp, refl, subst}
use Rattle.std.specs.Cmp.Lexicographic.{slice_cmp}
use Rattle.std.specs.List.{AllByRecursion}
use Rattle.std.specs.List.Sorted.{IsStrictlySortedBy}
use Rattle.std.specs.Map.{keys_of}
use Rattle.std.specs.Ordering.{match_ordering}
use Rattle.serde_json.specs.View.{members_view}
use Rattle.serde_json.specs.declared.value.Value.{Value}
use Rattle.clear_routes.specs.Further.{is_listed, lesser, least_further}
use Rattle.clear_routes.specs.InOrder.{first_further}

abbrev Entry : Type 0
Entry = String Global × Value

chosen : (o : Ordering) (k a b : List ℕ) → slice_cmp nat_cmp k a ≡ Less → slice_cmp nat_cmp k b ≡ Less → slice_cmp nat_cmp k (match_ordering o a a b) ≡ Less
chosen Less k a b ha hb = ha
chosen Equal k a b ha hb = ha
chosen Greater k a b ha hb = hb

lesser_above : (k a : List ℕ) (rest : Option (List ℕ)) → slice_cmp nat_cmp k a ≡ Less → ((m : List ℕ) → rest ≡ Some m → slice_cmp nat_cmp k m ≡ Less) → slice_cmp nat_cmp k (lesser a rest) ≡ Less
lesser_above k a None ha hb = ha
lesser_above k a (Some m) ha hb = chosen (slice_cmp nat_cmp a m) k a m ha (hb m refl)

least_above : (names : List (List ℕ)) (k : List ℕ) (es : List Entry) (l : List ℕ) → AllByRecursion (λ y. slice_cmp nat_cmp k (string_bytes y) ≡ Less) (keys_of es)
    → least_further names (members_view es) ≡ Some l → slice_cmp nat_cmp k l ≡ Less
least_above names k [] l h e = cc e
least_above names k (x ∷ es) l h e = by (is_listed names (string_bytes x.0)) refl e (λ m q. least_above names k es m h.1 q)
  where
    by : (t : Bool) → is_listed names (string_bytes x.0) ≡ t
        → cond t (least_further names (members_view es)) (Some (lesser (string_bytes x.0) (least_further names (members_view es)))) ≡ Some l
        → ((m : List ℕ) → least_further names (members_view es) ≡ Some m → slice_cmp nat_cmp k m ≡ Less) → slice_cmp nat_cmp k l ≡ Less
    by true q e ih = ih l e
    by false q e ih =
        let is : lesser (string_bytes x.0) (least_further names (members_view es)) ≡ l = cc e in
        subst (λ (z : List ℕ). slice_cmp nat_cmp k z ≡ Less) is (lesser_above k (string_bytes x.0) (least_further names (members_view es)) h.0 ih)

pub first_is_least : (names : List (List ℕ)) (es : List Entry) → IsStrictlySortedBy string_cmp (keys_of es) → first_further names (members_view es) ≡ least_further names (members_view es)
unfolding IsStrictlySortedBy
first_is_least names [] h = refl
first_is_least names (x ∷ es) h =
    by (is_listed names (string_bytes x.0)) (first_is_least names es h.1) (least_further names (members_view es)) refl
  where
    least : (rest : Option (List ℕ)) → least_further names (members_view es) ≡ rest → Some (string_bytes x.0) ≡ Some (lesser (string_bytes x.0) rest)
    least None q = refl
    least (Some m) q =
        let below : slice_cmp nat_cmp (string_bytes x.0) m ≡ Less = least_above names (string_bytes x.0) es m h.0 q in
        rw below refl

    by : (t : Bool) → first_further names (members_view es) ≡ least_further names (members_view es) → (rest : Option (List ℕ)) → least_further names (members_view es) ≡ rest
        → cond t (first_further names (members_view es)) (Some (string_bytes x.0)) ≡ cond t (least_further names (members_view es)) (Some (lesser (string_bytes x.0) (least_further names (members_view es))))
    by true ih rest q = ih
    by false ih rest q = least (least_further names (members_view es)) refl
