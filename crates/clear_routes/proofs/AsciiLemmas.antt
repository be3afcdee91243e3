-- ASCII targets and their parameters.
use Rattle.std.proofs.Common.{◌≡◌, ℕ, zero, suc, ◌<◌, ◌≤◌, List, [], ◌∷◌, ◌++◌, length, sym, ap, ◌∙◌, subst, arith, Bool, true, ltb, ◌==◌, ◌&&◌, ◌||◌, inl, inr}
use Rattle.std.proofs.lemmas.Bool.{and_parts}
use Rattle.std.proofs.lemmas.Bool.Decides.{nat_tests}
use Rattle.std.proofs.lemmas.Str.{IsAscii-append}
use Rattle.std.specs.Str.{IsAscii, IsUtf8}
use Rattle.std.proofs.lemmas.Str.{IsUtf8-from_ascii}
use Rattle.clear_routes.specs.Raw.{parts, AllAscii}
use Rattle.clear_routes.specs.Fitting.{Fits}
use Rattle.clear_routes.proofs.WalkLemmas.{Bytes}

ascii_front : (v rest : List ℕ) → IsAscii (v ++ rest) → IsAscii v
ascii_front [] rest h i = omega arith
ascii_front (b ∷ v) rest h zero = h 0
ascii_front (b ∷ v) rest h (suc i) = ascii_front v rest (λ j. h (suc j)) i

ascii_rest : (v rest : List ℕ) → IsAscii (v ++ rest) → IsAscii rest
ascii_rest [] rest h = h
ascii_rest (b ∷ v) rest h = ascii_rest v rest (λ j. h (suc j))

pub bytes_ascii : (p : List ℕ) → IsAscii p → Bytes p
bytes_ascii [] h = tt
bytes_ascii (b ∷ p) h =
    let l : b < 128 = h 0 in
    (omega (arith, l), bytes_ascii p (λ j. h (suc j)))

pub values_ascii : (t : List ℕ) (vs : List (List ℕ)) (p : List ℕ) → IsAscii p → Fits t vs p → AllAscii vs
values_ascii [] vs p a f = subst AllAscii (sym f.0) tt
values_ascii (x ∷ t) vs p a (inl f) = values_ascii t vs f.0 (ascii_rest (x ∷ []) f.0 (subst IsAscii f.2 a)) f.3
values_ascii (x ∷ t) vs p a (inr f) =
    let b : IsAscii (f.0 ++ f.1) = subst IsAscii f.6 a in
    subst AllAscii (sym f.4) (ascii_front f.0 f.1 b, values_ascii t f.2 f.1 (ascii_rest f.0 f.1 b) f.7)

-- a pattern whose bytes are ASCII
abbrev pub ascii_test : List ℕ → Bool
ascii_test [] = true
ascii_test (x ∷ t) = (ltb x 128 || x == 256) && ascii_test t

pub ascii_cons : (b : ℕ) (bs : List ℕ) → b < 128 → IsAscii bs → IsAscii (b ∷ bs)
ascii_cons b bs l h zero = l
ascii_cons b bs l h (suc i) = h i

pub nil_ascii : IsAscii []
nil_ascii i = omega arith

pub fits_ascii : (t : List ℕ) (vs : List (List ℕ)) (p : List ℕ) → ascii_test t ≡ true → AllAscii vs → Fits t vs p → IsAscii p
fits_ascii [] vs p e a f = subst IsAscii (sym f.1) nil_ascii
fits_ascii (x ∷ t) vs p e a (inl f) =
    let both = and_parts (ltb x 128 || x == 256) (ascii_test t) e in
    let low : x < 128 = grind (arith, nat_tests, both.0, f.1) in
    subst IsAscii (sym f.2) (ascii_cons x f.0 low (fits_ascii t vs f.0 both.1 a f.3))
fits_ascii (x ∷ t) vs p e a (inr f) =
    let both = and_parts (ltb x 128 || x == 256) (ascii_test t) e in
    let b : AllAscii (f.0 ∷ f.2) = subst AllAscii f.4 a in
    subst IsAscii (sym f.6) (IsAscii-append f.0 f.1 b.0 (fits_ascii t f.2 f.1 both.1 b.1 f.7))

pub one_value : (walked s t : List (List ℕ × List ℕ)) (first : List ℕ) (p : List ℕ × List ℕ) → s ≡ walked → s ≡ p ∷ t → t ≡ [] → (IsUtf8 p.1 → first ≡ p.1)
    → (values : List (List ℕ)) → parts walked ≡ values → AllAscii values → first ∷ [] ≡ values
one_value walked s t first p w e n shown values v a =
    let all : p.1 ∷ [] ≡ values = (let q : parts (p ∷ t) ≡ values = ap parts (sym e ∙ w) ∙ v in rw n at q) in
    let b : AllAscii (p.1 ∷ []) = subst AllAscii (sym all) a in
    ap (λ (x : List ℕ). x ∷ []) (shown (IsUtf8-from_ascii p.1 b.0)) ∙ all

pub two_values : (walked s t u : List (List ℕ × List ℕ)) (first second : List ℕ) (p q : List ℕ × List ℕ) → s ≡ walked → s ≡ p ∷ t → t ≡ q ∷ u
    → (IsUtf8 p.1 → first ≡ p.1) → (IsUtf8 q.1 → second ≡ q.1)
    → (values : List (List ℕ)) → parts walked ≡ values → AllAscii values → length values ≤ 2 → first ∷ second ∷ [] ≡ values
two_values walked s t [] first second p q w e n f g values v a l =
    let all : p.1 ∷ q.1 ∷ [] ≡ values = (let z : parts (p ∷ t) ≡ values = ap parts (sym e ∙ w) ∙ v in rw n at z) in
    let b : AllAscii (p.1 ∷ q.1 ∷ []) = subst AllAscii (sym all) a in
    rw (f (IsUtf8-from_ascii p.1 b.0), g (IsUtf8-from_ascii q.1 b.1.0)) all
two_values walked s t (x ∷ u) first second p q w e n f g values v a l =
    let all : p.1 ∷ q.1 ∷ x.1 ∷ parts u ≡ values = (let z : parts (p ∷ t) ≡ values = ap parts (sym e ∙ w) ∙ v in rw n at z) in
    absurd (omega (arith, l, ap length all))
