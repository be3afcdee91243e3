-- What stands before a byte, or at a fixed width, is read off a text in one way.
use Rattle.std.proofs.Common.{◌≡◌, ◌≢◌, ℕ, ◌+◌, ◌/◌, ◌%◌, ◌<◌, ◌≤◌, ◌^◌, List, [], ◌∷◌, ◌++◌, refl, sym, ◌∙◌, arith, ◌⊎◌, inl, inr}
use Rattle.std.specs.Prelude.{⊤}
use Rattle.std.specs.Fmt.{decimal}
use Rattle.std.specs.Str.Parse.{AllDigits}
use Rattle.std.proofs.lemmas.Fmt.{decimal_is_IsNumeral, decimal_injective}
use Rattle.std.proofs.lemmas.Str.Parse.{tells_digits}
use Rattle.clear_money.specs.Calendar.{IsMonth}
use Rattle.clear_money.specs.Texts.{month_text}

-- the byte k stands nowhere; the text is empty or begins with it
abbrev pub Lacks : ℕ → List ℕ → Type 0
Lacks k [] = ⊤
Lacks k (b ∷ bs) = (b ≢ k) × Lacks k bs

abbrev pub Begins : ℕ → List ℕ → Type 0
Begins k [] = ⊤
Begins k (b ∷ bs) = b ≡ k

pub same_front : (k : ℕ) (v w x y : List ℕ) → Lacks k v → Lacks k w → Begins k x → Begins k y → v ++ x ≡ w ++ y → (v ≡ w) × (x ≡ y)
same_front k [] [] x y nv nw ax ay e = (refl, e)
same_front k [] (b ∷ w) [] y nv nw ax ay e = cc e
same_front k [] (b ∷ w) (c ∷ x) y nv nw ax ay e =
    let h : c ≡ b = cc e in
    absurd (nw.0 (sym h ∙ ax))
same_front k (b ∷ v) [] x [] nv nw ax ay e = cc e
same_front k (b ∷ v) [] x (c ∷ y) nv nw ax ay e =
    let h : b ≡ c = cc e in
    absurd (nv.0 (h ∙ ay))
same_front k (b ∷ v) (c ∷ w) x y nv nw ax ay e =
    let h : b ≡ c = cc e in
    let t : v ++ x ≡ w ++ y = cc e in
    let ih = same_front k v w x y nv.1 nw.1 ax ay t in
    (rw (h, ih.0) refl, ih.1)

digits_lack : (k : ℕ) (ds : List ℕ) → (k < 48) ⊎ (57 < k) → AllDigits 10 ds → Lacks k ds
digits_lack k [] o h = tt
digits_lack k (d ∷ ds) o h = (by o (tells_digits.parts d ds h).0, digits_lack k ds o h.1)
  where
    by : (k < 48) ⊎ (57 < k) → (48 ≤ d) × (d ≤ 57) → d ≢ k
    by (inl l) r = λ e. absurd (omega (arith, l, r.0, e))
    by (inr l) r = λ e. absurd (omega (arith, l, r.1, e))

-- a number, up to a byte that is no digit or to the end
pub number_front : (k a b : ℕ) (x y : List ℕ) → (k < 48) ⊎ (57 < k) → a < 2 ^ 64 → b < 2 ^ 64 → Begins k x → Begins k y
    → decimal a ++ x ≡ decimal b ++ y → (a ≡ b) × (x ≡ y)
number_front k a b x y o la lb ax ay e =
    let f = same_front k (decimal a) (decimal b) x y (digits_lack k (decimal a) o (decimal_is_IsNumeral a la).0.1)
    (digits_lack k (decimal b) o (decimal_is_IsNumeral b lb).0.1) ax ay e in
    (decimal_injective a b la lb f.0, f.1)

two_same : (p q : ℕ) → p < 100 → q < 100 → p / 10 ≡ q / 10 → p % 10 ≡ q % 10 → p ≡ q
two_same p q hp hq a b = omega arith

four_same : (p q : ℕ) → p < 10000 → q < 10000 → p / 1000 ≡ q / 1000 → p / 100 % 10 ≡ q / 100 % 10 → p / 10 % 10 ≡ q / 10 % 10 → p % 10 ≡ q % 10 → p ≡ q
four_same p q hp hq a b c d = omega arith

plus_same : (k a b : ℕ) → k + a ≡ k + b → a ≡ b
plus_same k a b e = omega arith

parts_same : (m n : ℕ) → m / 12 ≡ n / 12 → m % 12 + 1 ≡ n % 12 + 1 → m ≡ n
parts_same m n a b = omega arith

-- seven bytes, one by one
pub seven : (a b c d e f g : ℕ) (x : List ℕ) (h i j k l m n : ℕ) (y : List ℕ)
    → a ∷ b ∷ c ∷ d ∷ e ∷ f ∷ g ∷ x ≡ h ∷ i ∷ j ∷ k ∷ l ∷ m ∷ n ∷ y
    → (a ≡ h) × (b ≡ i) × (c ≡ j) × (d ≡ k) × (f ≡ m) × (g ≡ n) × (x ≡ y)
seven a b c d e f g x h i j k l m n y q = (cc q, cc q, cc q, cc q, cc q, cc q, cc q)

-- a month
pub month_front : (m n : ℕ) (x y : List ℕ) → IsMonth m → IsMonth n → month_text m ++ x ≡ month_text n ++ y → (m ≡ n) × (x ≡ y)
month_front m n x y hm hn e =
    let s = seven _ _ _ _ _ _ _ x _ _ _ _ _ _ _ y e in
    let year : m / 12 ≡ n / 12 = four_same (m / 12) (n / 12) (omega (arith, hm.1)) (omega (arith, hn.1))
    (plus_same 48 _ _ s.0) (plus_same 48 _ _ s.1) (plus_same 48 _ _ s.2) (plus_same 48 _ _ s.3) in
    let place : m % 12 + 1 ≡ n % 12 + 1 = two_same (m % 12 + 1) (n % 12 + 1) (omega arith) (omega arith) (plus_same 48 _ _ s.4) (plus_same 48 _ _ s.5) in
    (parts_same m n year place, s.6)
