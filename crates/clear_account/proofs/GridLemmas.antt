-- A place parts the pieces of an account: those that end at or below it come first, those that reach beyond it follow,
-- and each half stands on what lies on its side of the place alone.
use Rattle.std.proofs.Common.{◌≡◌, ℕ, ◌+◌, ◌-◌, ◌<◌, ◌≤◌, Bool, true, false, cond, nat_le, nat_lt, List, [], ◌∷◌, ◌++◌, min, max, ◌⊎◌, inl, inr, refl, sym, ap, ◌∙◌, arith, append_assoc}
use Rattle.std.specs.List.{All, sum_by}
use Rattle.std.proofs.lemmas.Bool.{cases_lt, le-leb, lt-leb, lt-ltb, le-ltb}
use Rattle.std.proofs.lemmas.List.{append-nil}
use Rattle.std.proofs.lemmas.List.Elements.{All-append, All-nil, All-head, All-tail}
use Rattle.std.proofs.lemmas.List.Sums.{sum_by-cons}
use Rattle.clear_account.specs.declared.entries.Charge.{Charge}
use Rattle.clear_account.specs.declared.entries.Credit.{Credit}
use Rattle.clear_account.specs.Account.{charged, credited}
use Rattle.clear_account.proofs.StretchLemmas.{parts_from}
use Rattle.clear_account.proofs.WalkLemmas.{line_all, grid_all}

-- a list that is walked in two parts
pub parts_from-append : {X Y : Type 0} (f : X → ℕ) (G : ℕ → ℕ → X → List Y) (p : ℕ) (xs ys : List X) → parts_from f G p (xs ++ ys) ≡ parts_from f G p xs ++ parts_from f G (p + sum_by f xs) ys
parts_from-append f G p [] ys = ap (λ n. parts_from f G n ys) (omega arith)
parts_from-append f G p (x ∷ xs) ys =
    let end : p + f x + sum_by f xs ≡ p + sum_by f (x ∷ xs) = omega (arith, sum_by-cons f x xs) in
    ap (λ zs. G p (p + f x) x ++ zs) (parts_from-append f G (p + f x) xs ys)
    ∙ sym (append_assoc (G p (p + f x) x) (parts_from f G (p + f x) xs) (parts_from f G (p + f x + sum_by f xs) ys))
    ∙ ap (λ n. (G p (p + f x) x ++ parts_from f G (p + f x) xs) ++ parts_from f G n ys) end

-- those that end at or below a bound
parts_from-ended : {X Y : Type 0} (f : X → ℕ) (G : ℕ → ℕ → X → List Y) (high : ℕ) → ((q : ℕ) (x : X) → q + f x ≤ high → G q (q + f x) x ≡ []) → (p : ℕ) (xs : List X) → p + sum_by f xs ≤ high → parts_from f G p xs ≡ []
parts_from-ended f G high none p [] h = refl
parts_from-ended f G high none p (x ∷ xs) h =
    (λ i. none p x (omega (arith, sum_by-cons f x xs)) i ++ parts_from-ended f G high none (p + f x) xs (omega (arith, sum_by-cons f x xs)) i)

-- the first of what is left begins at the place or reaches beyond it
abbrev pub Reaches : {X : Type 0} → ℕ → (X → ℕ) → ℕ → List X → Type 0
Reaches place f s [] = Unit
Reaches place f s (x ∷ xs) = (place ≤ s) ⊎ (place < s + f x)

pub cases_le : (m n : ℕ) → (m ≤ n) ⊎ (n < m)
cases_le m n = elim (cases_lt n m) [ inl less ↦ inr less | inr more ↦ inl (omega arith) ]

module _ {Y : Type 0} (F : Charge → Credit → ℕ → List Y) (nothing : (c : Charge) (k : Credit) → F c k 0 ≡ []) where
  -- the parts whose end passes a test
  abbrev pub cell : (ℕ → Bool) → ℕ → ℕ → Charge → ℕ → ℕ → Credit → List Y
  cell b s e c q r k = cond (b (min e r)) (F c k (min e r - max s q)) []

  abbrev pub line : (ℕ → Bool) → ℕ → ℕ → Charge → ℕ → List Credit → List Y
  line b s e c p ks = parts_from (λ k. k.cents) (λ q r k. cell b s e c q r k) p ks

  abbrev pub grid : (ℕ → Bool) → ℕ → ℕ → List Charge → List Credit → List Y
  grid b s p cs ks = parts_from (λ c. c.cents) (λ t e c. line b t e c p ks) s cs

  cell_no : (b : ℕ → Bool) (s e : ℕ) (c : Charge) (q r : ℕ) (k : Credit) → b (min e r) ≡ false → cell b s e c q r k ≡ []
  cell_no b s e c q r k is = ap (λ v. cond v (F c k (min e r - max s q)) []) is

  cell_yes : (b : ℕ → Bool) (s e : ℕ) (c : Charge) (q r : ℕ) (k : Credit) → b (min e r) ≡ true → cell b s e c q r k ≡ F c k (min e r - max s q)
  cell_yes b s e c q r k is = ap (λ v. cond v (F c k (min e r - max s q)) []) is

  cell_empty : (b : ℕ → Bool) (s e : ℕ) (c : Charge) (q r : ℕ) (k : Credit) (v : Bool) → min e r - max s q ≡ 0 → cond v (F c k (min e r - max s q)) [] ≡ []
  cell_empty b s e c q r k true none = ap (λ n. F c k n) none ∙ nothing c k
  cell_empty b s e c q r k false none = refl

  module _ (place : ℕ) where
    abbrev pub below : ℕ → Bool
    below end = nat_le end place

    abbrev pub beyond : ℕ → Bool
    beyond end = nat_lt place end

    -- nothing that begins at the place or beyond it ends below it
    cell_late : (s e : ℕ) (c : Charge) (q r : ℕ) (k : Credit) → place ≤ max s q → cell below s e c q r k ≡ []
    cell_late s e c q r k h =
        elim (cases_le (min e r) place) [
          | inl low ↦ cell_empty below s e c q r k (nat_le (min e r) place) (omega arith)
          | inr high ↦ cell_no below s e c q r k (lt-leb (min e r) place high)
        ]

    pub line_late : (s e : ℕ) (c : Charge) (p : ℕ) (ks : List Credit) → place ≤ max s p → line below s e c p ks ≡ []
    line_late s e c p [] h = refl
    line_late s e c p (k ∷ ks) h = (λ i. cell_late s e c p (p + k.cents) k h i ++ line_late s e c (p + k.cents) ks (omega arith) i)

    pub grid_late : (s p : ℕ) (cs : List Charge) (ks : List Credit) → place ≤ max s p → grid below s p cs ks ≡ []
    grid_late s p [] ks h = refl
    grid_late s p (c ∷ cs) ks h = (λ i. line_late s (s + c.cents) c p ks h i ++ grid_late (s + c.cents) p cs ks (omega arith) i)

    -- nothing that ends at or below the place reaches beyond it
    cell_early : (s e : ℕ) (c : Charge) (q r : ℕ) (k : Credit) → min e r ≤ place → cell beyond s e c q r k ≡ []
    cell_early s e c q r k h = cell_no beyond s e c q r k (le-ltb place (min e r) h)

    line_early : (s e : ℕ) (c : Charge) (p : ℕ) (ks : List Credit) → e ≤ place → line beyond s e c p ks ≡ []
    line_early s e c p [] h = refl
    line_early s e c p (k ∷ ks) h = (λ i. cell_early s e c p (p + k.cents) k (omega arith) i ++ line_early s e c (p + k.cents) ks h i)

    -- the line of a charge, parted
    line_parted : (s e : ℕ) (c : Charge) (p : ℕ) (ks : List Credit) → line_all F s e c p ks ≡ line below s e c p ks ++ line beyond s e c p ks
    line_parted s e c p [] = refl
    line_parted s e c p (k ∷ ks) =
        let r : ℕ = p + k.cents in
        let here : List Y = F c k (min e r - max s p) in
        let low : List Y = line below s e c r ks in
        let high : List Y = line beyond s e c r ks in
        elim (cases_le (min e r) place) [
          | inl down ↦
              ap (λ ys. here ++ ys) (line_parted s e c r ks)
              ∙ sym (append_assoc here low high)
              ∙ sym (λ i. (cell_yes below s e c p r k (le-leb (min e r) place down) i ++ low) ++ (cell_early s e c p r k down i ++ high))
          | inr up ↦
              ap (λ ys. here ++ ys) (line_parted s e c r ks ∙ ap (λ ys. ys ++ high) (line_late s e c r ks (omega arith)))
              ∙ sym (λ i. (cell_no below s e c p r k (lt-leb (min e r) place up) i ++ line_late s e c r ks (omega arith) i) ++ (cell_yes beyond s e c p r k (lt-ltb place (min e r) up) i ++ high))
        ]

    -- all of an account, parted
    pub grid_parted : (s p : ℕ) (cs : List Charge) (ks : List Credit) → grid_all F s p cs ks ≡ grid below s p cs ks ++ grid beyond s p cs ks
    grid_parted s p [] ks = refl
    grid_parted s p (c ∷ cs) ks =
        let e : ℕ = s + c.cents in
        let low : List Y = line below s e c p ks in
        let high : List Y = line beyond s e c p ks in
        let lows : List Y = grid below e p cs ks in
        let highs : List Y = grid beyond e p cs ks in
        (λ i. line_parted s e c p ks i ++ grid_parted e p cs ks i)
        ∙ elim (cases_le e place) [
          | inl down ↦
              (λ i. (low ++ line_early s e c p ks down i) ++ (lows ++ highs))
              ∙ ap (λ ys. ys ++ (lows ++ highs)) (append-nil low)
              ∙ sym (append_assoc low lows highs)
              ∙ sym (λ i. (low ++ lows) ++ (line_early s e c p ks down i ++ highs))
          | inr up ↦
              let none : lows ≡ [] = grid_late e p cs ks (omega arith) in
              (λ i. (low ++ high) ++ (none i ++ highs))
              ∙ append_assoc low high highs
              ∙ ap (λ ys. ys ++ (high ++ highs)) (sym (append-nil low))
              ∙ sym (λ i. (low ++ none i) ++ (high ++ highs))
        ]

    -- ---- lists that lie on both sides of the place
    -- a charge that reaches beyond the place has nothing below it of the payments that do
    pub line_reaching : (s e : ℕ) (c : Charge) (p : ℕ) (ks : List Credit) → (place ≤ s) ⊎ (place < e) → Reaches place (λ k. k.cents) p ks → line below s e c p ks ≡ []
    line_reaching s e c p [] far near = refl
    line_reaching s e c p (k ∷ ks) (inl at) near = line_late s e c p (k ∷ ks) (omega arith)
    line_reaching s e c p (k ∷ ks) (inr far) (inl at) = line_late s e c p (k ∷ ks) (omega arith)
    line_reaching s e c p (k ∷ ks) (inr far) (inr near) =
        (λ i. cell_no below s e c p (p + k.cents) k (lt-leb (min e (p + k.cents)) place (omega arith)) i ++ line_late s e c (p + k.cents) ks (omega arith) i)

    grid_reaching : (s p : ℕ) (cs : List Charge) (ks : List Credit) → Reaches place (λ c. c.cents) s cs → Reaches place (λ k. k.cents) p ks → grid below s p cs ks ≡ []
    grid_reaching s p [] ks far near = refl
    grid_reaching s p (c ∷ cs) ks (inl at) near = grid_late s p (c ∷ cs) ks (omega arith)
    grid_reaching s p (c ∷ cs) ks (inr far) near =
        (λ i. line_reaching s (s + c.cents) c p ks (inr far) near i ++ grid_late (s + c.cents) p cs ks (omega arith) i)

    -- what reaches beyond the place is spread over what reaches beyond it
    line_behind : (s e : ℕ) (c : Charge) (p : ℕ) (us vs : List Credit) → p + credited us ≤ place → line beyond s e c p (us ++ vs) ≡ line beyond s e c (p + credited us) vs
    line_behind s e c p us vs h =
        parts_from-append (λ k. k.cents) (λ q r k. cell beyond s e c q r k) p us vs
        ∙ ap (λ ys. ys ++ line beyond s e c (p + credited us) vs) (parts_from-ended (λ k. k.cents) (λ q r k. cell beyond s e c q r k) place (λ q k low. cell_early s e c q (q + k.cents) k (omega arith)) p us h)

    grid_behind_credits : (s p : ℕ) (cs : List Charge) (us vs : List Credit) → p + credited us ≤ place → grid beyond s p cs (us ++ vs) ≡ grid beyond s (p + credited us) cs vs
    grid_behind_credits s p [] us vs h = refl
    grid_behind_credits s p (c ∷ cs) us vs h =
        (λ i. line_behind s (s + c.cents) c p us vs h i ++ grid_behind_credits (s + c.cents) p cs us vs h i)

    grid_behind : (s p : ℕ) (ds bs : List Charge) (us vs : List Credit) → s + charged ds ≤ place → p + credited us ≤ place → grid beyond s p (ds ++ bs) (us ++ vs) ≡ grid beyond (s + charged ds) (p + credited us) bs vs
    grid_behind s p ds bs us vs h g =
        parts_from-append (λ c. c.cents) (λ t e c. line beyond t e c p (us ++ vs)) s ds bs
        ∙ ap (λ ys. ys ++ grid beyond (s + charged ds) p bs (us ++ vs)) (parts_from-ended (λ c. c.cents) (λ t e c. line beyond t e c p (us ++ vs)) place (λ t c low. line_early t (t + c.cents) c p (us ++ vs) low) s ds h)
        ∙ grid_behind_credits (s + charged ds) p bs us vs g

    pub grid_cut : (s p : ℕ) (ds bs : List Charge) (us vs : List Credit) → s + charged ds ≤ place → p + credited us ≤ place → Reaches place (λ c. c.cents) (s + charged ds) bs → Reaches place (λ k. k.cents) (p + credited us) vs → grid_all F s p (ds ++ bs) (us ++ vs) ≡ grid below s p (ds ++ bs) (us ++ vs) ++ grid_all F (s + charged ds) (p + credited us) bs vs
    grid_cut s p ds bs us vs h g far near =
        let high : grid_all F (s + charged ds) (p + credited us) bs vs ≡ grid beyond (s + charged ds) (p + credited us) bs vs =
        grid_parted (s + charged ds) (p + credited us) bs vs ∙ ap (λ ys. ys ++ grid beyond (s + charged ds) (p + credited us) bs vs) (grid_reaching (s + charged ds) (p + credited us) bs vs far near) in
        grid_parted s p (ds ++ bs) (us ++ vs)
        ∙ ap (λ ys. grid below s p (ds ++ bs) (us ++ vs) ++ ys) (grid_behind s p ds bs us vs h g ∙ sym high)

    -- what ends at or below the place is spread over what lies there
    pub grid_same_charges : (s p : ℕ) (zs rs : List Charge) (ks : List Credit) → place ≤ s + charged zs → grid below s p (zs ++ rs) ks ≡ grid below s p zs ks
    grid_same_charges s p zs rs ks h =
        parts_from-append (λ c. c.cents) (λ t e c. line below t e c p ks) s zs rs
        ∙ ap (λ ys. grid below s p zs ks ++ ys) (grid_late (s + charged zs) p rs ks (omega arith))
        ∙ append-nil (grid below s p zs ks)

    line_same : (s e : ℕ) (c : Charge) (p : ℕ) (ws us : List Credit) → place ≤ p + credited ws → line below s e c p (ws ++ us) ≡ line below s e c p ws
    line_same s e c p ws us h =
        parts_from-append (λ k. k.cents) (λ q r k. cell below s e c q r k) p ws us
        ∙ ap (λ ys. line below s e c p ws ++ ys) (line_late s e c (p + credited ws) us (omega arith))
        ∙ append-nil (line below s e c p ws)

    pub grid_same_credits : (s p : ℕ) (cs : List Charge) (ws us : List Credit) → place ≤ p + credited ws → grid below s p cs (ws ++ us) ≡ grid below s p cs ws
    grid_same_credits s p [] ws us h = refl
    grid_same_credits s p (c ∷ cs) ws us h = (λ i. line_same s (s + c.cents) c p ws us h i ++ grid_same_credits (s + c.cents) p cs ws us h i)

  -- what each part has, all have
  module _ (P : Y → Type 0) (Q : Charge → Type 0) (R : Credit → Type 0) (each : (c : Charge) (k : Credit) (n : ℕ) → Q c → R k → All P (F c k n)) where
    cell_each : (c : Charge) (k : Credit) (n : ℕ) (v : Bool) → Q c → R k → All P (cond v (F c k n) [])
    cell_each c k n true q r = each c k n q r
    cell_each c k n false q r = All-nil P

    line_each : (b : ℕ → Bool) (s e : ℕ) (c : Charge) (p : ℕ) (ks : List Credit) → Q c → All R ks → All P (line b s e c p ks)
    line_each b s e c p [] q rs = All-nil P
    line_each b s e c p (k ∷ ks) q rs =
        All-append P (cell b s e c p (p + k.cents) k) (line b s e c (p + k.cents) ks)
        (cell_each c k (min e (p + k.cents) - max s p) (b (min e (p + k.cents))) q (All-head R k ks rs))
        (line_each b s e c (p + k.cents) ks q (All-tail R k ks rs))

    pub grid_each : (b : ℕ → Bool) (s p : ℕ) (cs : List Charge) (ks : List Credit) → All Q cs → All R ks → All P (grid b s p cs ks)
    grid_each b s p [] ks qs rs = All-nil P
    grid_each b s p (c ∷ cs) ks qs rs =
        All-append P (line b s (s + c.cents) c p ks) (grid b (s + c.cents) p cs ks)
        (line_each b s (s + c.cents) c p ks (All-head Q c cs qs) rs)
        (grid_each b (s + c.cents) p cs ks (All-tail Q c cs qs) rs)
