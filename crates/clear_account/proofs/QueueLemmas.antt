-- Two queues, of charges and of credits: each turn leaves the right pieces of what is left.
use Rattle.std.proofs.Common.{◌≡◌, ℕ, ◌+◌, ◌-◌, ◌<◌, ◌≤◌, List, [], ◌∷◌, ◌++◌, length, get_or, drop, min, max, ◌⊎◌, inl, inr, refl, sym, ap, ◌∙◌, arith, append_assoc}
use Rattle.std.specs.List.{flat_map, range_with_len}
use Rattle.std.proofs.lemmas.List.{append-nil, drop_more, at_drop_all}
use Rattle.clear_account.specs.declared.entries.Charge.{Charge}
use Rattle.clear_account.specs.declared.entries.Credit.{Credit}
use Rattle.clear_account.specs.declared.entries.Piece.{Piece}
use Rattle.clear_account.specs.Account.{charge_at, charged_up_to}
use Rattle.clear_account.specs.Allocation.{piece_of, right_pieces}
use Rattle.clear_account.proofs.StretchLemmas.{parts_from, flat_map-range}

-- the piece of a charge from s to e and a credit from q to r
abbrev pub piece_in : ℕ → ℕ → Charge → ℕ → ℕ → Credit → List Piece
piece_in s e c q r k = piece_of c k (min e r - max s q)

-- the pieces of one charge, the credits beginning at p
abbrev pub pieces_from : ℕ → ℕ → Charge → ℕ → List Credit → List Piece
pieces_from s e c p ks = parts_from (λ k. k.cents) (λ q r k. piece_in s e c q r k) p ks

-- the pieces of all charges, which begin at s
abbrev pub right_from : ℕ → ℕ → List Charge → List Credit → List Piece
right_from s p cs ks = parts_from (λ c. c.cents) (λ t e c. pieces_from t e c p ks) s cs

pub right_pieces-walk : (cs : List Charge) (ks : List Credit) → right_pieces cs ks ≡ right_from 0 0 cs ks
unfolding right_pieces
right_pieces-walk cs ks =
    (λ t. flat_map (λ i. flat_map-range (λ k. k.cents) (record { day = 0; serial = 0; cents = 0 }) (λ q r k. piece_in (charged_up_to cs i) (charged_up_to cs (i + 1)) (charge_at cs i) q r k) ks t) (range_with_len 0 (length cs)))
    ∙ flat_map-range (λ c. c.cents) (record { month = 0; due = 0; cents = 0 }) (λ s e c. pieces_from s e c 0 ks) cs

-- stretches that lie apart have no piece
nothing : (c : Charge) (k : Credit) (n : ℕ) → n ≡ 0 → piece_of c k n ≡ []
nothing c k n z = ap (λ m. piece_of c k m) z

charge_before : (s e : ℕ) (c : Charge) (q r : ℕ) (k : Credit) → e ≤ q → piece_in s e c q r k ≡ []
charge_before s e c q r k h = nothing c k (min e r - max s q) (omega arith)

credit_before : (s e : ℕ) (c : Charge) (q r : ℕ) (k : Credit) → r ≤ s → piece_in s e c q r k ≡ []
credit_before s e c q r k h = nothing c k (min e r - max s q) (omega arith)

-- a charge that ends where the credits begin has no pieces
past : (s e : ℕ) (c : Charge) (p : ℕ) (ks : List Credit) → e ≤ p → pieces_from s e c p ks ≡ []
past s e c p [] h = refl
past s e c p (k ∷ ks) h = (λ i. charge_before s e c p (p + k.cents) k h i ++ past s e c (p + k.cents) ks (omega arith) i)

-- a credit that ends where the charges begin has none
used : (s p : ℕ) (cs : List Charge) (k : Credit) (ks : List Credit) → p + k.cents ≤ s → right_from s p cs (k ∷ ks) ≡ right_from s (p + k.cents) cs ks
used s p [] k ks h = refl
used s p (c ∷ cs) k ks h =
    (λ i. (credit_before s (s + c.cents) c p (p + k.cents) k h i ++ pieces_from s (s + c.cents) c (p + k.cents) ks) ++ used (s + c.cents) p cs k ks (omega arith) i)

pub next_charge : (s p : ℕ) (c : Charge) (cs : List Charge) (k : Credit) (ks : List Credit) → s + c.cents ≤ p + k.cents → right_from s p (c ∷ cs) (k ∷ ks) ≡ piece_in s (s + c.cents) c p (p + k.cents) k ++ right_from (s + c.cents) p cs (k ∷ ks)
next_charge s p c cs k ks h =
    let e : ℕ = s + c.cents in
    let one : List Piece = piece_in s e c p (p + k.cents) k in
    ap (λ xs. (one ++ xs) ++ right_from e p cs (k ∷ ks)) (past s e c (p + k.cents) ks h) ∙ append_assoc one [] (right_from e p cs (k ∷ ks))

pub next_credit : (s p : ℕ) (c : Charge) (cs : List Charge) (k : Credit) (ks : List Credit) → p + k.cents ≤ s + c.cents → right_from s p (c ∷ cs) (k ∷ ks) ≡ piece_in s (s + c.cents) c p (p + k.cents) k ++ right_from s (p + k.cents) (c ∷ cs) ks
next_credit s p c cs k ks h =
    let e : ℕ = s + c.cents in
    let r : ℕ = p + k.cents in
    let one : List Piece = piece_in s e c p r k in
    ap (λ xs. (one ++ pieces_from s e c r ks) ++ xs) (used e p cs k ks h) ∙ append_assoc one (pieces_from s e c r ks) (right_from e r cs ks)

pub no_credits : (s p : ℕ) (cs : List Charge) → right_from s p cs [] ≡ []
no_credits s p [] = refl
no_credits s p (c ∷ cs) = no_credits (s + c.cents) p cs

-- charge i from s on and credit j of n cents from p on have met, and their piece of z cents was added to those before
module _ (done : List Piece) (s p i j : ℕ) (cs : List Charge) (ks : List Credit) (all : List Piece) (c : Charge) (k : Credit) (n z : ℕ) (items : List Piece) (more_cs : i < length cs) (more_ks : j < length ks) (charge : c ≡ get_or cs i c) (credit : k ≡ get_or ks j k) (amount : n ≡ k.cents) (overlap : z ≡ min (s + c.cents) (p + n) - max s p) (added : items ≡ done ++ piece_of c k z) (so_far : done ++ right_from s p (drop i cs) (drop j ks) ≡ all) where
  charges_left : drop i cs ≡ c ∷ drop (i + 1) cs
  charges_left = drop_more cs i c more_cs ∙ ap (λ x. x ∷ drop (i + 1) cs) (sym charge)

  credits_left : drop j ks ≡ k ∷ drop (j + 1) ks
  credits_left = drop_more ks j k more_ks ∙ ap (λ x. x ∷ drop (j + 1) ks) (sym credit)

  opened : done ++ right_from s p (c ∷ drop (i + 1) cs) (k ∷ drop (j + 1) ks) ≡ all
  opened = (λ t. done ++ right_from s p (sym charges_left t) (sym credits_left t)) ∙ so_far

  abbrev one : List Piece
  one = piece_in s (s + c.cents) c p (p + k.cents) k

  items_are : items ≡ done ++ one
  items_are = added ∙ ap (λ m. done ++ piece_of c k m) (omega arith)

  -- the charge ends first
  pub turn_charge : s + c.cents ≤ p + n → items ++ right_from (s + c.cents) p (drop (i + 1) cs) (drop j ks) ≡ all
  turn_charge h =
      ap (λ xs. xs ++ right_from (s + c.cents) p (drop (i + 1) cs) (drop j ks)) items_are
      ∙ append_assoc done one _
      ∙ ap (λ ys. done ++ (one ++ right_from (s + c.cents) p (drop (i + 1) cs) ys)) credits_left
      ∙ ap (λ ys. done ++ ys) (sym (next_charge s p c (drop (i + 1) cs) k (drop (j + 1) ks) (omega arith)))
      ∙ opened

  -- the credit ends first
  pub turn_credit : p + n < s + c.cents → items ++ right_from s (p + n) (drop i cs) (drop (j + 1) ks) ≡ all
  turn_credit h =
      (λ t. items_are t ++ right_from s (p + amount t) (charges_left t) (drop (j + 1) ks))
      ∙ append_assoc done one _
      ∙ ap (λ ys. done ++ ys) (sym (next_credit s p c (drop (i + 1) cs) k (drop (j + 1) ks) (omega arith)))
      ∙ opened

-- where a queue is empty, nothing is left
pub no_more : (done : List Piece) (s p i j : ℕ) (cs : List Charge) (ks : List Credit) (all : List Piece) → (length cs ≤ i) ⊎ (length ks ≤ j) → done ++ right_from s p (drop i cs) (drop j ks) ≡ all → done ≡ all
no_more done s p i j cs ks all (inl h) e = sym (append-nil done) ∙ ap (λ xs. done ++ xs) (sym (at_drop_all (λ xs. right_from s p xs (drop j ks)) cs i h)) ∙ e
no_more done s p i j cs ks all (inr h) e = sym (append-nil done) ∙ ap (λ xs. done ++ xs) (sym (at_drop_all (λ xs. right_from s p (drop i cs) xs) ks j h ∙ no_credits s p (drop i cs))) ∙ e
