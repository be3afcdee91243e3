-- Which pieces a change keeps.
use Rattle.std.proofs.Common.{◌≡◌, ℕ, ◌+◌, ◌-◌, ◌<◌, ◌≤◌, Bool, true, false, cond, nat_lt, List, [], ◌∷◌, ◌++◌, length, take, min, max, zero, suc, inl, inr, refl, sym, ap, subst, ◌∙◌, arith}
use Rattle.std.specs.List.{All, sum_by}
use Rattle.std.proofs.lemmas.Bool.{cases_order, le-leb, lt-leb, ltb-true}
use Rattle.std.proofs.lemmas.List.{length-append, take-append-le, take_at}
use Rattle.std.proofs.lemmas.List.Elements.{All-cons, All-head, All-nil}
use Rattle.std.proofs.lemmas.List.Sums.{sum_by-append, sum_by-cons, sum_by-take-le}
use Rattle.clear_account.specs.declared.entries.Charge.{Charge}
use Rattle.clear_account.specs.declared.entries.Credit.{Credit}
use Rattle.clear_account.specs.declared.entries.Piece.{Piece}
use Rattle.clear_account.specs.Account.{charged, credited}
use Rattle.clear_account.specs.Allocation.{piece_of, right_pieces}
use Rattle.clear_account.proofs.LawLemmas.{sum_by-piece_of, sum_by-right_from}
use Rattle.clear_account.proofs.QueueLemmas.{right_pieces-walk}
use Rattle.clear_account.specs.Places.{Ends}
use Rattle.clear_account.specs.Suffix.{pieces_behind}
use Rattle.clear_account.proofs.GridLemmas.{Reaches, below, cases_le, cell, grid, grid_cut, grid_each, line}
use Rattle.clear_account.proofs.ReachLemmas.{take_over}
use Rattle.clear_account.proofs.WalkLemmas.{grid_all, pieces_behind-walk}

pub no_piece : (c : Charge) (k : Credit) → piece_of c k 0 ≡ []
no_piece c k = refl

-- the pieces that end at or below a place
abbrev pub low : ℕ → ℕ → ℕ → List Charge → List Credit → List Piece
low place s p cs ks = grid piece_of no_piece (below piece_of no_piece place) s p cs ks

abbrev cents : List Piece → ℕ
cents ps = sum_by (λ (p : Piece). p.cents) ps

-- ---- sums
module _ (place : ℕ) where
  abbrev low_line : ℕ → ℕ → Charge → ℕ → List Credit → List Piece
  low_line s e c p ks = line piece_of no_piece (below piece_of no_piece place) s e c p ks

  low_cell_le : (s e : ℕ) (c : Charge) (q r : ℕ) (k : Credit) → (min e r ≤ place → cents (cell piece_of no_piece (below piece_of no_piece place) s e c q r k) ≡ min e r - max s q) × (place < min e r → cents (cell piece_of no_piece (below piece_of no_piece place) s e c q r k) ≡ 0)
  low_cell_le s e c q r k = (
    (λ h. ap (λ b. cents (cond b (piece_of c k (min e r - max s q)) [])) (le-leb (min e r) place h) ∙ sum_by-piece_of c k (min e r - max s q)),
    (λ h. ap (λ b. cents (cond b (piece_of c k (min e r - max s q)) [])) (lt-leb (min e r) place h)),
  )

  low_line_sum : (s e : ℕ) (c : Charge) (p : ℕ) (ks : List Credit) → s ≤ e → cents (low_line s e c p ks) ≤ min place e - max s p
  low_line_sum s e c p [] h = omega arith
  low_line_sum s e c p (k ∷ ks) h =
      let r : ℕ = p + k.cents in
      let sum : cents (low_line s e c p (k ∷ ks)) ≡ cents (cell piece_of no_piece (below piece_of no_piece place) s e c p r k) + cents (low_line s e c r ks) = sum_by-append (λ (q : Piece). q.cents) (cell piece_of no_piece (below piece_of no_piece place) s e c p r k) (low_line s e c r ks) in
      let rest : cents (low_line s e c r ks) ≤ min place e - max s r = low_line_sum s e c r ks h in
      elim (cases_le (min e r) place) [
        | inl down ↦ omega (arith, (low_cell_le s e c p r k).0 down)
        | inr up ↦ omega (arith, (low_cell_le s e c p r k).1 up)
      ]

  low_sum : (s p : ℕ) (cs : List Charge) (ks : List Credit) → cents (low place s p cs ks) ≤ place - max s p
  low_sum s p [] ks = omega arith
  low_sum s p (c ∷ cs) ks =
      omega (arith, sum_by-append (λ (q : Piece). q.cents) (low_line s (s + c.cents) c p ks) (low place (s + c.cents) p cs ks), low_line_sum s (s + c.cents) c p ks (omega arith), low_sum (s + c.cents) p cs ks)

-- ---- each piece is of 1 cent or more
piece_some_at : (c : Charge) (k : Credit) (n : ℕ) (b : Bool) → nat_lt 0 n ≡ b → All (λ (p : Piece). 0 < p.cents) (cond b (record { month = c.month; serial = k.serial; cents = n } ∷ []) [])
piece_some_at c k n true is = All-cons (λ (p : Piece). 0 < p.cents) (record { month = c.month; serial = k.serial; cents = n }) [] (ltb-true 0 n is) (All-nil (λ (p : Piece). 0 < p.cents))
piece_some_at c k n false is = All-nil (λ (p : Piece). 0 < p.cents)

behind_some : (s p : ℕ) (cs : List Charge) (ks : List Credit) → All (λ (q : Piece). 0 < q.cents) (pieces_behind s p cs ks)
behind_some s p cs ks =
    subst (All (λ (q : Piece). 0 < q.cents)) (sym (pieces_behind-walk s p cs ks))
    (grid_each piece_of no_piece (λ q. 0 < q.cents) (λ c. Unit) (λ k. Unit) (λ c k n u v. piece_some_at c k n (nat_lt 0 n) refl) (λ n. true) s p cs ks (λ i d lt. tt) (λ i d lt. tt))

some_sum : (n : ℕ) (ps : List Piece) → 0 < n → 0 < length ps → All (λ (q : Piece). 0 < q.cents) ps → 0 < cents (take n ps)
some_sum zero ps h within some = absurd (omega arith)
some_sum (suc n) [] h within some = absurd (omega arith)
some_sum (suc n) (p ∷ ps) h within some = omega (arith, sum_by-cons (λ (q : Piece). q.cents) p (take n ps), All-head (λ (q : Piece). 0 < q.cents) p ps some)

-- ---- so the pieces that end at or below the place are as many as their cents tell
front_is : (place n : ℕ) (lows highs : List Piece) → cents lows ≤ place → (0 < length highs → place ≤ cents lows) → All (λ (q : Piece). 0 < q.cents) highs → Ends (λ (q : Piece). q.cents) (lows ++ highs) place n → take n (lows ++ highs) ≡ lows
front_is place n lows highs h full some e =
    elim (cases_order n (length lows)) [
      | inl same ↦ take_at lows highs n (sym same)
      | inr (inl less) ↦
          let front : cents (take (n + 1) (lows ++ highs)) ≡ cents (take (n + 1) lows) = ap (sum_by (λ (q : Piece). q.cents)) (take-append-le (n + 1) lows highs (omega arith)) in
          absurd (omega (arith, e.beyond (omega (arith, length-append lows highs)), sum_by-take-le (λ (q : Piece). q.cents) lows (n + 1)))
      | inr (inr more) ↦
          let m : ℕ = n - length lows in
          let over : length lows + m ≡ n = omega arith in
          let front : take n (lows ++ highs) ≡ lows ++ take m highs = ap (λ i. take i (lows ++ highs)) (sym over) ∙ take_over lows highs m in
          let within : 0 < length highs = omega (arith, e.within, length-append lows highs) in
          absurd (omega (arith, e.below, ap (sum_by (λ (q : Piece). q.cents)) front, sum_by-append (λ (q : Piece). q.cents) lows (take m highs), full within, some_sum m highs (omega arith) within some))
    ]

-- ---- the lists, parted by the place
module _ (place : ℕ) (ds bs : List Charge) (us vs : List Credit) (charges_end : charged ds ≤ place) (credits_end : credited us ≤ place) (far : Reaches place (λ (c : Charge). c.cents) (charged ds) bs) (near : Reaches place (λ (k : Credit). k.cents) (credited us) vs) where
  zero_s : 0 + charged ds ≡ charged ds
  zero_s = omega arith

  zero_p : 0 + credited us ≡ credited us
  zero_p = omega arith

  pub parted : right_pieces (ds ++ bs) (us ++ vs) ≡ low place 0 0 (ds ++ bs) (us ++ vs) ++ pieces_behind (charged ds) (credited us) bs vs
  parted =
      right_pieces-walk (ds ++ bs) (us ++ vs)
      ∙ grid_cut piece_of no_piece place 0 0 ds bs us vs (omega arith) (omega arith) (subst (λ n. Reaches place (λ (c : Charge). c.cents) n bs) (sym zero_s) far) (subst (λ n. Reaches place (λ (k : Credit). k.cents) n vs) (sym zero_p) near)
      ∙ (λ i. low place 0 0 (ds ++ bs) (us ++ vs) ++ grid_all piece_of (zero_s i) (zero_p i) bs vs)
      ∙ ap (λ ys. low place 0 0 (ds ++ bs) (us ++ vs) ++ ys) (sym (pieces_behind-walk (charged ds) (credited us) bs vs))

  -- a place at which a charge or a payment ends
  pub front_taken : (n : ℕ) → max (charged ds) (credited us) ≡ place → Ends (λ (q : Piece). q.cents) (right_pieces (ds ++ bs) (us ++ vs)) place n → take n (right_pieces (ds ++ bs) (us ++ vs)) ≡ low place 0 0 (ds ++ bs) (us ++ vs)
  front_taken n at e =
      let lows : List Piece = low place 0 0 (ds ++ bs) (us ++ vs) in
      let highs : List Piece = pieces_behind (charged ds) (credited us) bs vs in
      let all : cents lows + cents highs ≡ min (0 + charged (ds ++ bs)) (0 + credited (us ++ vs)) - 0 =
      sym (sum_by-append (λ (q : Piece). q.cents) lows highs) ∙ ap (sum_by (λ (q : Piece). q.cents)) (sym parted ∙ right_pieces-walk (ds ++ bs) (us ++ vs)) ∙ sum_by-right_from 0 0 (ds ++ bs) (us ++ vs) ∙ omega arith in
      let high : cents highs ≡ min (charged ds + charged bs) (credited us + credited vs) - max (charged ds) (credited us) =
      ap (sum_by (λ (q : Piece). q.cents)) (pieces_behind-walk (charged ds) (credited us) bs vs) ∙ sum_by-right_from (charged ds) (credited us) bs vs in
      let few : cents lows ≤ place = omega (arith, low_sum place 0 0 (ds ++ bs) (us ++ vs)) in
      let some : All (λ (q : Piece). 0 < q.cents) highs = behind_some (charged ds) (credited us) bs vs in
      let full : 0 < length highs → place ≤ cents lows =
      (λ within. omega (arith, sum_by-append (λ (c : Charge). c.cents) ds bs, sum_by-append (λ (k : Credit). k.cents) us vs, some_sum (length highs) highs within within some, sum_by-take-le (λ (q : Piece). q.cents) highs (length highs))) in
      ap (take n) parted
      ∙ front_is place n lows highs few full some (subst (λ (ps : List Piece). Ends (λ (q : Piece). q.cents) ps place n) parted e)
