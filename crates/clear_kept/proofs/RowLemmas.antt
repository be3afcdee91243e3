-- Rows, as a walk along both lists.
use Rattle.std.proofs.Common.{◌≡◌, ℕ, ◌+◌, ◌-◌, Bool, true, false, cond, nat_lt, List, [], ◌∷◌, ◌++◌, length, map, min, max, refl, ◌∙◌}
use Rattle.std.specs.List.{All, filter, flat_map, range_with_len}
use Rattle.std.proofs.lemmas.List.{map-append}
use Rattle.std.proofs.lemmas.List.Elements.{All-cons, All-head, All-nil, All-tail}
use Rattle.clear_account.specs.declared.entries.Charge.{Charge}
use Rattle.clear_account.specs.declared.entries.Credit.{Credit}
use Rattle.clear_account.specs.Account.{charge_at, charged_up_to}
use Rattle.clear_account.proofs.StretchLemmas.{flat_map-range}
use Rattle.clear_account.proofs.WalkLemmas.{grid_all, line_all, spread-walk}
use Rattle.clear_kept.specs.declared.rows.DatedPiece.{DatedPiece}
use Rattle.clear_kept.specs.Dated.{dated_behind, dated_piece_of, dated_pieces}

pub no_row : (c : Charge) (k : Credit) → dated_piece_of c k 0 ≡ []
no_row c k = refl

pub dated_pieces-walk : (cs : List Charge) (ks : List Credit) → dated_pieces cs ks ≡ grid_all dated_piece_of 0 0 cs ks
unfolding dated_pieces
dated_pieces-walk cs ks =
    (λ t. flat_map (λ i. flat_map-range (λ k. k.cents) (record { day = 0; serial = 0; cents = 0 }) (λ q r k. dated_piece_of (charge_at cs i) k (min (charged_up_to cs (i + 1)) r - max (charged_up_to cs i) q)) ks t) (range_with_len 0 (length cs)))
    ∙ flat_map-range (λ c. c.cents) (record { month = 0; due = 0; cents = 0 }) (λ s e c. line_all dated_piece_of s e c 0 ks) cs

pub dated_behind-walk : (s p : ℕ) (cs : List Charge) (ks : List Credit) → dated_behind s p cs ks ≡ grid_all dated_piece_of s p cs ks
unfolding dated_behind
dated_behind-walk s p cs ks = spread-walk dated_piece_of s p cs ks

-- what holds of a row of a charge and a payment, whatever its cents
pub row_each : (P : DatedPiece → Type 0) (c : Charge) (k : Credit) (n : ℕ) → ((z : ℕ) → P (record { month = c.month; day = k.day; serial = k.serial; cents = z })) → All P (dated_piece_of c k n)
row_each P c k n each = one (nat_lt 0 n)
  where
    one : (v : Bool) → All P (cond v (record { month = c.month; day = k.day; serial = k.serial; cents = n } ∷ []) [])
    one true = All-cons P (record { month = c.month; day = k.day; serial = k.serial; cents = n }) [] (each n) (All-nil P)
    one false = All-nil P

-- ---- maps
-- a map of all parts is the parts of a map
module _ {X Y : Type 0} (g : X → Y) (F : Charge → Credit → ℕ → List X) (G : Charge → Credit → ℕ → List Y) (Q : Credit → Type 0) (each : (c : Charge) (k : Credit) (n : ℕ) → Q k → map g (F c k n) ≡ G c k n) where
  line_map : (s e : ℕ) (c : Charge) (p : ℕ) (ks : List Credit) → All Q ks → map g (line_all F s e c p ks) ≡ line_all G s e c p ks
  line_map s e c p [] all = refl
  line_map s e c p (k ∷ ks) all =
      let n : ℕ = min e (p + k.cents) - max s p in
      map-append g (F c k n) (line_all F s e c (p + k.cents) ks)
      ∙ (λ i. each c k n (All-head Q k ks all) i ++ line_map s e c (p + k.cents) ks (All-tail Q k ks all) i)

  pub grid_map : (s p : ℕ) (cs : List Charge) (ks : List Credit) → All Q ks → map g (grid_all F s p cs ks) ≡ grid_all G s p cs ks
  grid_map s p [] ks all = refl
  grid_map s p (c ∷ cs) ks all =
      map-append g (line_all F s (s + c.cents) c p ks) (grid_all F (s + c.cents) p cs ks)
      ∙ (λ i. line_map s (s + c.cents) c p ks all i ++ grid_map (s + c.cents) p cs ks all i)

map_cond : {X : Type 0} (g : X → X) (v : Bool) (x : X) (xs : List X) → cond v (g x ∷ map g xs) (map g xs) ≡ map g (cond v (x ∷ xs) xs)
map_cond g true x xs = refl
map_cond g false x xs = refl

-- a filter of a map, by a test that does not see what g changes
pub filter-map : {X : Type 0} (p : X → Bool) (g : X → X) → ((x : X) → p (g x) ≡ p x) → (xs : List X) → filter p (map g xs) ≡ map g (filter p xs)
filter-map p g same [] = refl
filter-map p g same (x ∷ xs) =
    (λ i. cond (same x i) (g x ∷ filter-map p g same xs i) (filter-map p g same xs i))
    ∙ map_cond g (p x) x (filter p xs)
