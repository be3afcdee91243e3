-- The pieces of a suffix, as a walk along both lists.
use Rattle.std.proofs.Common.{◌≡◌, ℕ, ◌+◌, ◌-◌, List, [], ◌∷◌, ◌++◌, length, min, max, refl, sym, ap, ◌∙◌, arith}
use Rattle.std.specs.List.{flat_map, range_with_len}
use Rattle.clear_account.specs.declared.entries.Charge.{Charge}
use Rattle.clear_account.specs.declared.entries.Credit.{Credit}
use Rattle.clear_account.specs.Account.{charge_at, charged_up_to, credit_at, credited_up_to}
use Rattle.clear_account.specs.Allocation.{piece_of, right_pieces}
use Rattle.clear_account.proofs.StretchLemmas.{parts_from, flat_map-range}
use Rattle.clear_account.proofs.QueueLemmas.{right_from, right_pieces-walk}
use Rattle.clear_account.specs.Suffix.{pieces_behind}

-- a walk that begins further on
pub parts_from-shift : {X Y : Type 0} (f : X → ℕ) (G : ℕ → ℕ → X → List Y) (s p : ℕ) (xs : List X) → parts_from f (λ q r x. G (s + q) (s + r) x) p xs ≡ parts_from f G (s + p) xs
parts_from-shift f G s p [] = refl
parts_from-shift f G s p (x ∷ xs) =
    let end : s + (p + f x) ≡ s + p + f x = omega arith in
    (λ i. G (s + p) (end i) x ++ (parts_from-shift f G s (p + f x) xs ∙ ap (λ n. parts_from f G n xs) end) i)

-- what two lists have in common, for any parts
module _ {Y : Type 0} (F : Charge → Credit → ℕ → List Y) where
  abbrev pub spread : ℕ → ℕ → List Charge → List Credit → List Y
  spread s p cs ks = flat_map
      (λ i. flat_map (λ j. F (charge_at cs i) (credit_at ks j) (min (s + charged_up_to cs (i + 1)) (p + credited_up_to ks (j + 1)) - max (s + charged_up_to cs i) (p + credited_up_to ks j))) (range_with_len 0 (length ks)))
      (range_with_len 0 (length cs))

  abbrev pub line_all : ℕ → ℕ → Charge → ℕ → List Credit → List Y
  line_all s e c p ks = parts_from (λ k. k.cents) (λ q r k. F c k (min e r - max s q)) p ks

  abbrev pub grid_all : ℕ → ℕ → List Charge → List Credit → List Y
  grid_all s p cs ks = parts_from (λ c. c.cents) (λ t e c. line_all t e c p ks) s cs

  pub spread-walk : (s p : ℕ) (cs : List Charge) (ks : List Credit) → spread s p cs ks ≡ grid_all s p cs ks
  spread-walk s p cs ks =
      let zero_s : s + 0 ≡ s = omega arith in
      let zero_p : p + 0 ≡ p = omega arith in
      (λ t. flat_map (λ i. (flat_map-range (λ k. k.cents) (record { day = 0; serial = 0; cents = 0 }) (λ q r k. F (charge_at cs i) k (min (s + charged_up_to cs (i + 1)) (p + r) - max (s + charged_up_to cs i) (p + q))) ks
      ∙ parts_from-shift (λ k. k.cents) (λ q r k. F (charge_at cs i) k (min (s + charged_up_to cs (i + 1)) r - max (s + charged_up_to cs i) q)) p 0 ks
      ∙ ap (λ n. line_all (s + charged_up_to cs i) (s + charged_up_to cs (i + 1)) (charge_at cs i) n ks) zero_p) t) (range_with_len 0 (length cs)))
      ∙ flat_map-range (λ c. c.cents) (record { month = 0; due = 0; cents = 0 }) (λ q r c. line_all (s + q) (s + r) c p ks) cs
      ∙ parts_from-shift (λ c. c.cents) (λ q r c. line_all q r c p ks) s 0 cs
      ∙ ap (λ n. grid_all n p cs ks) zero_s

pub pieces_behind-walk : (s p : ℕ) (cs : List Charge) (ks : List Credit) → pieces_behind s p cs ks ≡ right_from s p cs ks
unfolding pieces_behind
pieces_behind-walk s p cs ks = spread-walk piece_of s p cs ks

-- nothing lies before all of an account
pub pieces_behind-none : (cs : List Charge) (ks : List Credit) → pieces_behind 0 0 cs ks ≡ right_pieces cs ks
pieces_behind-none cs ks = pieces_behind-walk 0 0 cs ks ∙ sym (right_pieces-walk cs ks)
