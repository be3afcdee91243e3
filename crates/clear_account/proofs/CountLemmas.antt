-- How many pieces there are.
use Rattle.std.proofs.Common.{ℕ, ◌+◌, ◌-◌, ◌≤◌, Bool, true, false, List, [], ◌∷◌, length, min, max, nat_lt, cond, inl, inr, ap, arith}
use Rattle.std.proofs.lemmas.Bool.{cases_lt}
use Rattle.std.proofs.lemmas.List.{length-append}
use Rattle.clear_account.specs.declared.entries.Charge.{Charge}
use Rattle.clear_account.specs.declared.entries.Credit.{Credit}
use Rattle.clear_account.specs.declared.entries.Piece.{Piece}
use Rattle.clear_account.specs.Allocation.{piece_of}
use Rattle.clear_account.specs.Laws.{FewPieces}
use Rattle.clear_account.proofs.QueueLemmas.{next_charge, next_credit, no_credits, piece_in, right_from, right_pieces-walk}

-- ---- pieces
length-if : {X : Type 0} (x : X) (b : Bool) → length (cond b (x ∷ []) []) ≤ 1
length-if x true = omega arith
length-if x false = omega arith

length-piece_of : (c : Charge) (k : Credit) (n : ℕ) → length (piece_of c k n) ≤ 1
length-piece_of c k n = length-if (record { month = c.month; serial = k.serial; cents = n }) (nat_lt 0 n)

-- each turn of two queues adds one piece at most, and leaves one charge or credit behind
few_from : (s p : ℕ) (cs : List Charge) (ks : List Credit) → length (right_from s p cs ks) ≤ length cs + length ks
few_from s p [] ks = omega arith
few_from s p (c ∷ cs) [] = omega (arith, ap (λ xs. length xs) (no_credits s p (c ∷ cs)))
few_from s p (c ∷ cs) (k ∷ ks) =
    let e : ℕ = s + c.cents in
    let r : ℕ = p + k.cents in
    let one : List Piece = piece_in s e c p r k in
    let most : length one ≤ 1 = length-piece_of c k (min e r - max s p) in
    elim (cases_lt r e) [
      | inl less ↦
          omega (arith, most, ap (λ xs. length xs) (next_credit s p c cs k ks (omega arith)), length-append one (right_from s r (c ∷ cs) ks), few_from s r (c ∷ cs) ks)
      | inr more ↦
          omega (arith, most, ap (λ xs. length xs) (next_charge s p c cs k ks (omega arith)), length-append one (right_from e p cs (k ∷ ks)), few_from e p cs (k ∷ ks))
    ]

pub few_pieces : FewPieces
few_pieces cs ks = omega (arith, ap (λ xs. length xs) (right_pieces-walk cs ks), few_from 0 0 cs ks)
