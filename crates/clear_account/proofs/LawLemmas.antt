-- The laws of an account.
use Rattle.std.proofs.Common.{◌≡◌, ℕ, ◌+◌, ◌-◌, ◌*◌, ◌≤◌, Bool, true, false, List, [], ◌∷◌, min, max, nat_lt, cond, refl, sym, ap, ◌∙◌, arith}
use Rattle.std.specs.List.{sum_by}
use Rattle.std.proofs.lemmas.List.Sums.{sum_by-append, sum_by-cons}
use Rattle.std.proofs.lemmas.Bool.{ltb-false}
use Rattle.clear_money.specs.Calendar.{begun_months}
use Rattle.clear_account.specs.declared.entries.Charge.{Charge}
use Rattle.clear_account.specs.declared.entries.Credit.{Credit}
use Rattle.clear_account.specs.declared.entries.Piece.{Piece}
use Rattle.clear_account.specs.Account.{charge_at, charged, charged_up_to, credited}
use Rattle.clear_account.specs.Allocation.{open_part, piece_of}
use Rattle.clear_account.specs.Laws.{SharesSum, PiecesSum, CreditsKept, WeightByPieces, late_shares}
use Rattle.clear_account.proofs.OpenLemmas.{late_from, weight_on-is}
use Rattle.clear_account.proofs.QueueLemmas.{piece_in, pieces_from, right_from, right_pieces-walk}
use Rattle.clear_account.proofs.ShareLemmas.{charged_up_to-more, paid_of-is}
use Rattle.clear_account.proofs.StretchLemmas.{sum_by-range}

pub shares_sum : SharesSum
shares_sum cs ks i within = paid_of-is cs ks i within

-- ---- the sum of the pieces
abbrev cents_of : List Piece → ℕ
cents_of ps = sum_by (λ (p : Piece). p.cents) ps

sum_by-piece_of_at : (c : Charge) (k : Credit) (n : ℕ) (b : Bool) → nat_lt 0 n ≡ b → cents_of (cond b (record { month = c.month; serial = k.serial; cents = n } ∷ []) []) ≡ n
sum_by-piece_of_at c k n true is = omega arith
sum_by-piece_of_at c k n false is = omega (arith, ltb-false 0 n is)

pub sum_by-piece_of : (c : Charge) (k : Credit) (n : ℕ) → cents_of (piece_of c k n) ≡ n
sum_by-piece_of c k n = sum_by-piece_of_at c k n (nat_lt 0 n) refl

sum_by-pieces_from : (s e : ℕ) (c : Charge) (p : ℕ) (ks : List Credit) → s ≤ e → cents_of (pieces_from s e c p ks) ≡ min e (p + credited ks) - max s p
sum_by-pieces_from s e c p [] h = omega arith
sum_by-pieces_from s e c p (k ∷ ks) h =
    let one : List Piece = piece_in s e c p (p + k.cents) k in
    omega (arith, sum_by-append (λ (q : Piece). q.cents) one (pieces_from s e c (p + k.cents) ks), sum_by-piece_of c k (min e (p + k.cents) - max s p), sum_by-pieces_from s e c (p + k.cents) ks h, sum_by-cons (λ (l : Credit). l.cents) k ks)

-- those of charges from s on and payments from p on
pub sum_by-right_from : (s p : ℕ) (cs : List Charge) (ks : List Credit) → cents_of (right_from s p cs ks) ≡ min (s + charged cs) (p + credited ks) - max s p
sum_by-right_from s p [] ks = omega arith
sum_by-right_from s p (c ∷ cs) ks =
    omega (arith, sum_by-append (λ (q : Piece). q.cents) (pieces_from s (s + c.cents) c p ks) (right_from (s + c.cents) p cs ks), sum_by-pieces_from s (s + c.cents) c p ks (omega arith), sum_by-right_from (s + c.cents) p cs ks, sum_by-cons (λ (d : Charge). d.cents) c cs)

pub pieces_sum : PiecesSum
pieces_sum cs ks = ap (sum_by (λ (p : Piece). p.cents)) (right_pieces-walk cs ks) ∙ sum_by-right_from 0 0 cs ks ∙ omega arith

pub credits_kept : CreditsKept
credits_kept cs ks = omega (arith, pieces_sum cs ks)

-- ---- the weight
-- the late shares of charge i as a walk along the credits
pub late_shares-walk : (cs : List Charge) (ks : List Credit) (i : ℕ) → late_shares cs ks i ≡ late_from (charged_up_to cs i) (charged_up_to cs (i + 1)) (charge_at cs i).due 0 ks
late_shares-walk cs ks i =
    sum_by-range (λ k. k.cents) (record { day = 0; serial = 0; cents = 0 }) (λ q r k. (min (charged_up_to cs (i + 1)) r - max (charged_up_to cs i) q) * begun_months (charge_at cs i).due k.day) ks

pub weight_by_shares : WeightByPieces
weight_by_shares cs ks i t a within early =
    let s : ℕ = charged_up_to cs i in
    let due : ℕ = (charge_at cs i).due in
    weight_on-is cs ks i t a within early
    ∙ ap (λ n. n + open_part cs ks i * begun_months due t) (ap (λ e. late_from s e due 0 ks) (sym (charged_up_to-more cs i within)) ∙ sym (late_shares-walk cs ks i))
