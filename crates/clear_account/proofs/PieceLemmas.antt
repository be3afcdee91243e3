-- Each pair of a charge and a credit has one piece at most.
use Rattle.std.proofs.Common.{◌≡◌, ◌≢◌, ℕ, ◌+◌, ◌<◌, ◌≤◌, Bool, true, false, List, [], ◌∷◌, ◌++◌, length, get_or, nat_lt, cond, zero, suc, inl, inr, refl, sym, ◌∙◌, arith}
use Rattle.std.specs.Prelude.{◌==◌}
use Rattle.std.specs.List.{AllPairs, filter, flat_map, range_with_len}
use Rattle.std.proofs.lemmas.Bool.{and_from, and_left, and_right, cases_eq, cases_order, eq-eqb, ne_eqb}
use Rattle.std.proofs.lemmas.List.{append-nil}
use Rattle.std.proofs.lemmas.List.Elements.{filter-append}
use Rattle.clear_account.specs.declared.entries.Charge.{Charge}
use Rattle.clear_account.specs.declared.entries.Credit.{Credit}
use Rattle.clear_account.specs.declared.entries.Piece.{Piece}
use Rattle.clear_account.specs.Account.{charge_at, credit_at}
use Rattle.clear_account.specs.Allocation.{piece_of, right_pieces, share}
use Rattle.clear_account.specs.Laws.{OnePiece, is_of}

-- ---- a filter over a join of many
filter-none : {Y : Type 0} (p : Y → Bool) (F : ℕ → List Y) (a n : ℕ) → ((k : ℕ) → a ≤ k → k < a + n → filter p (F k) ≡ []) → filter p (flat_map F (range_with_len a n)) ≡ []
filter-none p F a zero none = refl
filter-none p F a (suc n) none =
    filter-append p (F a) (flat_map F (range_with_len (a + 1) n))
    ∙ (λ i. none a (omega arith) (omega arith) i ++ filter-none p F (a + 1) n (λ k low high. none k (omega arith) (omega arith)) i)

filter-one : {Y : Type 0} (p : Y → Bool) (F : ℕ → List Y) (a n i : ℕ) → a ≤ i → i < a + n → ((k : ℕ) → k < a + n → k ≢ i → filter p (F k) ≡ []) → filter p (flat_map F (range_with_len a n)) ≡ filter p (F i)
filter-one p F a zero i low high others = absurd (omega arith)
filter-one p F a (suc n) i low high others =
    filter-append p (F a) (flat_map F (range_with_len (a + 1) n))
    ∙ elim (cases_eq a i) [
      | inl same ↦
          (λ t. filter p (F (same t)) ++ filter-none p F (a + 1) n (λ k above below. others k (omega arith) (omega arith)) t)
          ∙ append-nil (filter p (F i))
      | inr differ ↦ (λ t. others a (omega arith) differ t ++ filter-one p F (a + 1) n i (omega arith) (omega arith) (λ k below. others k (omega arith)) t)
    ]

-- ---- the pieces of one charge and one credit
none_or_none : (v : Bool) → let none : List Piece = [] in cond v none none ≡ none
none_or_none true = refl
none_or_none false = refl

filter-piece_at : (q : Piece → Bool) (c : Charge) (k : Credit) (n : ℕ) (b v : Bool) → nat_lt 0 n ≡ b → q (record { month = c.month; serial = k.serial; cents = n }) ≡ v → filter q (piece_of c k n) ≡ cond v (piece_of c k n) []
filter-piece_at q c k n true v some is =
    let one : List Piece = record { month = c.month; serial = k.serial; cents = n } ∷ [] in
    (λ t. filter q (cond (some t) one [])) ∙ (λ t. cond (is t) one []) ∙ (λ t. cond v (cond (sym some t) one []) [])
filter-piece_at q c k n false v some is =
    let one : List Piece = record { month = c.month; serial = k.serial; cents = n } ∷ [] in
    (λ t. filter q (cond (some t) one [])) ∙ sym (none_or_none v) ∙ (λ t. cond v (cond (sym some t) one []) [])

filter-piece : (q : Piece → Bool) (c : Charge) (k : Credit) (n : ℕ) (v : Bool) → q (record { month = c.month; serial = k.serial; cents = n }) ≡ v → filter q (piece_of c k n) ≡ cond v (piece_of c k n) []
filter-piece q c k n v is = filter-piece_at q c k n (nat_lt 0 n) v refl is

other_place : {X : Type 0} (f : X → ℕ) (xs : List X) (i k : ℕ) (d : X) → AllPairs (λ x y. f x ≢ f y) xs → i < length xs → k < length xs → k ≢ i → f (get_or xs k d) ≢ f (get_or xs i d)
other_place f xs i k d differ within also apart =
    elim (cases_order k i) [
      | inl same ↦ absurd (apart same)
      | inr (inl less) ↦ differ k i d less within
      | inr (inr more) ↦ λ same. differ i k d more also (sym same)
    ]

months_differ : (cs : List Charge) → AllPairs (λ c d. c.month < d.month) cs → AllPairs (λ c d. c.month ≢ d.month) cs
months_differ cs rise i j d less within = let step : (get_or cs i d).month < (get_or cs j d).month = rise i j d less within in λ same. omega arith

pub one_piece : OnePiece
unfolding right_pieces
one_piece cs ks i j a charge credit =
    let month : ℕ = (charge_at cs i).month in
    let serial : ℕ = (credit_at ks j).serial in
    let wanted : Piece → Bool = is_of (charge_at cs i) (credit_at ks j) in
    let others : (k : ℕ) → k < 0 + length cs → k ≢ i → filter wanted (flat_map (λ l. piece_of (charge_at cs k) (credit_at ks l) (share cs ks k l)) (range_with_len 0 (length ks))) ≡ [] =
    (λ k below apart. filter-none wanted (λ l. piece_of (charge_at cs k) (credit_at ks l) (share cs ks k l)) 0 (length ks)
    (λ l low high. filter-piece wanted (charge_at cs k) (credit_at ks l) (share cs ks k l) false
    (and_left ((charge_at cs k).month == month) ((credit_at ks l).serial == serial)
    (ne_eqb (charge_at cs k).month month (other_place (λ c. c.month) cs i k (record { month = 0; due = 0; cents = 0 }) (months_differ cs a.months_rise) charge (omega arith) apart))))) in
    let other_credits : (l : ℕ) → l < 0 + length ks → l ≢ j → filter wanted (piece_of (charge_at cs i) (credit_at ks l) (share cs ks i l)) ≡ [] =
    (λ l below apart. filter-piece wanted (charge_at cs i) (credit_at ks l) (share cs ks i l) false
    (and_right ((charge_at cs i).month == month) ((credit_at ks l).serial == serial)
    (ne_eqb (credit_at ks l).serial serial (other_place (λ k. k.serial) ks j l (record { day = 0; serial = 0; cents = 0 }) a.serials_differ credit (omega arith) apart)))) in
    filter-one wanted (λ k. flat_map (λ l. piece_of (charge_at cs k) (credit_at ks l) (share cs ks k l)) (range_with_len 0 (length ks))) 0 (length cs) i (omega arith) (omega arith) others
    ∙ filter-one wanted (λ l. piece_of (charge_at cs i) (credit_at ks l) (share cs ks i l)) 0 (length ks) j (omega arith) (omega arith) other_credits
    ∙ filter-piece wanted (charge_at cs i) (credit_at ks j) (share cs ks i j) true (and_from (month == month) (serial == serial) (eq-eqb month month refl) (eq-eqb serial serial refl))
