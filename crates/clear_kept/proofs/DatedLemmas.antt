-- Pieces with the days of their payments.
use Rattle.std.proofs.Common.{◌≡◌, ◌≢◌, ℕ, ◌<◌, Bool, true, false, cond, nat_lt, List, [], ◌∷◌, length, get_or, map, refl, sym, ap, subst, ◌∙◌, arith}
use Rattle.std.specs.Prelude.{◌==◌}
use Rattle.std.specs.List.{All, AllPairs}
use Rattle.std.proofs.lemmas.Bool.{eq-eqb, ne_eqb}
use Rattle.std.proofs.lemmas.List.{get_or_default}
use Rattle.std.proofs.lemmas.List.Sums.{position_or_len_is}
use Rattle.std.proofs.lemmas.List.Elements.{All-cons, All-map, All-nil, All-weaker}
use Rattle.clear_account.specs.declared.entries.Charge.{Charge}
use Rattle.clear_account.specs.declared.entries.Credit.{Credit}
use Rattle.clear_account.specs.declared.entries.Piece.{Piece}
use Rattle.clear_account.specs.Account.{HoldsSerial, credit_at}
use Rattle.clear_account.specs.Allocation.{piece_of}
use Rattle.clear_account.proofs.GridLemmas.{grid_each}
use Rattle.clear_account.proofs.WalkLemmas.{pieces_behind-walk}
use Rattle.clear_kept.specs.declared.rows.DatedPiece.{DatedPiece}
use Rattle.clear_kept.specs.declared.rows.PlacedPiece.{PlacedPiece}
use Rattle.clear_kept.specs.Dated.{DatedRows, NamesPayments, dated, dated_piece_of, day_of_serial, place_of_serial, placed}
use Rattle.clear_kept.proofs.RowLemmas.{dated_behind-walk, grid_map}

-- ---- the payment of a serial
pub place_is : (ks : List Credit) (j serial : ℕ) (d : Credit) → AllPairs (λ k l. k.serial ≢ l.serial) ks → j < length ks → (get_or ks j d).serial ≡ serial → place_of_serial ks serial ≡ j
place_is ks j serial d differ within is =
    position_or_len_is (λ (k : Credit). k.serial == serial) ks j d (omega arith)
    (λ k less. ne_eqb (get_or ks k d).serial serial (λ same. differ k j d less within (same ∙ sym is)))
    (λ low. eq-eqb (get_or ks j d).serial serial is)

day_is : (ks : List Credit) (j : ℕ) (d : Credit) → AllPairs (λ k l. k.serial ≢ l.serial) ks → j < length ks → day_of_serial ks (get_or ks j d).serial ≡ (get_or ks j d).day
day_is ks j d differ within =
    ap (λ i. (credit_at ks i).day) (place_is ks j (get_or ks j d).serial d differ within refl)
    ∙ ap (λ (k : Credit). k.day) (get_or_default ks j (record { day = 0; serial = 0; cents = 0 }) d within)

-- the row of a piece whose payment was found
pub placed_is : (ks : List Credit) (j : ℕ) (d : Credit) (p q : Piece) (row : DatedPiece) → AllPairs (λ l m. l.serial ≢ m.serial) ks → j < length ks → (credit_at ks j).serial ≡ p.serial → row ≡ record { month = p.month; day = (get_or ks j d).day; serial = p.serial; cents = p.cents } → p ≡ q → record { piece = row; place = j } ≡ placed ks q
placed_is ks j d p q row differ within found dated same =
    let none : Credit = record { day = 0; serial = 0; cents = 0 } in
    let place : j ≡ place_of_serial ks p.serial = sym (place_is ks j p.serial none differ within found) in
    let day : (get_or ks j d).day ≡ day_of_serial ks p.serial = ap (λ (k : Credit). k.day) (get_or_default ks j d none within) ∙ ap (λ i. (credit_at ks i).day) place in
    (λ i. record { piece = dated i; place = j })
    ∙ (λ i. record { piece = record { month = p.month; day = day i; serial = p.serial; cents = p.cents }; place = place i })
    ∙ ap (placed ks) same

-- a payment that is held has a place
pub place_found : (ks : List Credit) (serial : ℕ) → AllPairs (λ k l. k.serial ≢ l.serial) ks → HoldsSerial ks serial → (place_of_serial ks serial < length ks) × ((credit_at ks (place_of_serial ks serial)).serial ≡ serial)
place_found ks serial differ held =
    let none : Credit = record { day = 0; serial = 0; cents = 0 } in
    let j : ℕ = held.0 in
    let within : j < length ks = held.2 in
    let here : (get_or ks j none).serial ≡ serial = ap (λ (k : Credit). k.serial) (get_or_default ks j none held.1 within ∙ held.3) ∙ held.4 in
    let place : place_of_serial ks serial ≡ j = place_is ks j serial none differ within here in
    (omega arith, ap (λ i. (credit_at ks i).serial) place ∙ here)

-- the rows of pieces whose payments are held name these payments
pub placed_within : (ks : List Credit) (ps : List Piece) → AllPairs (λ k l. k.serial ≢ l.serial) ks → All (λ p. HoldsSerial ks p.serial) ps → All (λ (r : PlacedPiece). r.place < length ks) (map (placed ks) ps)
placed_within ks ps differ held =
    All-map (λ (r : PlacedPiece). r.place < length ks) (placed ks) ps
    (All-weaker (λ p. HoldsSerial ks p.serial) (λ p. place_of_serial ks p.serial < length ks) (λ p h. (place_found ks p.serial differ h).0) ps held)

pub placed_serials : (ks : List Credit) (ps : List Piece) → AllPairs (λ k l. k.serial ≢ l.serial) ks → All (λ p. HoldsSerial ks p.serial) ps → All (λ (r : PlacedPiece). (credit_at ks r.place).serial ≡ r.piece.serial) (map (placed ks) ps)
placed_serials ks ps differ held =
    All-map (λ (r : PlacedPiece). (credit_at ks r.place).serial ≡ r.piece.serial) (placed ks) ps
    (All-weaker (λ p. HoldsSerial ks p.serial) (λ p. (credit_at ks (place_of_serial ks p.serial)).serial ≡ p.serial) (λ p h. (place_found ks p.serial differ h).1) ps held)

-- ---- the pieces of a suffix
piece_dated : (all : List Credit) (c : Charge) (k : Credit) (n : ℕ) (b : Bool) → day_of_serial all k.serial ≡ k.day → map (dated all) (cond b (record { month = c.month; serial = k.serial; cents = n } ∷ []) []) ≡ cond b (record { month = c.month; day = k.day; serial = k.serial; cents = n } ∷ []) []
piece_dated all c k n true is = (λ i. record { month = c.month; day = is i; serial = k.serial; cents = n } ∷ [])
piece_dated all c k n false is = refl

pub dated_rows : DatedRows
dated_rows s p cs ks differ =
    ap (map (dated ks)) (pieces_behind-walk s p cs ks)
    ∙ grid_map (dated ks) piece_of dated_piece_of (λ k. day_of_serial ks k.serial ≡ k.day) (λ c k n. piece_dated ks c k n (nat_lt 0 n)) s p cs ks (λ j d lt. day_is ks j d differ lt)
    ∙ sym (dated_behind-walk s p cs ks)

piece_named : (all : List Credit) (c : Charge) (k : Credit) (n : ℕ) (b : Bool) → HoldsSerial all k.serial → All (λ (q : Piece). HoldsSerial all q.serial) (cond b (record { month = c.month; serial = k.serial; cents = n } ∷ []) [])
piece_named all c k n true held = All-cons (λ (q : Piece). HoldsSerial all q.serial) (record { month = c.month; serial = k.serial; cents = n }) [] held (All-nil (λ (q : Piece). HoldsSerial all q.serial))
piece_named all c k n false held = All-nil (λ (q : Piece). HoldsSerial all q.serial)

pub names_payments : NamesPayments
names_payments s p cs ks =
    subst (All (λ (q : Piece). HoldsSerial ks q.serial)) (sym (pieces_behind-walk s p cs ks))
    (grid_each piece_of (λ c k. refl) (λ q. HoldsSerial ks q.serial) (λ c. Unit) (λ k. HoldsSerial ks k.serial) (λ c k n u held. piece_named ks c k n (nat_lt 0 n) held) (λ n. true) s p cs ks (λ i d lt. tt)
    (λ j d lt. (j, get_or ks j d, lt, get_or_default ks j (get_or ks j d) d lt, refl)))
