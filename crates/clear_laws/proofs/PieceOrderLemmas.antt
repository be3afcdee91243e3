-- The pieces of an account rise by their keys: by month, then by credit.
use Rattle.std.proofs.Common.{◌≡◌, ℕ, ◌+◌, ◌-◌, ◌<◌, List, [], ◌∷◌, ◌++◌, map, max, min, Bool, true, false, cond, ◌&&◌, ◌||◌, ◌==◌, nat_lt, refl, sym, subst, arith}
use Rattle.std.proofs.lemmas.Bool.Decides.{nat_tests}
use Rattle.std.proofs.lemmas.List.Elements.{All-head, All-tail}
use Rattle.std.specs.List.{All, AllByRecursion, AllPairs}
use Rattle.clear_account.specs.Account.{IsAccount, comes_before}
use Rattle.clear_account.specs.declared.entries.Charge.{Charge}
use Rattle.clear_account.specs.declared.entries.Credit.{Credit}
use Rattle.clear_account.proofs.PlaceLemmas.{AllPairs-head, AllPairs-tail}
use Rattle.clear_account.proofs.StretchLemmas.{parts_from}
use Rattle.clear_account.proofs.WalkLemmas.{grid_all, line_all}
use Rattle.clear_kept.specs.Dated.{dated_piece_of, dated_pieces}
use Rattle.clear_kept.specs.declared.rows.DatedPiece.{DatedPiece}
use Rattle.clear_kept.proofs.RowLemmas.{dated_pieces-walk}
use Rattle.clear_values.specs.Keyed.{is_before, AllBehind, AreInOrder}
use Rattle.clear_values.specs.Tables.{piece_key}
use Rattle.clear_values.specs.declared.rows.CreditRow.{CreditRow}
use Rattle.clear_values.proofs.ListLemmas.{both}
use Rattle.clear_book.specs.Accounts.{row_credit}
use Rattle.clear_laws.proofs.PieceRowLemmas.{pieces_for, pieces_for-dated, refer, reference_in, rowed}
use Rattle.clear_laws.proofs.SerialLemmas.{behind-both, in_order-both}

-- ---- parts that are joined in order

module _ {Y : Type 0} (key : Y → List ℕ) where
  -- each of the one comes before each of the others
  abbrev AreAhead : List Y → List Y → Type 0
  AreAhead zs ys = AllByRecursion (λ z. AllBehind key (key z) ys) zs

  ahead_of_none : (zs : List Y) → AreAhead zs []
  ahead_of_none [] = tt
  ahead_of_none (z ∷ zs) = (tt, ahead_of_none zs)

  ahead_of_both : (zs xs ys : List Y) → AreAhead zs xs → AreAhead zs ys → AreAhead zs (xs ++ ys)
  ahead_of_both [] xs ys h g = tt
  ahead_of_both (z ∷ zs) xs ys h g = (behind-both key (key z) xs ys h.0 g.0, ahead_of_both zs xs ys h.1 g.1)

  module _ {X : Type 0} (f : X → ℕ) (G : ℕ → ℕ → X → List Y) (R : X → X → Type 0) (own : (q r : ℕ) (x : X) → AreInOrder key (G q r x)) (step : (x y : X) → R x y → (q r s t : ℕ) → AreAhead (G q r x) (G s t y)) where
    ahead_of_parts : (q r : ℕ) (x : X) (p : ℕ) (xs : List X) → All (R x) xs → AreAhead (G q r x) (parts_from f G p xs)
    ahead_of_parts q r x p [] all = ahead_of_none (G q r x)
    ahead_of_parts q r x p (y ∷ xs) all =
        ahead_of_both (G q r x) (G p (p + f y) y) (parts_from f G (p + f y) xs)
        (step x y (All-head (R x) y xs all) q r p (p + f y))
        (ahead_of_parts q r x (p + f y) xs (All-tail (R x) y xs all))

    parts_in_order : (p : ℕ) (xs : List X) → AllPairs R xs → AreInOrder key (parts_from f G p xs)
    parts_in_order p [] rise = tt
    parts_in_order p (x ∷ xs) rise =
        in_order-both key (G p (p + f x) x) (parts_from f G (p + f x) xs)
        (own p (p + f x) x)
        (parts_in_order (p + f x) xs (AllPairs-tail R x xs rise))
        (ahead_of_parts p (p + f x) x (p + f x) xs (AllPairs-head R x xs rise))

-- rows that are shown otherwise, by the keys that they then have
in_order-shown : {X Y : Type 0} (f : X → Y) (key : Y → List ℕ) (xs : List X) → AreInOrder (λ x. key (f x)) xs → AreInOrder key (map f xs)
in_order-shown f key [] order = tt
in_order-shown {X} {Y} f key (x ∷ xs) order = (behind xs order.0, in_order-shown f key xs order.1)
  where
    behind : (ys : List X) → AllBehind (λ y. key (f y)) (key (f x)) ys → AllBehind key (key (f x)) (map f ys)
    behind [] all = tt
    behind (y ∷ ys) all = (all.0, behind ys all.1)

-- ---- the pieces of an account

module _ (e : ℕ) (reference : ℕ → List ℕ) where
  abbrev dated_key : DatedPiece → List ℕ
  dated_key p = piece_key (rowed e reference p)

  one_in_order : (c : Charge) (k : Credit) (n : ℕ) → AreInOrder dated_key (dated_piece_of c k n)
  one_in_order c k n = told (nat_lt 0 n)
    where
      told : (b : Bool) → AreInOrder dated_key (cond b (record { month = c.month; day = k.day; serial = k.serial; cents = n } ∷ []) [])
      told true = (tt, tt)
      told false = tt

  later_credit : (c : Charge) (k l : Credit) → comes_before k l ≡ true → (m n : ℕ) → AreAhead dated_key (dated_piece_of c k m) (dated_piece_of c l n)
  later_credit c k l before m n = told (nat_lt 0 m) (nat_lt 0 n)
    where
      ahead : (month d s h r : ℕ) → nat_lt d h || ((d == h) && nat_lt s r) ≡ true → is_before (e ∷ month ∷ d ∷ s ∷ []) (e ∷ month ∷ h ∷ r ∷ []) ≡ true
      ahead month d s h r is = grind (arith, nat_tests)

      told : (a b : Bool) → AreAhead dated_key (cond a (record { month = c.month; day = k.day; serial = k.serial; cents = m } ∷ []) []) (cond b (record { month = c.month; day = l.day; serial = l.serial; cents = n } ∷ []) [])
      told true true = ((ahead c.month k.day k.serial l.day l.serial before, tt), tt)
      told true false = (tt, tt)
      told false b = tt

  -- all pieces of a contribution have its month
  line_month : (s t : ℕ) (c : Charge) (p : ℕ) (ks : List Credit) → AllByRecursion (λ (r : DatedPiece). r.month ≡ c.month) (line_all dated_piece_of s t c p ks)
  line_month s t c p [] = tt
  line_month s t c p (k ∷ ks) =
      let n : ℕ = min t (p + k.cents) - max s p in
      both (λ (r : DatedPiece). r.month ≡ c.month) (dated_piece_of c k n) (line_all dated_piece_of s t c (p + k.cents) ks)
      (told n (nat_lt 0 n)) (line_month s t c (p + k.cents) ks)
    where
      told : (n : ℕ) (b : Bool) → AllByRecursion (λ (r : DatedPiece). r.month ≡ c.month) (cond b (record { month = c.month; day = k.day; serial = k.serial; cents = n } ∷ []) [])
      told n true = (refl, tt)
      told n false = tt

  later_month : (m n : ℕ) → m < n → (zs ys : List DatedPiece) → AllByRecursion (λ (r : DatedPiece). r.month ≡ m) zs → AllByRecursion (λ (r : DatedPiece). r.month ≡ n) ys → AreAhead dated_key zs ys
  later_month m n less [] ys these those = tt
  later_month m n less (z ∷ zs) ys these those = (behind ys those, later_month m n less zs ys these.1 those)
    where
      ahead : (k l d s h r : ℕ) → k ≡ m → l ≡ n → is_before (e ∷ k ∷ d ∷ s ∷ []) (e ∷ l ∷ h ∷ r ∷ []) ≡ true
      ahead k l d s h r here there = grind (arith, nat_tests)

      behind : (rows : List DatedPiece) → AllByRecursion (λ (r : DatedPiece). r.month ≡ n) rows → AllBehind dated_key (dated_key z) rows
      behind [] all = tt
      behind (y ∷ rows) all = (ahead z.month y.month z.day z.serial y.day y.serial these.0 all.0, behind rows all.1)

  line_in_order : (s t : ℕ) (c : Charge) (p : ℕ) (ks : List Credit) → AllPairs (λ k l. comes_before k l ≡ true) ks → AreInOrder dated_key (line_all dated_piece_of s t c p ks)
  line_in_order s t c p ks rise =
      parts_in_order dated_key (λ (k : Credit). k.cents) (λ q r k. dated_piece_of c k (min t r - max s q)) (λ k l. comes_before k l ≡ true)
      (λ q r k. one_in_order c k (min t r - max s q)) (λ k l before q r u v. later_credit c k l before (min t r - max s q) (min t v - max s u)) p ks rise

  grid_in_order : (s p : ℕ) (cs : List Charge) (ks : List Credit) → AllPairs (λ (c d : Charge). c.month < d.month) cs → AllPairs (λ k l. comes_before k l ≡ true) ks → AreInOrder dated_key (grid_all dated_piece_of s p cs ks)
  grid_in_order s p cs ks months rise =
      parts_in_order dated_key (λ (c : Charge). c.cents) (λ q r c. line_all dated_piece_of q r c p ks) (λ c d. c.month < d.month)
      (λ q r c. line_in_order q r c p ks rise)
      (λ c d less q r u v. later_month c.month d.month less (line_all dated_piece_of q r c p ks) (line_all dated_piece_of u v d p ks) (line_month q r c p ks) (line_month u v d p ks)) s cs months

  pub pieces_in_order : (cs : List Charge) (ks : List Credit) → IsAccount cs ks → AreInOrder piece_key (map (rowed e reference) (dated_pieces cs ks))
  pieces_in_order cs ks account =
      in_order-shown (rowed e reference) piece_key (dated_pieces cs ks)
      (subst (AreInOrder dated_key) (sym (dated_pieces-walk cs ks)) (grid_in_order 0 0 cs ks account.months_rise account.credits_rise))

-- the pieces of the rows of a firm's credits rise
pub pieces_for-in_order : (e : ℕ) (charges : List Charge) (rows : List CreditRow) → AllByRecursion (λ row. row.employer ≡ e) rows → IsAccount charges (map row_credit rows) → AreInOrder piece_key (pieces_for charges rows)
pieces_for-in_order e charges rows own account =
    subst (AreInOrder piece_key) (sym (pieces_for-dated e (reference_in rows) charges rows (refer e rows own account.serials_differ)))
    (pieces_in_order e (reference_in rows) charges (map row_credit rows) account)
