-- Each lawful book has tables that represent it: what is open of the contributions is put to their rows firm by firm, and
-- the pieces of the firms one after another.
use Rattle.std.proofs.Common.{◌≡◌, ℕ, zero, suc, ◌+◌, ◌<◌, ◌≤◌, List, [], ◌∷◌, ◌++◌, map, filter, Bool, true, false, ◌==◌, ◌⊎◌, inl, inr, refl, sym, ap, ◌∙◌, subst, arith}
use Rattle.std.proofs.lemmas.Bool.{cases_lt, eq-eqb, eqb-true}
use Rattle.std.proofs.lemmas.Bool.Decides.{nat_tests}
use Rattle.std.proofs.lemmas.List.{append-nil, map-id}
use Rattle.std.proofs.lemmas.List.Elements.{All-from_recursion, filter-append}
use Rattle.std.specs.List.{AllByRecursion}
use Rattle.clear_account.proofs.PlaceLemmas.{filter_all, filter_none}
use Rattle.clear_kept.specs.Weighed.{weighed_charges}
use Rattle.clear_values.specs.Keyed.{is_before, AllBehind, AreInOrder, replaced_rows}
use Rattle.clear_values.specs.declared.rows.KeptCharge.{KeptCharge}
use Rattle.clear_values.specs.declared.rows.PieceRow.{PieceRow}
use Rattle.clear_values.proofs.ListLemmas.{both, each}
use Rattle.clear_book.specs.Allocated.{AreSameCharges, IsWeighed, Represents, contribution_rows, kept_charges, table_pieces, weighed_in}
use Rattle.clear_book.specs.Book.{Book}
use Rattle.clear_book.specs.Machine.{IsLawful}
use Rattle.clear_book.specs.Tables.{Stands, Tables, charge_in, charge_key, piece_key, table_credits}
use Rattle.clear_laws.proofs.AccountChangeLemmas.{firm_rows}
use Rattle.clear_laws.proofs.AllocatedLemmas.{contribution_rows-own}
use Rattle.clear_laws.proofs.HasTablesLemmas.{has_tables}
use Rattle.clear_laws.proofs.OneTableLemmas.{same_charges}
use Rattle.clear_laws.proofs.PieceOrderLemmas.{pieces_for-in_order}
use Rattle.clear_laws.proofs.PieceRowLemmas.{IsOf, pieces_for, pieces_for-own}
use Rattle.clear_laws.proofs.SameChargesLemmas.{same_of_firm, stands_with}
use Rattle.clear_laws.proofs.SerialLemmas.{in_order-both}
use Rattle.clear_laws.proofs.SettledLemmas.{settled_all}
use Rattle.clear_laws.proofs.TableAccountLemmas.{account_of_tables}
use Rattle.clear_laws.proofs.WeighedFollowsLemmas.{settled_alike, settled_beside, settled_weighed, still_weighed}
use Rattle.clear_laws.proofs.WeighedLemmas.{news_in_range, settled_row, settled_row-own, settled_row-weighed}

-- ---- a number above those of all firms that have contributions

abbrev above_all : List KeptCharge → ℕ
above_all [] = 0
above_all (row ∷ rows) = row.employer + 1 + above_all rows

all_below : (n : ℕ) (rows : List KeptCharge) → above_all rows ≤ n → AllByRecursion (λ row. row.employer < n) rows
all_below n [] h = tt
all_below n (row ∷ rows) h = (omega (arith, h), all_below n rows (omega (arith, h)))

-- a firm from there on has none
none_from : (e : ℕ) (rows : List KeptCharge) → above_all rows ≤ e → filter (λ row. row.employer == e) rows ≡ []
none_from e rows h =
    filter_none (λ (row : KeptCharge). row.employer == e) rows
    (All-from_recursion (λ row. (row.employer == e) ≡ false) rows (each (λ row. row.employer < e) (λ row. (row.employer == e) ≡ false) (λ row less. other row.employer less) rows (all_below e rows h)))
  where
    other : (k : ℕ) → k < e → (k == e) ≡ false
    other k less = grind (arith, nat_tests)

-- ---- what is open of the contributions

module _ (b : Book) (lawful : IsLawful b) where
  -- the tables are those of the book, and what is open of the contributions is kept of the firms below n
  record AreWeighedBelow (n : ℕ) (u : Tables) : Type 0 where
    stands : Stands b u
    weighed : (e : ℕ) → e < n → IsWeighed u e

  module _ (n : ℕ) (u : Tables) (below : AreWeighedBelow n u) where
    abbrev news : List KeptCharge
    news = map (settled_row n) (weighed_charges (kept_charges u n) (table_credits u n))

    are : map weighed_in news ≡ weighed_charges (kept_charges u n) (table_credits u n)
    are = settled_row-weighed n (weighed_charges (kept_charges u n) (table_credits u n))

    own : AllByRecursion (λ row. row.employer ≡ n) news
    own = settled_row-own n (weighed_charges (kept_charges u n) (table_credits u n))

    -- the rows of the next firm are put in the place of its old ones
    abbrev next : Tables
    next = record u { charges = replaced_rows charge_key u.charges news }

    next_stands : Stands b next
    next_stands =
        stands_with b u u.pieces (replaced_rows charge_key u.charges news) below.stands (settled_alike n u below.stands.charges_in_order 0 news own are)
        (settled_all n u.charges news below.stands.charges_in_order own _ below.stands.charges_paid
        (news_in_range 0 (kept_charges u n) (table_credits u n) news (account_of_tables b u lawful below.stands n) are))

    next_weighed : (e : ℕ) → e < suc n → IsWeighed next e
    next_weighed e less = told (e == n) refl
      where
        told : (c : Bool) → (e == n) ≡ c → IsWeighed next e
        told true is = subst (λ (k : ℕ). IsWeighed next k) (sym (eqb-true e n is)) (settled_weighed n u below.stands.charges_in_order 0 news own are refl)
        told false is = still_weighed u next e (settled_beside n u below.stands.charges_in_order 0 news own are e is) refl (below.weighed e (lower is))
          where
            lower : (e == n) ≡ false → e < n
            lower apart = grind (arith, nat_tests)

    weighed_next : AreWeighedBelow (suc n) next
    weighed_next = record { stands = next_stands; weighed = next_weighed }

  weighed_below : (n : ℕ) (t : Tables) → Stands b t → (u : Tables) × AreWeighedBelow n u
  weighed_below zero t stands = (t, record { stands = stands; weighed = λ e less. absurd (omega (arith, less)) })
  weighed_below (suc n) t stands =
      let before = weighed_below n t stands in
      (next n before.0 before.1, weighed_next n before.0 before.1)

-- ---- the pieces

abbrev of_firm : ℕ → PieceRow → Bool
of_firm e row = row.employer == e

module _ (pieces : ℕ → List PieceRow) (own : (e : ℕ) → AllByRecursion (IsOf e) (pieces e)) where
  -- the pieces of the firms below n
  abbrev joined : ℕ → List PieceRow
  joined zero = []
  joined (suc n) = joined n ++ pieces n

  joined_below : (n : ℕ) → AllByRecursion (λ row. row.employer < n) (joined n)
  joined_below zero = tt
  joined_below (suc n) =
      both (λ (row : PieceRow). row.employer < suc n) (joined n) (pieces n)
      (each (λ (row : PieceRow). row.employer < n) (λ row. row.employer < suc n) (λ row less. omega (arith, less)) (joined n) (joined_below n))
      (each (IsOf n) (λ row. row.employer < suc n) (λ row is. omega (arith, is)) (pieces n) (own n))

  joined_in_order : ((e : ℕ) → AreInOrder piece_key (pieces e)) → (n : ℕ) → AreInOrder piece_key (joined n)
  joined_in_order rise zero = tt
  joined_in_order rise (suc n) =
      in_order-both piece_key (joined n) (pieces n) (joined_in_order rise n) (rise n)
      (each (λ (row : PieceRow). row.employer < n) (λ row. AllBehind piece_key (piece_key row) (pieces n)) (λ row less. behind row less (pieces n) (own n)) (joined n) (joined_below n))
    where
      ahead : (e f m k d c s r : ℕ) → e < n → f ≡ n → is_before (e ∷ m ∷ d ∷ s ∷ []) (f ∷ k ∷ c ∷ r ∷ []) ≡ true
      ahead e f m k d c s r less is = grind (arith, nat_tests)

      behind : (row : PieceRow) → row.employer < n → (rows : List PieceRow) → AllByRecursion (IsOf n) rows → AllBehind piece_key (piece_key row) rows
      behind row less [] all = tt
      behind row less (other ∷ rows) all = (ahead row.employer other.employer row.month other.month row.day other.day row.serial other.serial less all.0, behind row less rows all.1)

  own_all : (e : ℕ) → filter (of_firm e) (pieces e) ≡ pieces e
  own_all e =
      filter_all (of_firm e) (pieces e)
      (All-from_recursion (λ row. of_firm e row ≡ true) (pieces e) (each (IsOf e) (λ row. of_firm e row ≡ true) (λ row is. eq-eqb row.employer e is) (pieces e) (own e)))

  own_none : (e f : ℕ) → (f == e) ≡ false → filter (of_firm e) (pieces f) ≡ []
  own_none e f apart =
      filter_none (of_firm e) (pieces f)
      (All-from_recursion (λ row. of_firm e row ≡ false) (pieces f) (each (IsOf f) (λ row. of_firm e row ≡ false) (λ row is. ap (λ k. k == e) is ∙ apart) (pieces f) (own f)))

  -- a firm from n on has none there
  joined_none : (e n : ℕ) → n ≤ e → filter (of_firm e) (joined n) ≡ []
  joined_none e n above =
      filter_none (of_firm e) (joined n)
      (All-from_recursion (λ row. of_firm e row ≡ false) (joined n) (each (λ (row : PieceRow). row.employer < n) (λ row. of_firm e row ≡ false) (λ row less. other row.employer less) (joined n) (joined_below n)))
    where
      other : (k : ℕ) → k < n → (k == e) ≡ false
      other k less = grind (arith, nat_tests)

  -- one below n has its own
  joined_own : (e n : ℕ) → e < n → filter (of_firm e) (joined n) ≡ pieces e
  joined_own e zero less = absurd (omega (arith, less))
  joined_own e (suc n) less = filter-append (of_firm e) (joined n) (pieces n) ∙ told (n == e) refl (λ lower. joined_own e n lower)
    where
      lower : (n == e) ≡ false → e < n
      lower apart = grind (arith, nat_tests)

      told : (c : Bool) → (n == e) ≡ c → (e < n → filter (of_firm e) (joined n) ≡ pieces e) → filter (of_firm e) (joined n) ++ filter (of_firm e) (pieces n) ≡ pieces e
      told true is before =
          let same : n ≡ e = eqb-true n e is in
          (λ i. joined_none e n (omega (arith, same)) i ++ filter (of_firm e) (pieces (same i))) ∙ own_all e
      told false is before = (λ i. before (lower is) i ++ own_none e n is i) ∙ append-nil (pieces e)

-- ---- a lawful book

module _ (b : Book) (lawful : IsLawful b) (t : Tables) (stands : Stands b t) where
  abbrev n : ℕ
  n = above_all t.charges

  weighed_tables : (u : Tables) × AreWeighedBelow b lawful n u
  weighed_tables = weighed_below b lawful n t stands

  abbrev u : Tables
  u = weighed_tables.0

  u_stands : Stands b u
  u_stands = weighed_tables.1.stands

  -- a firm from n on has no contributions
  no_rows : (e : ℕ) → n ≤ e → firm_rows u e ≡ []
  no_rows e above =
      same_of_none (firm_rows t e) (firm_rows u e) (same_of_firm t.charges u.charges (same_charges b t u stands u_stands) e) (none_from e t.charges above)
    where
      same_of_none : (xs ys : List KeptCharge) → AreSameCharges xs ys → xs ≡ [] → ys ≡ []
      same_of_none [] [] same none = refl
      same_of_none [] (y ∷ ys) same none = absurd (cc same)
      same_of_none (x ∷ xs) ys same none = absurd (cc none)

  weighed_all : (e : ℕ) → IsWeighed u e
  weighed_all e = told (cases_lt e n)
    where
      told : (e < n) ⊎ (n ≤ e) → IsWeighed u e
      told (inl less) = weighed_tables.1.weighed e less
      told (inr above) = subst (λ (rows : List KeptCharge). map weighed_in rows ≡ weighed_charges (map charge_in rows) (table_credits u e)) (sym (no_rows e above)) refl

  own_pieces : (e : ℕ) → AllByRecursion (IsOf e) (table_pieces u e)
  own_pieces e = pieces_for-own e (kept_charges u e) (contribution_rows u e) (contribution_rows-own u e)

  rising_pieces : (e : ℕ) → AreInOrder piece_key (table_pieces u e)
  rising_pieces e = pieces_for-in_order e (kept_charges u e) (contribution_rows u e) (contribution_rows-own u e) (account_of_tables b u lawful u_stands e)

  pieces_are : (e : ℕ) → filter (of_firm e) (joined (table_pieces u) own_pieces n) ≡ table_pieces u e
  pieces_are e = told (cases_lt e n)
    where
      told : (e < n) ⊎ (n ≤ e) → filter (of_firm e) (joined (table_pieces u) own_pieces n) ≡ table_pieces u e
      told (inl less) = joined_own (table_pieces u) own_pieces e n less
      told (inr above) =
          joined_none (table_pieces u) own_pieces e n above
          ∙ ap (λ (rows : List KeptCharge). pieces_for (map charge_in rows) (contribution_rows u e)) (sym (no_rows e above))

  abbrev whole : Tables
  whole = record u { pieces = joined (table_pieces u) own_pieces n }

  represented : Represents b whole
  represented = record {
    stands = stands_with b u whole.pieces u.charges u_stands refl u_stands.charges_paid;
    pieces = record {
      pieces = λ e. pieces_are e ∙ sym (map-id (table_pieces u e));
      in_order = joined_in_order (table_pieces u) own_pieces rising_pieces n;
      weighed = weighed_all;
    };
  }

pub represents_lawful : (b : Book) → IsLawful b → (t : Tables) × Represents b t
represents_lawful b lawful =
    let there = has_tables b.opening b.entries lawful in
    (whole b lawful there.0 there.1, represented b lawful there.0 there.1)
