-- Rows put in the place of those with their keys, one after another; a firm's kept contributions, with what is open of them
-- from one on.
use Rattle.std.proofs.Common.{◌≡◌, ℕ, zero, suc, List, [], ◌∷◌, ◌++◌, map, filter, drop, take, Option, Some, None, is_some, Bool, true, false, cond, ◌&&◌, ◌==◌, refl, sym, ap, ◌∙◌, subst, arith}
use Rattle.std.proofs.lemmas.Bool.Decides.{nat_tests}
use Rattle.std.proofs.lemmas.List.{map-append, map-id, take-append-drop}
use Rattle.std.proofs.lemmas.List.Elements.{filter_passes, recursion_from_All}
use Rattle.std.specs.List.{AllByRecursion}
use Rattle.clear_values.specs.Keyed.{find_row, is_key, AllBehind, AreInOrder, put_row, replaced, replaced_rows}
use Rattle.clear_values.specs.declared.rows.KeptCharge.{KeptCharge}
use Rattle.clear_values.proofs.KeyedChangesLemmas.{keys_differ}
use Rattle.clear_values.proofs.KeyedLemmas.{before_is_other, found_key, is_key-refl, is_key-sym, is_key-true, none_behind, other_row}
use Rattle.clear_values.proofs.KeyedMapLemmas.{AreInOrder-map, put_row-map}
use Rattle.clear_book.specs.Allocated.{AreSameCharges, unpaid}
use Rattle.clear_book.specs.Tables.{charge_key}
use Rattle.clear_laws.proofs.AlikeLemmas.{alike-in_order, alike-none}
use Rattle.clear_laws.proofs.KeyedFilterLemmas.{filter-shown}
use Rattle.clear_laws.proofs.OtherKeyLemmas.{in_order-filter}

-- ---- whatever the key

map_stays : {X : Type 0} (h : X → X) (xs : List X) → AllByRecursion (λ x. h x ≡ x) xs → map h xs ≡ xs
map_stays h [] all = refl
map_stays h (x ∷ xs) all = (λ i. all.0 i ∷ map_stays h xs all.1 i)

module _ {Row : Type 0} (key : Row → List ℕ) where
  -- the new row, if it has the key
  abbrev pub settle_one : Row → Row → Row
  settle_one new row = cond (is_key (key row) (key new)) new row

  -- the last of new rows that has it
  abbrev pub settle : List Row → Row → Row
  settle [] row = row
  settle (new ∷ news) row = settle news (settle_one new row)

  one_key : (new row : Row) → key (settle_one new row) ≡ key row
  one_key new row = told (is_key (key row) (key new)) refl
    where
      told : (b : Bool) → is_key (key row) (key new) ≡ b → key (cond b new row) ≡ key row
      told true is = sym (is_key-true (key row) (key new) is)
      told false is = refl

  pub settle_key : (news : List Row) (row : Row) → key (settle news row) ≡ key row
  settle_key [] row = refl
  settle_key (new ∷ news) row = settle_key news (settle_one new row) ∙ one_key new row

  none_settles : (new : Row) (rows : List Row) → AllByRecursion (λ row. is_key (key row) (key new) ≡ false) rows → AllByRecursion (λ row. settle_one new row ≡ row) rows
  none_settles new [] all = tt
  none_settles new (row ∷ rows) all = (ap (λ b. cond b new row) all.0, none_settles new rows all.1)

  replaced_one : (rows : List Row) (new : Row) → AreInOrder key rows → replaced key new rows ≡ map (settle_one new) rows
  replaced_one rows new order = told (find_row key rows (key new)) refl
    where
      told : (o : Option Row) → find_row key rows (key new) ≡ o → cond (is_some o) (put_row key rows new) rows ≡ map (settle_one new) rows
      told None is = sym (map_stays (settle_one new) rows (none_settles new rows (keys_differ key rows (key new) is)))
      told (Some old) is =
          put_row-map key (settle_one new) (one_key new) rows (key new) old new order is refl
          (ap (λ l. cond (is_key l (key new)) new old) (found_key key rows (key new) old is) ∙ ap (λ b. cond b new old) (is_key-refl (key new)))
          (λ row apart. ap (λ b. cond b new row) apart)

  map_twice : (f h : Row → Row) (xs : List Row) → map h (map f xs) ≡ map (λ x. h (f x)) xs
  map_twice f h [] = refl
  map_twice f h (x ∷ xs) = ap (λ ys. h (f x) ∷ ys) (map_twice f h xs)

  -- each row in order is settled
  pub replaced_rows-settled : (rows news : List Row) → AreInOrder key rows → replaced_rows key rows news ≡ map (settle news) rows
  replaced_rows-settled rows [] order = sym (map-id rows)
  replaced_rows-settled rows (new ∷ news) order =
      ap (λ rs. replaced_rows key rs news) (replaced_one rows new order)
      ∙ replaced_rows-settled (map (settle_one new) rows) news (AreInOrder-map key (settle_one new) (one_key new) rows order)
      ∙ map_twice (settle_one new) (settle news) rows

  -- a row whose key is not among the new ones stays
  pub settle_none : (news : List Row) (row : Row) → find_row key news (key row) ≡ None → settle news row ≡ row
  settle_none [] row none = refl
  settle_none (new ∷ news) row none =
      let parts = other_row key new news (key row) none in
      ap (λ b. settle news (cond b new row)) (is_key-sym (key new) (key row) parts.0) ∙ settle_none news row parts.1

  -- what holds of all rows and of all new ones holds of all settled ones
  pub settle_all : (P : Row → Type 0) (rows news : List Row) → AllByRecursion P rows → AllByRecursion P news → AllByRecursion P (map (settle news) rows)
  settle_all P [] news all more = tt
  settle_all P (row ∷ rows) news all more = (one news row more all.0, settle_all P rows news all.1 more)
    where
      one : (some : List Row) (r : Row) → AllByRecursion P some → P r → P (settle some r)
      one [] r of_new here = here
      one (new ∷ some) r of_new here = one some (settle_one new r) of_new.1 (told (is_key (key r) (key new)))
        where
          told : (b : Bool) → P (cond b new r)
          told true = of_new.0
          told false = here

  behind_drop : (k : List ℕ) (n : ℕ) (rows : List Row) → AllBehind key k rows → AllBehind key k (drop n rows)
  behind_drop k zero rows all = all
  behind_drop k (suc n) [] all = all
  behind_drop k (suc n) (row ∷ rows) all = behind_drop k n rows all.1

-- ---- contributions from one on

-- the same contributions stand in the place of all
settle_same : (rows news : List KeptCharge) → AreInOrder charge_key rows → AreSameCharges rows news → map (settle charge_key news) rows ≡ news
settle_same [] [] order same = refl
settle_same [] (new ∷ news) order same = absurd (cc same)
settle_same (row ∷ rows) [] order same = absurd (cc same)
settle_same (row ∷ rows) (new ∷ news) order same =
    let one : unpaid row ≡ unpaid new = cc same in
    let rest : AreSameCharges rows news = cc same in
    let key : charge_key row ≡ charge_key new = ap charge_key one in
    let fresh : AreInOrder charge_key (new ∷ news) = alike-in_order unpaid charge_key (row ∷ rows) (new ∷ news) same order in
    let taken : settle_one charge_key new row ≡ new = ap (λ l. cond (is_key l (charge_key new)) new row) key ∙ ap (λ b. cond b new row) (is_key-refl (charge_key new)) in
    let first : settle charge_key news (settle_one charge_key new row) ≡ new = ap (settle charge_key news) taken ∙ settle_none charge_key news new (none_behind charge_key (charge_key new) news fresh.0) in
    (λ i. first i ∷ (others rows (subst (λ l. AllBehind charge_key l rows) key order.0) ∙ settle_same rows news order.1 rest) i)
  where
    others : (rs : List KeptCharge) → AllBehind charge_key (charge_key new) rs → map (settle charge_key (new ∷ news)) rs ≡ map (settle charge_key news) rs
    others [] all = refl
    others (r ∷ rs) all =
        let stays = ap (λ b. settle charge_key news (cond b new r)) (before_is_other (charge_key new) (charge_key r) all.0) in
        (λ i. stays i ∷ others rs all.1 i)

-- and in the place of those from the n-th on
settle_from : (n : ℕ) (rows news : List KeptCharge) → AreInOrder charge_key rows → AreSameCharges (drop n rows) news → map (settle charge_key news) rows ≡ take n rows ++ news
settle_from zero rows news order same = settle_same rows news order same
settle_from (suc n) [] [] order same = refl
settle_from (suc n) [] (new ∷ news) order same = absurd (cc same)
settle_from (suc n) (row ∷ rows) news order same =
    let free : find_row charge_key (drop n rows) (charge_key row) ≡ None = none_behind charge_key (charge_key row) (drop n rows) (behind_drop charge_key (charge_key row) n rows order.0) in
    let stays = settle_none charge_key news row (alike-none unpaid charge_key (charge_key row) (drop n rows) news same free) in
    (λ i. stays i ∷ settle_from n rows news order.1 same i)

-- ---- those of a firm among those of all firms

module _ (e : ℕ) (rows news : List KeptCharge) (order : AreInOrder charge_key rows) (own : AllByRecursion (λ row. row.employer ≡ e) news) where
  abbrev of_firm : ℕ → KeptCharge → Bool
  of_firm f row = row.employer == f

  abbrev settled : List KeptCharge
  settled = replaced_rows charge_key rows news

  settled_is : settled ≡ map (settle charge_key news) rows
  settled_is = replaced_rows-settled charge_key rows news order

  same_employer : (row : KeptCharge) → (settle charge_key news row).employer ≡ row.employer
  same_employer row = let key = settle_key charge_key news row in cc key

  of_firm_is : (f : ℕ) → filter (of_firm f) settled ≡ map (settle charge_key news) (filter (of_firm f) rows)
  of_firm_is f = ap (filter (of_firm f)) settled_is ∙ filter-shown (settle charge_key news) (of_firm f) (of_firm f) (λ row. ap (λ k. k == f) (same_employer row)) rows

  -- a row of another firm stays
  other_stays : (row : KeptCharge) → (row.employer == e) ≡ false → settle charge_key news row ≡ row
  other_stays row apart = settle_none charge_key news row (none news own)
    where
      differ : (k m n : ℕ) (b : Bool) → k ≡ e → (m == e) ≡ false → (k == m) && b ≡ false
      differ k m n b is other = grind (arith, nat_tests)

      none : (some : List KeptCharge) → AllByRecursion (λ (r : KeptCharge). r.employer ≡ e) some → find_row charge_key some (charge_key row) ≡ None
      none [] all = refl
      none (new ∷ some) all =
          ap (λ b. cond b (Some new) (find_row charge_key some (charge_key row))) (differ new.employer row.employer row.month ((new.month == row.month) && true) all.0 apart) ∙ none some all.1

  -- those of other firms stay
  pub settled_others : (f : ℕ) → (f == e) ≡ false → filter (of_firm f) settled ≡ filter (of_firm f) rows
  settled_others f apart =
      of_firm_is f
      ∙ map_stays (settle charge_key news) (filter (of_firm f) rows) (each (filter (of_firm f) rows) (recursion_from_All (λ row. of_firm f row ≡ true) (filter (of_firm f) rows) (filter_passes (of_firm f) rows)))
    where
      other : (k : ℕ) → (k == f) ≡ true → (k == e) ≡ false
      other k is = grind (arith, nat_tests)

      each : (some : List KeptCharge) → AllByRecursion (λ row. of_firm f row ≡ true) some → AllByRecursion (λ row. settle charge_key news row ≡ row) some
      each [] all = tt
      each (r ∷ some) all = (other_stays r (other r.employer all.0), each some all.1)

  -- what holds of all rows and of the new ones holds of all then
  pub settled_all : (P : KeptCharge → Type 0) → AllByRecursion P rows → AllByRecursion P news → AllByRecursion P settled
  settled_all P all more = subst (AllByRecursion P) (sym settled_is) (settle_all charge_key P rows news all more)

  -- its contribution stays
  abbrev Stays : KeptCharge → Type 0
  Stays row = unpaid (settle charge_key news row) ≡ unpaid row

  -- the new ones are the firm's from the n-th on
  module _ (n : ℕ) (same : AreSameCharges (drop n (filter (of_firm e) rows)) news) where
    settled_firm : map (settle charge_key news) (filter (of_firm e) rows) ≡ take n (filter (of_firm e) rows) ++ news
    settled_firm = settle_from n (filter (of_firm e) rows) news (in_order-filter charge_key (of_firm e) rows order) same

    pub settled_own : filter (of_firm e) settled ≡ take n (filter (of_firm e) rows) ++ news
    settled_own = of_firm_is e ∙ settled_firm

    -- all contributions are the same
    pub settled_same : AreSameCharges rows settled
    settled_same = sym (all_same rows (from_firm rows (each (filter (of_firm e) rows) own_same))) ∙ ap (map unpaid) (sym settled_is)
      where
        firm : List KeptCharge
        firm = filter (of_firm e) rows

        own_same : map unpaid (map (settle charge_key news) firm) ≡ map unpaid firm
        own_same =
            ap (map unpaid) settled_firm
            ∙ map-append unpaid (take n firm) news
            ∙ ap (λ ys. map unpaid (take n firm) ++ ys) (sym same)
            ∙ sym (map-append unpaid (take n firm) (drop n firm))
            ∙ ap (map unpaid) (take-append-drop n firm)

        each : (some : List KeptCharge) → map unpaid (map (settle charge_key news) some) ≡ map unpaid some → AllByRecursion Stays some
        each [] alike = tt
        each (r ∷ some) alike =
            let one : unpaid (settle charge_key news r) ≡ unpaid r = cc alike in
            let rest : map unpaid (map (settle charge_key news) some) ≡ map unpaid some = cc alike in
            (one, each some rest)

        from_firm : (some : List KeptCharge) → AllByRecursion Stays (filter (of_firm e) some) → AllByRecursion Stays some
        from_firm [] all = tt
        from_firm (r ∷ some) all = told (of_firm e r) refl (from_firm some) all
          where
            told : (b : Bool) → of_firm e r ≡ b → (AllByRecursion Stays (filter (of_firm e) some) → AllByRecursion Stays some)
                → AllByRecursion Stays (cond b (r ∷ filter (of_firm e) some) (filter (of_firm e) some)) → AllByRecursion Stays (r ∷ some)
            told true is rest have = (have.0, rest have.1)
            told false is rest have = (ap unpaid (other_stays r is), rest have)

        all_same : (some : List KeptCharge) → AllByRecursion Stays some → map unpaid (map (settle charge_key news) some) ≡ map unpaid some
        all_same [] all = refl
        all_same (r ∷ some) all = (λ i. all.0 i ∷ all_same some all.1 i)
