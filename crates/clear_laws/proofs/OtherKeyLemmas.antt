-- Rows in the order of one key, found by another, and some of them in the order of that.
use Rattle.std.proofs.Common.{◌≡◌, ℕ, List, [], ◌∷◌, filter, Option, Some, None, Bool, true, false, cond, refl, sym, ap, ◌∙◌, subst}
use Rattle.clear_values.specs.Keyed.{is_before, is_key, find_row, in_key_order, newer, with_row, with_rows, AllBehind, AreInOrder, AreOnce}
use Rattle.clear_values.proofs.KeyedLemmas.{is_key-sym, is_key-true, other_row}
use Rattle.clear_values.proofs.KeyedRowsLemmas.{AreNew, all_new}

module _ {Row : Type 0} (key other : Row → List ℕ) where
  -- a row more is found by the other key
  find-with : (rows : List Row) (new : Row) (k : List ℕ) → find_row other rows (other new) ≡ None → find_row other (with_row key rows new) k ≡ cond (is_key (other new) k) (Some new) (find_row other rows k)
  find-with [] new k none = refl
  find-with (row ∷ rows) new k none = told (is_before (key new) (key row)) (find-with rows new k (other_row other row rows (other new) none).1)
    where
      apart : is_key (other row) (other new) ≡ false
      apart = (other_row other row rows (other new) none).0

      either : (p q : Bool) → is_key (other row) k ≡ p → is_key (other new) k ≡ q → cond p (Some row) (cond q (Some new) (find_row other rows k)) ≡ cond q (Some new) (cond p (Some row) (find_row other rows k))
      either true true here there =
          let same : is_key (other row) (other new) ≡ true = subst (λ l. is_key (other row) l ≡ true) (sym (is_key-true (other new) k there)) here in
          absurd (cc (sym same ∙ apart))
      either true false here there = refl
      either false true here there = refl
      either false false here there = refl

      told : (b : Bool) → find_row other (with_row key rows new) k ≡ cond (is_key (other new) k) (Some new) (find_row other rows k)
          → find_row other (cond b (new ∷ row ∷ rows) (row ∷ with_row key rows new)) k ≡ cond (is_key (other new) k) (Some new) (find_row other (row ∷ rows) k)
      told true rest = refl
      told false rest =
          ap (λ o. cond (is_key (other row) k) (Some row) o) rest
          ∙ either (is_key (other row) k) (is_key (other new) k) refl refl

  once-with : (rows : List Row) (new : Row) → AreOnce other rows → find_row other rows (other new) ≡ None → AreOnce other (with_row key rows new)
  once-with [] new once none = (refl, tt)
  once-with (row ∷ rows) new once none = told (is_before (key new) (key row)) (once-with rows new once.1 (other_row other row rows (other new) none).1)
    where
      parts : (is_key (other row) (other new) ≡ false) × (find_row other rows (other new) ≡ None)
      parts = other_row other row rows (other new) none

      first : find_row other (with_row key rows new) (other row) ≡ None
      first =
          find-with rows new (other row) parts.1
          ∙ (λ i. cond (is_key-sym (other row) (other new) parts.0 i) (Some new) (once.0 i))

      told : (b : Bool) → AreOnce other (with_row key rows new) → AreOnce other (cond b (new ∷ row ∷ rows) (row ∷ with_row key rows new))
      told true rest = (none, once)
      told false rest = (first, rest)

  -- rows that are new stay so beside one more
  still : (rows : List Row) (new : Row) (news : List Row) → find_row other rows (other new) ≡ None → find_row other news (other new) ≡ None → AreNew other rows news → AreNew other (with_row key rows new) news
  still rows new [] none apart all = tt
  still rows new (next ∷ news) none apart all =
      let parts = other_row other next news (other new) apart in (
        find-with rows new (other next) none ∙ (λ i. cond (is_key-sym (other next) (other new) parts.0 i) (Some new) (all.0 i)),
        still rows new news none parts.1 all.1,
      )

  -- several rows more
  once-with_rows : (rows news : List Row) → AreOnce other rows → AreOnce other news → AreNew other rows news → AreOnce other (with_rows key rows news)
  once-with_rows rows [] once more new = once
  once-with_rows rows (next ∷ news) once more new =
      once-with_rows (with_row key rows next) news (once-with rows next once new.0) more.1 (still rows next news new.0 more.0 new.1)

  find-with_rows : (rows news : List Row) (k : List ℕ) → AreOnce other news → AreNew other rows news → find_row other (with_rows key rows news) k ≡ newer (find_row other rows k) (find_row other news k)
  find-with_rows rows [] k more new = sym (no_more (find_row other rows k))
    where
      no_more : (o : Option Row) → newer o None ≡ o
      no_more None = refl
      no_more (Some row) = refl
  find-with_rows rows (next ∷ news) k more new =
      find-with_rows (with_row key rows next) news k more.1 (still rows next news new.0 more.0 new.1)
      ∙ ap (λ o. newer o (find_row other news k)) (find-with rows next k new.0)
      ∙ told (is_key (other next) k) refl
    where
      told : (b : Bool) → is_key (other next) k ≡ b → newer (cond b (Some next) (find_row other rows k)) (find_row other news k) ≡ newer (find_row other rows k) (cond b (Some next) (find_row other news k))
      told true is =
          let none : find_row other rows k ≡ None = subst (λ l. find_row other rows l ≡ None) (is_key-true (other next) k is) new.0 in
          ap (λ o. newer o (Some next)) (sym none)
      told false is = refl

  -- rows in the order of a key are found by the other as before
  pub once-in_key_order : (rows : List Row) → AreOnce other rows → AreOnce other (in_key_order key rows)
  once-in_key_order rows once = once-with_rows [] rows tt once (all_new other rows)

  pub find-in_key_order : (rows : List Row) (k : List ℕ) → AreOnce other rows → find_row other (in_key_order key rows) k ≡ find_row other rows k
  find-in_key_order rows k once = find-with_rows [] rows k once (all_new other rows)

-- ---- some of the rows

module _ {Row : Type 0} (key : Row → List ℕ) (p : Row → Bool) where
  -- a row that passes the test
  abbrev pub passed : Option Row → Option Row
  passed None = None
  passed (Some row) = cond (p row) (Some row) None

  none-filter : (rows : List Row) (k : List ℕ) → find_row key rows k ≡ None → find_row key (filter p rows) k ≡ None
  none-filter [] k none = refl
  none-filter (row ∷ rows) k none =
      let parts = other_row key row rows k none in
      told (p row) parts.0 (none-filter rows k parts.1)
    where
      told : (b : Bool) → is_key (key row) k ≡ false → find_row key (filter p rows) k ≡ None → find_row key (cond b (row ∷ filter p rows) (filter p rows)) k ≡ None
      told true apart rest = (λ i. cond (apart i) (Some row) (rest i))
      told false apart rest = rest

  pub find-filter : (rows : List Row) (k : List ℕ) → AreOnce key rows → find_row key (filter p rows) k ≡ passed (find_row key rows k)
  find-filter [] k once = refl
  find-filter (row ∷ rows) k once = told (p row) (is_key (key row) k) refl refl (find-filter rows k once.1)
    where
      gone : is_key (key row) k ≡ true → find_row key (filter p rows) k ≡ None
      gone is = none-filter rows k (subst (λ l. find_row key rows l ≡ None) (is_key-true (key row) k is) once.0)

      told : (b c : Bool) → p row ≡ b → is_key (key row) k ≡ c → find_row key (filter p rows) k ≡ passed (find_row key rows k) → find_row key (cond b (row ∷ filter p rows) (filter p rows)) k ≡ passed (cond c (Some row) (find_row key rows k))
      told true true is here rest = ap (λ c. cond c (Some row) (find_row key (filter p rows) k)) here ∙ ap (λ b. cond b (Some row) None) (sym is)
      told true false is here rest = ap (λ c. cond c (Some row) (find_row key (filter p rows) k)) here ∙ rest
      told false true is here rest = gone here ∙ ap (λ b. cond b (Some row) None) (sym is)
      told false false is here rest = rest

  pub once-filter : (rows : List Row) → AreOnce key rows → AreOnce key (filter p rows)
  once-filter [] once = tt
  once-filter (row ∷ rows) once = told (p row) (once-filter rows once.1)
    where
      told : (b : Bool) → AreOnce key (filter p rows) → AreOnce key (cond b (row ∷ filter p rows) (filter p rows))
      told true rest = (none-filter rows (key row) once.0, rest)
      told false rest = rest

  pub behind-filter : (k : List ℕ) (rows : List Row) → AllBehind key k rows → AllBehind key k (filter p rows)
  behind-filter k [] all = tt
  behind-filter k (row ∷ rows) all = told (p row) (behind-filter k rows all.1)
    where
      told : (b : Bool) → AllBehind key k (filter p rows) → AllBehind key k (cond b (row ∷ filter p rows) (filter p rows))
      told true rest = (all.0, rest)
      told false rest = rest

  pub in_order-filter : (rows : List Row) → AreInOrder key rows → AreInOrder key (filter p rows)
  in_order-filter [] order = tt
  in_order-filter (row ∷ rows) order = told (p row) (in_order-filter rows order.1)
    where
      told : (b : Bool) → AreInOrder key (filter p rows) → AreInOrder key (cond b (row ∷ filter p rows) (filter p rows))
      told true rest = (behind-filter (key row) rows order.0, rest)
      told false rest = rest
