-- Where only new credits of a firm stand from a place on, all that stood come before it.
use Rattle.std.proofs.Common.{◌≡◌, ℕ, ◌+◌, ◌≤◌, List, [], ◌∷◌, Bool, true, false, cond, ◌&&◌, ◌||◌, ◌==◌, not, nat_lt, nat_le, filter, length, map, refl, sym, ap, ◌∙◌, arith}
use Rattle.std.specs.List.{AllByRecursion}
use Rattle.std.proofs.lemmas.Bool.Decides.{nat_tests}
use Rattle.std.proofs.lemmas.List.Sums.{length-filter}
use Rattle.clear_account.specs.Account.{comes_before}
use Rattle.clear_account.specs.declared.entries.Credit.{Credit}
use Rattle.clear_kept.specs.Changes.{credits_before}
use Rattle.clear_values.specs.declared.lines.Purpose.TheVariants.{Contribution}
use Rattle.clear_values.specs.declared.rows.CreditRow.{CreditRow}
use Rattle.clear_values.specs.Keyed.{with_rows}
use Rattle.clear_values.proofs.KeyedRowsLemmas.{sum_by-with_rows}
use Rattle.clear_book.specs.Accounts.{credit_key, row_credit}
use Rattle.clear_book.specs.Lines.{is_credit_of}
use Rattle.clear_laws.proofs.AccountChangeLemmas.{contributions_in}
use Rattle.clear_laws.proofs.KeyedFilterLemmas.{filter-shown}
use Rattle.clear_ledger.specs.From.{is_credit_from}

-- ---- two tests of a list

module _ {X : Type 0} (a b : X → Bool) where
  abbrev both : X → Bool
  both x = a x && b x

  -- each that passes the one passes the other
  pub both_pass : (xs : List X) → AllByRecursion (λ x. b x ≡ true) (filter a xs) → filter both xs ≡ filter a xs
  both_pass [] all = refl
  both_pass (x ∷ xs) all = told (a x) (b x) refl (both_pass xs) all
    where
      told : (p q : Bool) → b x ≡ q → (AllByRecursion (λ y. b y ≡ true) (filter a xs) → filter both xs ≡ filter a xs) → AllByRecursion (λ y. b y ≡ true) (cond p (x ∷ filter a xs) (filter a xs))
          → cond (p && q) (x ∷ filter both xs) (filter both xs) ≡ cond p (x ∷ filter a xs) (filter a xs)
      told true true is rest all = ap (λ ys. x ∷ ys) (rest all.1)
      told true false is rest all = absurd (cc (sym is ∙ all.0))
      told false q is rest all = rest all

  -- none passes both: then each that passes the one meets the contrary of the other
  pub none_both : (c : X → Bool) → ((x : X) → c x ≡ not (b x)) → (xs : List X) → length (filter both xs) ≡ 0 → filter c (filter a xs) ≡ filter a xs
  none_both c contrary [] none = refl
  none_both c contrary (x ∷ xs) none = told (a x) (b x) refl (none_both c contrary xs) none
    where
      left : List X
      left = filter a xs

      told : (p q : Bool) → b x ≡ q → (length (filter both xs) ≡ 0 → filter c left ≡ left) → length (cond (p && q) (x ∷ filter both xs) (filter both xs)) ≡ 0
          → filter c (cond p (x ∷ left) left) ≡ cond p (x ∷ left) left
      told true true is rest none = absurd (omega (arith, none))
      told true false is rest none = ap (λ t. cond t (x ∷ filter c left) (filter c left)) (contrary x ∙ ap not is) ∙ ap (λ ys. x ∷ ys) (rest none)
      told false q is rest none = rest none

-- ---- the credits of a firm

module _ (e : ℕ) (k : Credit) where
  abbrev is_own : CreditRow → Bool
  is_own = is_credit_of e Contribution

  -- a row is at the place of the credit or behind it
  abbrev is_behind : CreditRow → Bool
  is_behind row = nat_lt k.day row.day || ((row.day == k.day) && nat_le k.serial row.serial)

  -- or its credit comes before it
  abbrev is_sooner : CreditRow → Bool
  is_sooner row = comes_before (row_credit row) k

  contrary : (row : CreditRow) → is_sooner row ≡ not (is_behind row)
  contrary row = grind (arith, nat_tests)

  behind : (row : CreditRow) → is_sooner row ≡ false → is_behind row ≡ true
  behind row later = grind (arith, nat_tests)

  all_behind : (rows : List CreditRow) → AllByRecursion (λ row. is_sooner row ≡ false) rows → AllByRecursion (λ row. is_behind row ≡ true) rows
  all_behind [] all = tt
  all_behind (row ∷ rows) all = (behind row all.0, all_behind rows all.1)

  abbrev pub rows_behind : List CreditRow → List CreditRow
  rows_behind rows = filter (is_credit_from e Contribution k.day k.serial) rows

  -- those of old and new rows
  counts : (rows news : List CreditRow) → length (rows_behind (with_rows credit_key rows news)) ≡ length (rows_behind rows) + length (rows_behind news)
  counts rows news =
      let p : CreditRow → Bool = is_credit_from e Contribution k.day k.serial in
      omega (arith, length-filter p (with_rows credit_key rows news), length-filter p rows, length-filter p news, sum_by-with_rows credit_key (λ row. cond (p row) 1 0) rows news)

  -- where no new credit comes before the one, and no more rows are there from it on than new ones, all old ones come before it
  pub old_before : (rows news : List CreditRow) → AllByRecursion (λ row. is_sooner row ≡ false) (contributions_in e news)
      → length (rows_behind (with_rows credit_key rows news)) ≤ length (contributions_in e news)
      → credits_before k (map row_credit (contributions_in e rows)) ≡ map row_credit (contributions_in e rows)
  old_before rows news later few =
      let new : length (rows_behind news) ≡ length (contributions_in e news) = ap length (both_pass is_own is_behind news (all_behind (contributions_in e news) later)) in
      let none : length (rows_behind rows) ≡ 0 = omega (arith, few, counts rows news, new) in
      filter-shown row_credit is_sooner (λ l. comes_before l k) (λ row. refl) (contributions_in e rows)
      ∙ ap (map row_credit) (none_both is_own is_behind is_sooner contrary rows none)
