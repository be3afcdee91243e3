-- The last of a caller's requests has the greatest number.
use Rattle.std.proofs.Common.{◌≡◌, ◌==◌, ◌<◌, ◌≤◌, ℕ, Bool, true, false, cond, List, [], ◌∷◌, Option, Some, None, arith, refl, subst}
use Rattle.std.proofs.lemmas.Bool.Decides.{nat_tests}
use Rattle.std.specs.List.{AllByRecursion, last_or}
use Rattle.std.specs.Option.{option_map}
use Rattle.clear_values.specs.declared.callers.Caller.{Caller}
use Rattle.clear_values.specs.Keyed.{AllBehind, AreInOrder, is_before}
use Rattle.clear_values.specs.Tables.{RequestRow, caller_number, request_key}
use Rattle.clear_ledger.specs.Kept.{greatest_number, requests_of}

-- of two requests of one caller, the later has the greater number
less : (c a b m n : ℕ) → (a == c) ≡ true → (b == c) ≡ true → is_before (a ∷ m ∷ []) (b ∷ n ∷ []) ≡ true → m < n
less c a b m n first second before = grind (arith, nat_tests)

module _ (caller : Caller) where
  abbrev is_own : RequestRow → Bool
  is_own row = caller_number row.caller == caller_number caller

  -- the numbers of rows are above one
  abbrev AreAbove : ℕ → List RequestRow → Type 0
  AreAbove n rows = AllByRecursion (λ row. n < row.number) rows

  abbrev Rise : List RequestRow → Type 0
  Rise [] = Unit {0}
  Rise (row ∷ rows) = AreAbove row.number rows × Rise rows

  above : (row : RequestRow) (rows : List RequestRow) → is_own row ≡ true → AllBehind request_key (request_key row) rows → AreAbove row.number (requests_of caller rows)
  above row [] own behind = tt
  above row (next ∷ rows) own behind = told (is_own next) refl (above row rows own behind.1)
    where
      told : (b : Bool) → is_own next ≡ b → AreAbove row.number (requests_of caller rows) → AreAbove row.number (cond b (next ∷ requests_of caller rows) (requests_of caller rows))
      told true is rest = (less (caller_number caller) (caller_number row.caller) (caller_number next.caller) row.number next.number own is behind.0, rest)
      told false is rest = rest

  rise : (rows : List RequestRow) → AreInOrder request_key rows → Rise (requests_of caller rows)
  rise [] order = tt
  rise (row ∷ rows) order = told (is_own row) refl (rise rows order.1)
    where
      told : (b : Bool) → is_own row ≡ b → Rise (requests_of caller rows) → Rise (cond b (row ∷ requests_of caller rows) (requests_of caller rows))
      told true is rest = (above row rows is order.0, rest)
      told false is rest = rest

  -- the last is the greatest of rows whose numbers rise
  last_of : (row : RequestRow) (rows : List RequestRow) → Rise (row ∷ rows) → (last : RequestRow) × (last_or (Some row) rows ≡ Some last) × AllByRecursion (λ x. x.number ≤ last.number) (row ∷ rows)
  last_of row [] up = (row, refl, (omega arith, tt))
  last_of row (next ∷ rows) up =
      let (last, at, all) = last_of next rows up.1 in
      let less : row.number < next.number = up.0.0 in
      (last, at, (omega (arith, less, all.0), all))

  told_last : (rows : List RequestRow) (number : ℕ) → Rise rows → option_map (λ (row : RequestRow). row.number) (last_or None rows) ≡ Some number → AllByRecursion (λ row. row.number ≤ number) rows
  told_last [] number up is = tt
  told_last (row ∷ rows) number up is =
      let (last, at, all) = last_of row rows up in
      let same : Some last.number ≡ Some number = subst (λ (o : Option RequestRow). option_map (λ (row : RequestRow). row.number) o ≡ Some number) at is in
      let number_is : last.number ≡ number = cc in
      subst (λ n. AllByRecursion (λ (x : RequestRow). x.number ≤ n) (row ∷ rows)) number_is all

  pub greatest_is : (rows : List RequestRow) (number : ℕ) → AreInOrder request_key rows → greatest_number caller rows ≡ Some number → AllByRecursion (λ row. row.number ≤ number) (requests_of caller rows)
  greatest_is rows number order is = told_last (requests_of caller rows) number (rise rows order) is

  some_last : (rows : List RequestRow) (row : RequestRow) → last_or (Some row) rows ≡ None → ⊥
  some_last [] row is = absurd cc
  some_last (next ∷ rows) row is = some_last rows next is

  none_told : (rows : List RequestRow) → option_map (λ (row : RequestRow). row.number) (last_or None rows) ≡ None → rows ≡ []
  none_told [] is = refl
  none_told (row ∷ rows) is = absurd (told (last_or (Some row) rows) refl is)
    where
      told : (o : Option RequestRow) → last_or (Some row) rows ≡ o → option_map (λ (row : RequestRow). row.number) o ≡ None → ⊥
      told None at is = some_last rows row at
      told (Some last) at is = absurd cc

  pub none_greatest : (rows : List RequestRow) → greatest_number caller rows ≡ None → requests_of caller rows ≡ []
  none_greatest rows is = none_told (requests_of caller rows) is
