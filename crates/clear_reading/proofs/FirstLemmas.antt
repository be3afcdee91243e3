-- The one row that a query gives, or none.
use Rattle.std.proofs.Common.{◌≡◌, ◌==◌, ℕ, Bool, List, [], ◌∷◌, Option, Some, None, Result, filter, refl, slice_get, subst, sym}
use Rattle.std.specs.List.{AllByRecursion, last_or}
use Rattle.std.specs.Option.{option_map, option_to_list}
use Rattle.sqlite.specs.Held.{Held}
use Rattle.sqlite.specs.Order.{Row}
use Rattle.sqlite.specs.Store.{Ghosts}
use Rattle.sqlite_keyed.proofs.ListLemmas.{all-filter}
use Rattle.clear_values.proofs.KeyedChangesLemmas.{found_holds}
use Rattle.clear_values.specs.Keyed.{find_row}
use Rattle.clear_values.specs.Numbers.{IsRequestNo}
use Rattle.clear_values.specs.RowRanges.{AreInRange, IsRequestRow}
use Rattle.clear_values.specs.Tables.{RequestRow, Tables, caller_number}
use Rattle.clear_values.specs.declared.callers.Caller.{Caller}
use Rattle.clear_ledger.specs.Kept.{greatest_number}
use Rattle.clear_columns.specs.Reading.{ReadsOn}
use Rattle.clear_schema.specs.declared.fault.Fault.{Fault}
use Rattle.clear_reading.specs.Reader.{Tells, TellsTablesWhere}
use Rattle.clear_reading.proofs.TellingLemmas.{tells_tables}

-- it is the first of the list that it is
first_one : {X : Type 0} (row : Option X) → slice_get (option_to_list row) 0 ≡ row
first_one None = refl
first_one (Some row) = refl

-- what a query for it tells
pub tells_one : {S X : Type 0} (g : Ghosts S) (IsKnown : Type 0) (show : X → Row) (P : X → Type 0) (old mid end new : Held S) (row : Tables → Option X) (result : Result (Option X) Fault)
    → end ≡ new → ReadsOn g old mid show (λ t. option_to_list (row t)) → Tells g show mid end (λ rest. slice_get rest 0) (AllByRecursion P) result
    → ((t : Tables) → AreInRange t → AllByRecursion P (option_to_list (row t)))
    → TellsTablesWhere IsKnown g old new row (λ t. Unit {0}) result
tells_one g IsKnown show P old mid end new row result is reads tells right =
    subst (λ told. TellsTablesWhere IsKnown g old new told (λ t. Unit {0}) result) (λ i t. first_one (row t) i)
    (tells_tables g IsKnown show old mid end new (λ t. option_to_list (row t)) (λ rest. slice_get rest 0) (AllByRecursion P) (λ t. Unit {0}) result is reads tells (λ t ranges any. right t ranges))

-- the row of a key is in its ranges, where all are
pub one_in_range : {X : Type 0} (key : X → List ℕ) (P : X → Type 0) (rows : List X) (k : List ℕ) → AllByRecursion P rows → AllByRecursion P (option_to_list (find_row key rows k))
one_in_range key P rows k all = told (find_row key rows k) refl
  where
    told : (row : Option _) → find_row key rows k ≡ row → AllByRecursion P (option_to_list row)
    told None at = tt
    told (Some row) at = (found_holds key P rows k row all at, tt)

-- so is the last one
last_holds : {X : Type 0} (P : X → Type 0) (row : X) (rows : List X) → P row → AllByRecursion P rows → (last : X) × (last_or (Some row) rows ≡ Some last) × P last
last_holds P row [] is all = (row, refl, is)
last_holds P row (next ∷ rows) is all = last_holds P next rows all.0 all.1

number_in_range : (rows : List RequestRow) → AllByRecursion IsRequestRow rows → AllByRecursion IsRequestNo (option_to_list (option_map (λ row. row.number) (last_or None rows)))
number_in_range [] all = tt
number_in_range (row ∷ rows) all =
    let (last, at, is) = last_holds IsRequestRow row rows all.0 all.1 in
    subst (λ (o : Option RequestRow). AllByRecursion IsRequestNo (option_to_list (option_map (λ row. row.number) o))) (sym at) (is.number, tt)

pub greatest_in_range : (caller : Caller) (t : Tables) → AreInRange t → AllByRecursion IsRequestNo (option_to_list (greatest_number caller t.requests))
greatest_in_range caller t ranges =
    let of_caller : RequestRow → Bool = λ row. caller_number row.caller == caller_number caller in
    number_in_range (filter of_caller t.requests) (all-filter IsRequestRow of_caller t.requests ranges.requests)
