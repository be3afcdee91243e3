-- Where each row is in its ranges, a fault of a read is the disk's.
use Rattle.std.proofs.Common.{◌≡◌, ◌≢◌, ℕ, List, [], ◌∷◌, filter, Option, None, Some, Bool, Result, Ok, Err, subst}
use Rattle.std.specs.List.{AllByRecursion, last_or}
use Rattle.std.specs.Prelude.{IfErr, IfSome}
use Rattle.sqlite_trees.proofs.ListLemmas.{all-filter}
use Rattle.clear_book.specs.declared.rules.StoreCause.TheVariants.{Constraint, Row as OutOfRange}
use Rattle.clear_book.specs.Keyed.{find_row}
use Rattle.clear_laws.proofs.KeyedChangesLemmas.{found_holds}
use Rattle.clear_schema.specs.declared.fault.Fault.{Fault}
use Rattle.clear_schema.specs.declared.fault.Fault.TheVariants.{Store}
use Rattle.clear_schema.specs.Faults.{IsOfDisk}

-- of one row, found by its key
pub found_in_range : {X : Type 0} (key : X → List ℕ) (P : X → Type 0) (rows : List X) (k : List ℕ) (fault : Fault) → fault ≢ Store Constraint
    → (fault ≡ Store OutOfRange → (x : X) × (find_row key rows k ≡ Some x) × ¬ P x) → AllByRecursion P rows → IsOfDisk fault
found_in_range key P rows k fault free range all = (free, λ told. let (x, at, bad) = range told in bad (found_holds key P rows k x all at))

-- of a look at that row
pub look_in_range : {X A : Type 0} (key : X → List ℕ) (P : X → Type 0) (rows : List X) (k : List ℕ) (result : Result A Fault) → IfErr result (λ fault. fault ≢ Store Constraint)
    → IfErr result (λ fault. fault ≡ Store OutOfRange → (x : X) × (find_row key rows k ≡ Some x) × ¬ P x) → AllByRecursion P rows → IfErr result IsOfDisk
look_in_range key P rows k (Ok found) free range all = tt
look_in_range key P rows k (Err fault) free range all = found_in_range key P rows k fault free range all

-- of the last of some rows
last_holds : {X : Type 0} (P : X → Type 0) (before : Option X) (rows : List X) → IfSome before P → AllByRecursion P rows → IfSome (last_or before rows) P
last_holds P before [] held all = held
last_holds P before (row ∷ rows) held all = last_holds P (Some row) rows all.0 all.1

pub last_row_in_range : {X : Type 0} (P : X → Type 0) (rows : List X) (fault : Fault) → fault ≢ Store Constraint
    → (fault ≡ Store OutOfRange → (x : X) × (last_or None rows ≡ Some x) × ¬ P x) → AllByRecursion P rows → IsOfDisk fault
last_row_in_range P rows fault free range all = (free, λ told. let (x, at, bad) = range told in bad (subst (λ found. IfSome found P) at (last_holds P None rows tt all)))

-- of the last of those that pass a test
pub last_in_range : {X : Type 0} (P : X → Type 0) (test : X → Bool) (rows : List X) (fault : Fault) → fault ≢ Store Constraint
    → (fault ≡ Store OutOfRange → (x : X) × (last_or None (filter test rows) ≡ Some x) × ¬ P x) → AllByRecursion P rows → IsOfDisk fault
last_in_range P test rows fault free range all = last_row_in_range P (filter test rows) fault free range (all-filter P test rows all)

-- of a look at that row
pub last_look_in_range : {X A : Type 0} (P : X → Type 0) (test : X → Bool) (rows : List X) (result : Result A Fault) → IfErr result (λ fault. fault ≢ Store Constraint)
    → IfErr result (λ fault. fault ≡ Store OutOfRange → (x : X) × (last_or None (filter test rows) ≡ Some x) × ¬ P x) → AllByRecursion P rows → IfErr result IsOfDisk
last_look_in_range P test rows (Ok found) free range all = tt
last_look_in_range P test rows (Err fault) free range all = last_in_range P test rows fault free range all
