-- What follows from the number that a database tells.
use Rattle.std.proofs.Common.{◌≡◌, inl, inr, ℕ, Bool, true, false, Some, Result, Ok, Err, OnOk, IsTrue, refl, ap, subst}
use Rattle.clear_values.specs.declared.causes.StoreCause.TheVariants.{Row}
use Rattle.clear_schema.specs.Faults.{IsOfDisk, IsOfRowOrDisk, IsWrong}
use Rattle.clear_schema.specs.declared.fault.Fault.{Fault}
use Rattle.clear_schema.specs.declared.fault.Fault.TheVariants.{Store}
use Rattle.clear_schema.specs.declared.fault.OpenFault.{OpenFault}
use Rattle.clear_schema.specs.declared.fault.OpenFault.TheVariants.{Failed, WrongVersion}
use Rattle.clear_migrate.specs.Answered.{AnswersOrFails}

-- the number that is found is answered
pub answers : {A : Type 0} (n number : A) → Some n ≡ Some number → AnswersOrFails (Ok number) (Ok n)
answers n number same = inl (let is : n ≡ number = cc in ap Ok is)

-- a number that is answered is the one that is told
pub told_is : (n number : ℕ) → AnswersOrFails (Ok number) (Ok n) → n ≡ number
told_is n number (inl same) = cc
told_is n number (inr (fault, disk, same)) = absurd cc

-- where a number is told, an error is a fault of memory or of the disk, whatever is right above it
pub fails_so : {A B : Type 0} (number : A) (right : Result B OpenFault) (fault : OpenFault) → AnswersOrFails (Ok number) (Err fault) → AnswersOrFails right (Err fault)
fails_so number right fault (inl same) = absurd cc
fails_so number right fault (inr (why, disk, same)) = inr (why, disk, let is : fault ≡ Failed why = cc in ap Err is)

-- an error is the same in the place of an answer of another type
pub other_error : {A B : Type 0} (right fault : OpenFault) → AnswersOrFails {A = A} (Err right) (Err fault) → AnswersOrFails {A = B} (Err right) (Err fault)
other_error right fault (inl same) = inl (let is : fault ≡ right = cc in ap Err is)
other_error right fault (inr (why, disk, same)) = inr (why, disk, let is : fault ≡ Failed why = cc in ap Err is)

-- so it tells no number
pub fails_untold : {A : Type 0} (number : A) (this found : ℕ) (fault : OpenFault) → AnswersOrFails (Ok number) (Err fault) → IsWrong this found fault
fails_untold number this found (WrongVersion told) (inl same) = absurd cc
fails_untold number this found (WrongVersion told) (inr (why, disk, same)) = absurd cc
fails_untold number this found (Failed why) answers = tt

-- where a number or none is told, no key and no row is to blame for an error
pub told_disk : {A : Type 0} (number : A) (fault : OpenFault) (why : Fault) → AnswersOrFails (Ok number) (Err fault) → fault ≡ Failed why → IsOfDisk why
told_disk number fault why (inl same) is = absurd cc
told_disk number fault why (inr (found, disk, same)) is = subst IsOfDisk (let there : found ≡ why = cc in there) disk

pub none_disk : {A : Type 0} (number : ℕ) (fault : OpenFault) (why : Fault) → AnswersOrFails {A = A} (Err (WrongVersion number)) (Err fault) → fault ≡ Failed why → IsOfDisk why
none_disk number fault why (inl same) is = absurd cc
none_disk number fault why (inr (found, disk, same)) is = subst IsOfDisk (let there : found ≡ why = cc in there) disk

-- a value out of its range is to blame, or memory, or the disk
pub row_or_disk : {A : Type 0} (fault : Fault) → IsOfRowOrDisk fault → AnswersOrFails {A = A} (Err (Failed (Store Row))) (Err (Failed fault))
row_or_disk fault (inl row) = inl (ap (λ f. Err (Failed f)) row)
row_or_disk fault (inr disk) = inr (fault, disk, refl)

-- what holds where there is an answer, and what follows from that
pub on_ok_so : {A E : Type 0} (r : Result A E) (X Y : Type 0) → (X → Y) → OnOk r X → OnOk r Y
on_ok_so (Ok a) X Y then x = then x
on_ok_so (Err e) X Y then x = tt

-- a test that doesn't hold
pub not_true : (b : Bool) → (IsTrue b → ⊥) → b ≡ false
not_true true never = absurd (never refl)
not_true false never = refl
