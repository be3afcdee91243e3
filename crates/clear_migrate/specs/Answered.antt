-- What is answered of a database, if neither memory nor the disk fails.
use Rattle.std.specs.Prelude.{◌≡◌, ◌⊎◌, Result, Err}
use Rattle.clear_schema.specs.Faults.{IsOfDisk}
use Rattle.clear_schema.specs.declared.fault.Fault.{Fault}
use Rattle.clear_schema.specs.declared.fault.OpenFault.{OpenFault}
use Rattle.clear_schema.specs.declared.fault.OpenFault.TheVariants.{Failed}

-- the answer is this one, or a fault of memory or of the disk
abbrev pub AnswersOrFails : {A : Type 0} → Result A OpenFault → Result A OpenFault → Type 0
AnswersOrFails right result =
    (result ≡ right) ⊎ ((fault : Fault) × IsOfDisk fault × (result ≡ Err (Failed fault)))
