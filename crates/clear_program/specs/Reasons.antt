-- Why a path holds no store that can be looked at, in words.
use Rattle.std.specs.Prelude.{◌≡◌, ◌⊎◌, ℕ, zero, suc, List, ◌++◌, codes, Option, Some, None, MatchOption}
use Rattle.std.specs.Fmt.{decimal}
use Rattle.clear_book.specs.declared.rules.StoreCause.TheVariants.{Other}
use Rattle.clear_schema.specs.Held.{this_schema}
use Rattle.clear_schema.specs.declared.fault.Fault.TheVariants as fault
use Rattle.clear_schema.specs.declared.fault.OpenFault.{OpenFault}
use Rattle.clear_schema.specs.declared.fault.OpenFault.TheVariants.{WrongVersion, Failed}
use Rattle.clear_host.specs.declared.hindrance.Hindrance.{Hindrance}
use Rattle.clear_host.specs.declared.hindrance.Hindrance.TheVariants as hindrance
use Rattle.clear_files.specs.declared.paths.PathKind.{PathKind}
use Rattle.clear_files.specs.declared.paths.PathKind.TheVariants as path

-- the fault of a path that can be no store, which is known before it is opened
abbrev pub refused_path : PathKind → Option OpenFault
refused_path path.Missing = Some (Failed (fault.Store Other))
refused_path path.Folder = Some (Failed (fault.Store Other))
refused_path path.Empty = Some (WrongVersion 0)
refused_path path.Filled = None

-- a path that can hold no store is refused for that alone; at another, what stood in the way of a
-- connection, if anything did, is a fault of the store
abbrev pub IsWhyRefused : PathKind → Option Hindrance → OpenFault → Type 0
IsWhyRefused kind stood told =
    MatchOption (refused_path kind) ((stood ≡ None) ⊎ (told ≡ Failed (fault.Store Other)))
    (λ known. (told ≡ known) × (stood ≡ None))

-- the number of another schema
unfoldable pub schema_reason : ℕ → List ℕ
schema_reason number =
    codes "this store has schema " ++ decimal number
    ++ codes ", and this program's is " ++ decimal this_schema ++ codes "\n"

-- what a fault says
unfoldable pub fault_reason : OpenFault → List ℕ
fault_reason (WrongVersion zero) = codes "this database is no store of this program, or one of schema 0\n"
fault_reason (WrongVersion (suc n)) = schema_reason (suc n)
fault_reason (Failed fault.Memory) = codes "there was no memory\n"
fault_reason (Failed (fault.Store cause)) =
    codes "its tables can't be read, or are others than this program's\n"

-- what stood in the way of a connection says, else the fault
unfoldable pub hindrance_reason : Option Hindrance → OpenFault → List ℕ
hindrance_reason (Some hindrance.NotReachable) told = codes "this file can't be opened\n"
hindrance_reason (Some hindrance.InUse) told = codes "another process holds this store\n"
hindrance_reason (Some hindrance.NoDatabase) told = codes "this file is no database, or a damaged one\n"
hindrance_reason None told = fault_reason told

-- what stands at the path says, else what stood in the way, else the fault
unfoldable pub reason : PathKind → Option Hindrance → OpenFault → List ℕ
reason path.Missing stood told = codes "there is nothing at this path\n"
reason path.Folder stood told = codes "this is a folder\n"
reason path.Empty stood told = codes "this file is empty\n"
reason path.Filled stood told = hindrance_reason stood told
