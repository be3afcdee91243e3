-- Paths that are refused before anything is looked for there.
use Rattle.std.specs.Prelude.{◌≡◌, ◌||◌, Bool, true, ℕ, nat_eq, List, None, Some, codes, Result, IfErr, OnOk}
use Rattle.std.specs.List.{starts_with}
use Rattle.std.specs.Str.{bytes_eq}
use Rattle.sqlite.specs.declared.error.Error.{Error}
use Rattle.sqlite.specs.declared.error.Error.TheVariants.{SqliteFailure}
use Rattle.sqlite.specs.declared.error.ErrorCode.TheVariants.{CannotOpen}
use Rattle.clear_schema.specs.Faults.{fault_of}
use Rattle.clear_schema.specs.declared.fault.OpenFault.TheVariants.{Failed}
use Rattle.clear_host.specs.declared.hindrance.Hindrance.TheVariants.{NotReachable}
use Rattle.clear_host.specs.declared.offices.NotOpened.{NotOpened}

-- SQLite takes the path for something else than the name of a file
abbrev pub is_no_file : List ℕ → Bool
is_no_file path = bytes_eq path (codes ":memory:") || starts_with nat_eq path (codes "file:")

-- the error of a file that can't be opened
abbrev pub cannot_open : Error
cannot_open = SqliteFailure CannotOpen

-- no file is reached, and none was opened
pub record IsNotReached {S : Type 0} (refused : NotOpened S) : Type 0 where
  pub fault : refused.fault ≡ Failed (fault_of cannot_open)
  pub hindrance : refused.hindrance ≡ Some NotReachable
  pub unopened : refused.connection ≡ None

-- a path that is no name of a file is refused
abbrev pub RefusesNoFile : {S A : Type 0} → List ℕ → Result A (NotOpened S) → Type 0
RefusesNoFile path result =
    is_no_file path ≡ true → OnOk result ⊥ × IfErr result IsNotReached
