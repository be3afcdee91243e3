-- What an error of the database says of the file, if that is more than the fault says.
use Rattle.std.specs.Prelude.{Option, Some, None}
use Rattle.sqlite.specs.declared.error.Error.{Error}
use Rattle.sqlite.specs.declared.error.Error.TheVariants.{SqliteFailure}
use Rattle.sqlite.specs.declared.error.ErrorCode.TheVariants.{CannotOpen, DatabaseBusy, NotADatabase}
use Rattle.clear_host.specs.declared.hindrance.Hindrance.{Hindrance}
use Rattle.clear_host.specs.declared.hindrance.Hindrance.TheVariants as hindrance

abbrev pub hindrance_of : Error → Option Hindrance
hindrance_of (SqliteFailure CannotOpen) = Some hindrance.NotReachable
hindrance_of (SqliteFailure DatabaseBusy) = Some hindrance.InUse
hindrance_of (SqliteFailure NotADatabase) = Some hindrance.NoDatabase
hindrance_of error = None
