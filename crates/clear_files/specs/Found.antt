-- What the system tells of a path: what stands there, or why it tells nothing.
use Rattle.std.specs.Prelude.{◌≡◌, ℕ, ◌≤◌, ◌⊎◌, Result, IsErrAnd, IsOkAnd}
use Rattle.std.specs.Fs.{IsDir, IsFile, file_type, metadata_len}
use Rattle.std.specs.IoError.{error_kind}
use Rattle.std.specs.declared.fs.attrs.Metadata.{Metadata}
use Rattle.std.specs.declared.io.Error.{Error}
use Rattle.std.specs.declared.io.ErrorKind.TheVariants.{NotFound}

-- what the system told
abbrev pub Told : Type 0
Told = Result Metadata Error

-- nothing stands there
abbrev pub IsMissing : Told → Type 0
IsMissing told = IsErrAnd told (λ error. error_kind error ≡ NotFound)

-- a folder stands there
abbrev pub IsFolder : Told → Type 0
IsFolder told = IsOkAnd told (λ found. IsDir (file_type found))

-- a file stands there, and no link to one
abbrev pub IsPlainFile : Told → Type 0
IsPlainFile told = IsOkAnd told (λ found. IsFile (file_type found))

-- a file without bytes stands there
abbrev pub IsEmptyFile : Told → Type 0
IsEmptyFile told = IsOkAnd told (λ found. IsFile (file_type found) × (metadata_len found ≡ 0))

-- the greatest length that a close leaves of a store's log, in bytes
abbrev pub closed_log : ℕ
closed_log = 41

-- a log stands there that is no longer than a close leaves it, or none does
abbrev pub IsBroughtOver : Told → Type 0
IsBroughtOver told = IsMissing told ⊎ IsOkAnd told (λ found. metadata_len found ≤ closed_log)
