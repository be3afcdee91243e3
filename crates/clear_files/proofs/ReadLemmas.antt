-- What was read of a reader, where that is more than a file may have.
use Rattle.std.proofs.Common.{◌<◌, ℕ, List, length, Option, Some, None, refl, ap, arith}
use Rattle.std.proofs.lemmas.List.{length-append}
use Rattle.std.specs.Io.KnownBytes.{Consumes}
use Rattle.clear_files.specs.Contents.{AreTooMany, most_file_bytes}

pub too_many : (a b : Option (List ℕ)) (xs : List ℕ) → Consumes a b xs → most_file_bytes < length xs → AreTooMany a
too_many None b xs taken more = (xs, tt, more)
too_many (Some x) None xs taken more = absurd taken
too_many (Some x) (Some y) xs taken more = (x, refl, omega (arith, more, ap length taken, length-append xs y))
