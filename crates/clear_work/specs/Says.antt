-- What is said on an output at the end.
use Rattle.std.specs.Prelude.{◌≡◌, ℕ, true, List, Result, Ok, Err, IfErr, IfOk}
use Rattle.std.specs.Io.KnownBytes.{Appends}
use Rattle.clear_server.specs.Told.{Writes, Written}
use Rattle.clear_work.specs.declared.stop.Stop.{Stop}
use Rattle.clear_work.specs.declared.stop.Stop.TheVariants as stop

module _ {A : Type 0} (bytes : A → List ℕ) where
  -- this is said on the output, and the program then ends with this status; or the output failed, and
  -- a front of it is there; where there is nothing to say, the output stays
  abbrev pub Puts : Result A Stop → ℕ → Written → Written → Result ℕ Stop → Type 0
  Puts (Ok said) status out out' result =
      IfOk result (λ given. (given ≡ status) × Appends out.bytes out'.bytes (bytes said)
      × (out'.failed ≡ out.failed))
      × IfErr result (λ why. (why ≡ stop.Stream) × Writes (bytes said) out out'
      × (out'.failed ≡ true))
  Puts (Err why) status out out' result = (result ≡ Err why) × (out' ≡ out)
