-- How a look at a path ends, by whether a store was opened there.
use Rattle.std.proofs.Common.{◌⊎◌, ℕ, List, Result, Ok, Err, inl, inr}
use Rattle.std.specs.Borrow.{Bor}
use Rattle.std.specs.Prelude.{IfErr, IfOk}
use Rattle.sqlite.specs.Store.{Ghosts}
use Rattle.sqlite_wal.specs.Recovery.{Image}
use Rattle.clear_server.specs.Told.{Written}
use Rattle.clear_work.specs.declared.stop.Stop.{Stop}
use Rattle.clear_program.specs.Ends.{SaysAll, SaysLook, TellsNoStore, TellsUnopened}
use Rattle.clear_program.specs.Opening.{OpensWhole}
use Rattle.clear_program.specs.declared.opening.Unopened.{Unopened}
use Rattle.clear_program.specs.declared.opening.Whole.{Whole}
use Rattle.clear_program.specs.declared.tasks.Task.TheVariants.{Look}
use Rattle.clear_program.proofs.ReasonLemmas.{why_refused}

module _ {S : Type 0} (g : Ghosts S) (image : Image) (out out' told told' : Written) (at : Bor (List ℕ)) where
  pub looked : (whole : Result (Whole S) Unopened) (result : Result ℕ Stop) → OpensWhole g image whole
      → IfOk whole (λ it. SaysLook g out out' told told' it.opened.office.conn result)
      → IfErr whole (λ why. TellsUnopened out out' told told' why result)
      → SaysAll out out' told told' (Look at) result ⊎ TellsNoStore out out' told told' result
  looked (Ok whole) result opens (said, left, looks, puts, quiet) refused = inl (said, (looks.text, looks.why), puts, quiet)
  looked (Err why) result opens says refused = inr (why, why_refused g image why opens.1, refused)
