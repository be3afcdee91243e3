-- Why the store at a path is opened whole, and why it is not, by what its two files hold.
use Rattle.std.specs.Prelude.{◌≡◌, ◌⊎◌, ℕ, List, Some, None, Result, Err, IfErr, IfOk, false}
use Rattle.sqlite.specs.Store.{Ghosts}
use Rattle.sqlite_wal.specs.Recovery.{Image}
use Rattle.clear_book.specs.declared.rules.StoreCause.TheVariants.{Other}
use Rattle.clear_schema.specs.declared.fault.Fault.TheVariants as fault
use Rattle.clear_schema.specs.declared.fault.OpenFault.TheVariants.{Failed}
use Rattle.clear_office.specs.Office.{AtOffice, IsHonest}
use Rattle.clear_files.specs.declared.paths.PathKind.TheVariants.{Filled}
use Rattle.clear_host.specs.Contents.{IsWhyUnopened}
use Rattle.clear_host.specs.Offices.{IsOfficeOver, TellsOf}
use Rattle.clear_host.specs.declared.hindrance.Hindrance.TheVariants.{NotReachable}
use Rattle.clear_host.specs.declared.offices.NotOpened.{NotOpened}
use Rattle.clear_host.specs.declared.offices.Opened.{Opened}
use Rattle.clear_server.specs.Told.{Written}
use Rattle.clear_work.specs.Stops.{by_store}
use Rattle.clear_work.specs.Works.{Works}
use Rattle.clear_work.specs.declared.stop.Stop.{Stop}
use Rattle.clear_work.specs.declared.work.Work.{Work}
use Rattle.clear_program.specs.Reasons.{refused_path}
use Rattle.clear_program.specs.declared.opening.Unopened.{Unopened}
use Rattle.clear_program.specs.declared.opening.Whole.{Whole}

-- the store doesn't stand at its path any more
abbrev pub gone : Unopened
gone = record { kind = Filled; fault = Failed (fault.Store Other); hindrance = Some NotReachable }

module _ {S : Type 0} (g : Ghosts S) where
  module _ (image : Image) where
    -- the office hasn't failed, and is one over these files
    abbrev pub IsOpen : Opened S → Type 0
    IsOpen opened =
        (opened.office.failed ≡ false)
        × (IsHonest g opened.office → IsOfficeOver g image opened)

    -- so an open refuses these files
    abbrev pub RefusesFiles : Unopened → Type 0
    RefusesFiles why =
        (refused : NotOpened S) × TellsOf g image refused × IsWhyUnopened refused
        × (why ≡ record { kind = Filled; fault = refused.fault; hindrance = refused.hindrance })

    -- no store can be at such a path, none is there any more, or an open refuses the files
    abbrev pub IsRefused : Unopened → Type 0
    IsRefused why =
        ((refused_path why.kind ≡ Some why.fault) × (why.hindrance ≡ None))
        ⊎ ((why ≡ gone) ⊎ RefusesFiles why)

    -- the office is one over these files, or they are refused
    abbrev pub Opens : Result (Opened S) Unopened → Type 0
    Opens result = IfOk result IsOpen × IfErr result RefusesFiles

    abbrev pub OpensWhole : Result (Whole S) Unopened → Type 0
    OpensWhole result = IfOk result (λ whole. IsOpen whole.opened) × IfErr result IsRefused

  -- the work is done on the office of a store that was opened; of one that wasn't the fault is told
  abbrev pub WorksOn : {A : Type 0} → (A → List ℕ) → Result (Whole S) Unopened
      → Result A Stop → Written → Written → Work → Type 0
  WorksOn bytes whole result told told' work =
      IfOk whole (λ whole. (then : AtOffice S)
      × Works bytes g whole.opened.office then result whole.opened.ledger_day told told' work)
      × IfErr whole (λ why. (result ≡ Err (by_store why.fault)) × (told' ≡ told))
