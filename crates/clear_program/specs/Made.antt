-- Whether a store is made at a path, and whether one there is current, by what its two files hold.
use Rattle.std.specs.Prelude.{◌≡◌, Bool, true, false, List, None, MatchOption, Result, Err, IfErr, IfOk}
use Rattle.sqlite.specs.Held.{state}
use Rattle.sqlite.specs.State.{HasCleanDisk}
use Rattle.sqlite.specs.Store.{Ghosts}
use Rattle.sqlite_wal.specs.Recovery.{Image}
use Rattle.clear_money.specs.Rates.{Rate}
use Rattle.clear_office.specs.Office.{IsHonest}
use Rattle.clear_files.specs.declared.paths.PathKind.{PathKind}
use Rattle.clear_host.specs.Contents.{HoldsNone, IsWhyUnopened}
use Rattle.clear_host.specs.Offices.{IsNewOffice, IsOurs, TellsOfNew}
use Rattle.clear_host.specs.declared.migrations.Brought.{Brought}
use Rattle.clear_host.specs.declared.offices.NotOpened.{NotOpened}
use Rattle.clear_host.specs.declared.offices.Opened.{Opened}
use Rattle.clear_work.specs.Stops.{by_store}
use Rattle.clear_work.specs.declared.stop.Stop.{Stop}
use Rattle.clear_work.specs.declared.stop.Stop.TheVariants as stop
use Rattle.clear_program.specs.Opening.{RefusesFiles}
use Rattle.clear_program.specs.Reasons.{refused_path}
use Rattle.clear_program.specs.declared.opening.Unopened.{Unopened}

module _ {S : Type 0} (g : Ghosts S) (image : Image) where
  -- no store is made of these files, and what is told goes by what they hold
  abbrev pub RefusesNew : Stop → Type 0
  RefusesNew why =
      (refused : NotOpened S) × TellsOfNew g image refused × IsWhyUnopened refused
      × (why ≡ by_store refused.fault)

  -- where a log was left alone, a file is in the way; else the store is new, and these files held none,
  -- or they are refused
  abbrev pub Makes : Bool → List Rate → Result (Opened S) Stop → Type 0
  Makes true rates result = result ≡ Err stop.File
  Makes false rates result =
      IfOk result (λ opened. IsHonest g opened.office → IsNewOffice g rates opened × HoldsNone image)
      × IfErr result RefusesNew

  -- where no store can be at a path of this kind, that is told; else these files hold a store of this
  -- program, or they are refused
  abbrev pub Brings : PathKind → Result (Brought S) Unopened → Type 0
  Brings kind result = MatchOption (refused_path kind)
      (IfOk result (λ brought. HasCleanDisk (state g brought.connection) → IsOurs image)
      × IfErr result (RefusesFiles g image))
      (λ fault. result ≡ Err (record { kind = kind; fault = fault; hindrance = None }))
