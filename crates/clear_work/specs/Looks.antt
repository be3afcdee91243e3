-- What a look says of a store, and what is done with an office before its store is closed.
use Rattle.std.specs.Prelude.{◌≡◌, ℕ, List, [], Option, Result, Ok, IfErr, IfOk}
use Rattle.sqlite.specs.Held.{Held, state}
use Rattle.sqlite.specs.State.{HasCleanDisk, KeepsCommit, Survives}
use Rattle.sqlite.specs.Store.{Ghosts}
use Rattle.clear_book.specs.Tables.{Tables}
use Rattle.clear_schema.specs.Held.{HasTables, this_schema}
use Rattle.clear_office.specs.Office.{AtOffice}
use Rattle.clear_reading.specs.Look.{look_of}
use Rattle.clear_texts.specs.Look.{look_text}
use Rattle.clear_texts.specs.declared.look.Look.{Look}
use Rattle.clear_server.specs.Told.{Written}
use Rattle.clear_work.specs.Stops.{IsOfStoreFault}
use Rattle.clear_work.specs.Works.{IsSaid, Works}
use Rattle.clear_work.specs.declared.jobs.Job.{Job}
use Rattle.clear_work.specs.declared.jobs.Job.TheVariants as job
use Rattle.clear_work.specs.declared.stop.Stop.{Stop}

module _ {A S : Type 0} (bytes : A → List ℕ) (g : Ghosts S) (result : Result A Stop) where
  -- what stands in the tables that a connection has is said, and they stay; where it can't be said, a
  -- fault of the store is told; whatever comes of it, what was committed stays, and a crash leaves no
  -- more than before
  pub record Looks (old new : Held S) : Type 0 where
    pub said : HasCleanDisk (state g new) → (t : Tables) → HasTables t (state g old).now
        → IfOk result (λ text. (bytes text ≡ look_text this_schema (look_of t))
        × HasTables t (state g new).now)
    pub kept : HasCleanDisk (state g new) → (t : Tables) → HasTables t (state g old).now
        → KeepsCommit (state g old) (state g new)
    pub survives : HasCleanDisk (state g new) → (t : Tables) → HasTables t (state g old).now
        → Survives (state g old) (state g new) (λ _. ⊥)
    pub why : IfErr result IsOfStoreFault
    -- whatever the disk returned, it is what some tables hold
    pub text : IfOk result (λ text. (look : Look) × (bytes text ≡ look_text this_schema look))

  -- what a job does with an office of this ledger day, whose connection it leaves, what is said of it,
  -- and what is told meanwhile
  abbrev pub DoesJob : Option ℕ → AtOffice S → Held S → Written → Written → Job → Type 0
  DoesJob ledger_day office left told told' job.Nothing =
      IsSaid bytes (Ok []) result × (left ≡ office.conn) × (told' ≡ told)
  DoesJob ledger_day office left told told' job.Look = Looks office.conn left × (told' ≡ told)
  DoesJob ledger_day office left told told' (job.Work file work) =
      (then : AtOffice S) × Works bytes g office then result ledger_day told told' work
      × (left ≡ then.conn)
