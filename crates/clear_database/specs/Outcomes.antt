-- What holds once a store was opened or created, and of a database that is refused.
use Rattle.std.specs.Prelude.{◌≡◌, ◌≢◌, ℕ, List, IsTrue}
use Rattle.sqlite.specs.State.{State, HasCleanDisk, Survives}
use Rattle.sqlite.specs.Tree.{Trees}
use Rattle.clear_money.specs.Rates.{Rate}
use Rattle.clear_values.specs.First.{first_tables}
use Rattle.clear_values.specs.Tables.{Tables}
use Rattle.clear_schema.specs.Faults.{IsOfDisk, IsWrong, TellsOutOfRange, other_layout}
use Rattle.clear_schema.specs.Held.{StandsFor, StandsOtherwise, TellsAs, TellsSchema}
use Rattle.clear_schema.specs.Schema.{no_schema, store_schema, this_schema}
use Rattle.clear_schema.specs.declared.fault.Fault.{Fault}
use Rattle.clear_schema.specs.declared.fault.Fault.TheVariants.{Memory}
use Rattle.clear_schema.specs.declared.fault.OpenFault.{OpenFault}
use Rattle.clear_schema.specs.declared.fault.OpenFault.TheVariants.{Failed, WrongVersion}
use Rattle.clear_database.specs.Opening.{IsBelowZero, TellsNoNumber, TellsNumberOrNone}
use Rattle.clear_database.specs.Still.{IsFound, IsStill}

-- a connection on a database that was taken as a store, before and after
pub record OpensStore (old new : State) : Type 0 where
  pub clean : HasCleanDisk new → HasCleanDisk old
  pub is_open : HasCleanDisk new → IsTrue new.is_open
  pub found : HasCleanDisk new
      → (t : Tables) → StandsFor t old.committed.trees → IsFound t new
  pub right : HasCleanDisk new
      → (number : ℕ) → TellsAs number old.committed.trees → number ≡ this_schema
  -- its tables and indexes are just those of our layout
  pub only_ours : old.now.schema ≡ store_schema
  pub not_other : HasCleanDisk new → ¬ StandsOtherwise old.committed.trees
  pub numbered : HasCleanDisk new → ¬ TellsNoNumber old.now
  pub not_below_zero : HasCleanDisk new → ¬ IsBelowZero old.now
  pub still : HasCleanDisk new → IsStill old new
  pub survives : Survives old new (λ _. ⊥)

-- a connection on a database that was not taken as a store, for this fault
pub record RefusesToOpen (old : State) (fault : OpenFault) (new : State) : Type 0 where
  pub clean : HasCleanDisk new → HasCleanDisk old
  pub version : HasCleanDisk new
      → (number : ℕ) → TellsAs number old.committed.trees → IsTrue old.is_open
      → IsWrong this_schema number fault
  pub other : HasCleanDisk new
      → StandsOtherwise old.committed.trees → IsTrue old.is_open
      → fault ≢ Failed Memory → fault ≡ other_layout
  pub no_number : HasCleanDisk new → TellsNoNumber old.now
      → (told : ℕ) → fault ≡ WrongVersion told → told ≡ 0
  pub below_zero : HasCleanDisk new → IsBelowZero old.now → TellsOutOfRange fault
  pub cause : HasCleanDisk new → TellsNumberOrNone old.now
      → (why : Fault) → fault ≡ Failed why → IsOfDisk why
  -- nothing changes, whatever the database is
  pub still : HasCleanDisk new → IsTrue new.is_open → IsStill old new
  pub survives : Survives old new (λ _. ⊥)

module _ (rates : List Rate) (old : State) where
  -- a connection on a database in which a store with these opening rates was created
  pub record CreatesStore (new : State) : Type 0 where
    pub clean : HasCleanDisk new → HasCleanDisk old
    pub was_empty : old.now.schema ≡ no_schema
    pub made : HasCleanDisk new → IsFound (first_tables rates) new
    -- a crash leaves these tables, and no others
    pub left : HasCleanDisk new
        → (trees : Trees) → new.may_leave trees → StandsFor (first_tables rates) trees
    pub crash : Survives old new (StandsFor (first_tables rates))

  -- a connection on a database in which no store was created, for this fault
  pub record RefusesToCreate (fault : OpenFault) (new : State) : Type 0 where
    pub clean : HasCleanDisk new → HasCleanDisk old
    pub empty : HasCleanDisk new → old.now.schema ≡ no_schema
        → (told : ℕ) → fault ≢ WrongVersion told
    pub there : HasCleanDisk new → (number : ℕ) → TellsSchema number old.now
        → (told : ℕ) → fault ≡ WrongVersion told → told ≡ number
    pub no_number : HasCleanDisk new → TellsNoNumber old.now
        → (told : ℕ) → fault ≡ WrongVersion told → told ≡ 0
    pub below_zero : HasCleanDisk new → IsBelowZero old.now → TellsOutOfRange fault
    pub cause : HasCleanDisk new → TellsNumberOrNone old.now
        → (why : Fault) → fault ≡ Failed why → IsOfDisk why
    -- nothing changes, whatever the database is
    pub still : HasCleanDisk new → IsTrue new.is_open → IsStill old new
    pub survives : old.now.schema ≢ no_schema → Survives old new (λ _. ⊥)
    -- of an empty database a crash may leave the tables of a new store
    pub crash : old.now.schema ≡ no_schema → Survives old new (StandsFor (first_tables rates))
