-- What the two files of a store hold, its log and its database file. No contract knows that, so clauses
-- speak of each content.
use Rattle.std.specs.Prelude.{◌≡◌, ◌≢◌, ◌⊎◌, ⊤, ℕ, false, IfSome, IsTrue, MatchOption, None}
use Rattle.sqlite_wal.specs.Recovery.{Image}
use Rattle.sqlite.specs.declared.error.Error.{Error}
use Rattle.sqlite.specs.Effect.{Database, IsDatabase}
use Rattle.sqlite.specs.Files.{AreFoundIn, HoldsDatabase, IsNothing}
use Rattle.sqlite.specs.Held.{state}
use Rattle.sqlite.specs.State.{HasCleanDisk, State}
use Rattle.sqlite.specs.Store.{Ghosts}
use Rattle.sqlite.specs.Tree.{Trees}
use Rattle.clear_book.specs.Allocated.{Represents}
use Rattle.clear_book.specs.Book.{Book}
use Rattle.clear_book.specs.Tables.{Tables}
use Rattle.clear_schema.specs.Faults.{IsOfDisk, fault_of, other_layout}
use Rattle.clear_schema.specs.Held.{HasObjects, HasTables, StandsAs, StandsOtherwise, TellsAs}
use Rattle.clear_schema.specs.Schema.{Layout, no_schema, this_layout, this_schema}
use Rattle.clear_schema.specs.Values.{counts_of}
use Rattle.clear_schema.specs.declared.fault.Fault.TheVariants.{Memory}
use Rattle.clear_schema.specs.declared.fault.OpenFault.{OpenFault}
use Rattle.clear_schema.specs.declared.fault.OpenFault.TheVariants.{WrongVersion, Failed}
use Rattle.clear_database.specs.Opening.{IsBelowZero, TellsNoNumber}
use Rattle.clear_disk.specs.Seen.{IsUnmade}
use Rattle.clear_firms.specs.Counts.{AreCounts}
use Rattle.clear_host.specs.Hindrances.{hindrance_of}
use Rattle.clear_host.specs.declared.offices.NotOpened.{NotOpened}

-- they hold a store of this layout, with these tables
abbrev pub HoldsStore : Layout → Tables → Image → Type 0
HoldsStore layout t image = (trees : Trees) × HoldsDatabase image trees × StandsAs layout t trees

-- they hold a database that tells this number of its schema, whatever tables it has
abbrev pub HoldsSchema : ℕ → Image → Type 0
HoldsSchema number image =
    (trees : Trees) × HoldsDatabase image trees × TellsAs number trees

-- they hold nothing, or a database without a `meta` of ours as its first table, or without a row in it
abbrev pub HoldsNoNumber : Image → Type 0
HoldsNoNumber image = IsNothing image
    ⊎ ((db : Database) × HoldsDatabase image db.trees × TellsNoNumber db × IsDatabase db)

-- they hold a database with a `meta` whose number is below 0
abbrev pub HoldsBelowZero : Image → Type 0
HoldsBelowZero image =
    (db : Database) × HoldsDatabase image db.trees × IsBelowZero db × IsDatabase db

-- they hold a database that tells the number of its schema, or none
abbrev pub HoldsNumberOrNone : Image → Type 0
HoldsNumberOrNone image = HoldsNoNumber image ⊎ ((number : ℕ) × HoldsSchema number image)

-- the trees are those of a database with a table, an index or a view
abbrev pub HaveObjects : Trees → Type 0
HaveObjects trees = (db : Database) × HasObjects db × (trees ≡ db.trees)

-- they hold such a database
abbrev pub HoldsObjects : Image → Type 0
HoldsObjects image = (trees : Trees) × HoldsDatabase image trees × HaveObjects trees

-- they hold a database that tells this program's number, but has other tables or indexes than this
-- program's stores
abbrev pub HoldsOtherLayout : Image → Type 0
HoldsOtherLayout image = (trees : Trees) × HoldsDatabase image trees × StandsOtherwise trees

-- they hold a store of this program, with the tables of the book, its pieces with them
abbrev pub HoldsBook : Book → Image → Type 0
HoldsBook b image = (t : Tables) × Represents b t × HoldsStore this_layout t image

-- they hold a store of this program, and its counts are in their ranges, as a lawful book's are
abbrev pub HoldsCounted : Image → Type 0
HoldsCounted image = (t : Tables) × HoldsStore this_layout t image × AreCounts (counts_of t)

-- they hold such a store, or a database that tells the number of another schema, or none
abbrev pub AreBlameless : Image → Type 0
AreBlameless image = HoldsNoNumber image
    ⊎ (((number : ℕ) × HoldsSchema number image × (number ≢ this_schema)) ⊎ HoldsCounted image)

-- no database has been made of them yet, or they recover to one that has no table, index or view
abbrev pub HoldsNone : Image → Type 0
HoldsNone image =
    IsUnmade image ⊎ ((db : Database) × AreFoundIn image db.trees × (db.schema ≡ no_schema))

-- where the fault tells a number, it is this one
abbrev pub TellsOnly : ℕ → OpenFault → Type 0
TellsOnly number (WrongVersion told) = told ≡ number
TellsOnly number (Failed fault) = ⊤

-- the fault tells no number
abbrev pub TellsNone : OpenFault → Type 0
TellsNone (WrongVersion told) = ⊥
TellsNone (Failed fault) = ⊤

-- want of memory aside, the fault is that of another layout
abbrev pub TellsOther : OpenFault → Type 0
TellsOther fault = fault ≢ Failed Memory → fault ≡ other_layout

-- no key and no row is to blame for the fault
abbrev pub BlamesNone : OpenFault → Type 0
BlamesNone (WrongVersion told) = ⊤
BlamesNone (Failed fault) = IsOfDisk fault

-- where it has tables with counts in their ranges, no key and no row is to blame for the fault
abbrev pub BlamesCounts : State → OpenFault → Type 0
BlamesCounts s fault =
    (t : Tables) → HasTables t s.now → AreCounts (counts_of t) → BlamesNone fault

-- where the files were opened and their database was not taken, and the disk has so far returned
-- what was written, the fault is so
abbrev pub IfRefused : {S : Type 0} (g : Ghosts S) → (OpenFault → Type 0) → NotOpened S → Type 0
IfRefused g P refused =
    IfSome refused.connection (λ conn. HasCleanDisk (state g conn) → P refused.fault)

-- where the files were opened, the disk has so far returned what was written, and no fault has closed
-- the database, it is so
abbrev pub IfOpen : {S : Type 0} (g : Ghosts S) → (State → Type 0) → NotOpened S → Type 0
IfOpen g P refused = IfSome refused.connection (λ conn.
    HasCleanDisk (state g conn) → IsTrue (state g conn).is_open → P (state g conn))

-- it shows just these trees, and they are what was committed last
abbrev pub HasJust : Trees → State → Type 0
HasJust trees s = (s.now.trees ≡ trees) × (s.committed.trees ≡ trees)

-- it has no table, index or view, and none was committed
abbrev pub IsBare : State → Type 0
IsBare s = (s.now.schema ≡ no_schema) × (s.committed.schema ≡ no_schema)

-- what are the tables of both, also those committed last, stays so
abbrev pub KeepsTables : State → State → Type 0
KeepsTables old new = (t : Tables) → HasTables t old.now → HasTables t old.committed
    → HasTables t new.now × HasTables t new.committed

-- a store that was found in this state isn't taken: the fault tells no number, and is so; the disk had returned
-- what was written then, too; and its tables stay
pub record FailsOver {S : Type 0} (g : Ghosts S) (s : State) (P : OpenFault → Type 0)
    (refused : NotOpened S) : Type 0 where
  pub untold : IfRefused g TellsNone refused
  pub cause : IfRefused g P refused
  pub clean : IfRefused g (λ fault. HasCleanDisk s) refused
  pub rests : IfOpen g (KeepsTables s) refused

-- a database that they hold is left as it was, whatever it is
abbrev pub LeavesAlone : {S : Type 0} (g : Ghosts S) → Image → NotOpened S → Type 0
LeavesAlone g image refused =
    (trees : Trees) → HoldsDatabase image trees → IfOpen g (HasJust trees) refused

-- where they hold nothing, no table is made
abbrev pub MakesNone : {S : Type 0} (g : Ghosts S) → Image → NotOpened S → Type 0
MakesNone g image refused = IsNothing image → IfOpen g IsBare refused

-- the connection that is handed back, if one is, stands in no transaction
abbrev pub IsOutside : {S : Type 0} → NotOpened S → Type 0
IsOutside refused = IfSome refused.connection (λ conn. conn.in_transaction ≡ false)

-- the connection is handed back, in no transaction, and nothing had stood in its way
abbrev pub HandsBack : {S : Type 0} → NotOpened S → Type 0
HandsBack refused = MatchOption refused.connection ⊥ (λ connection.
    (refused.hindrance ≡ None) × (connection.in_transaction ≡ false))

-- the refusal tells the fault of some error of the database, and what that error says of the file
abbrev pub IsByError : {S : Type 0} → NotOpened S → Type 0
IsByError refused =
    (error : Error) × (refused.fault ≡ Failed (fault_of error)) × (refused.hindrance ≡ hindrance_of error)

-- where the files weren't even opened, an error of the database is told, which has no number; where
-- they were, nothing stood in the way of a connection
abbrev pub IsWhyUnopened : {S : Type 0} → NotOpened S → Type 0
IsWhyUnopened refused =
    MatchOption refused.connection (IsByError refused) (λ connection. refused.hindrance ≡ None)
