-- Why an office over a store in files is opened, and why it is not, by what the two files hold.
use Rattle.std.specs.Prelude.{◌≡◌, ◌≢◌, ◌⊎◌, ℕ, List}
use Rattle.sqlite.specs.Effect.{Database, IsDatabase}
use Rattle.sqlite.specs.Files.{AreFoundIn, HoldsDatabase, IsNothing}
use Rattle.sqlite.specs.Store.{Ghosts}
use Rattle.sqlite.specs.Tree.{Trees}
use Rattle.sqlite_wal.specs.Recovery.{Image}
use Rattle.clear_money.specs.Rates.{Rate}
use Rattle.clear_book.specs.Book.{Book, first_book}
use Rattle.clear_book.specs.Tables.{Tables}
use Rattle.clear_schema.specs.Faults.{IsWrong, TellsOutOfRange}
use Rattle.clear_database.specs.First.{first_tables}
use Rattle.clear_schema.specs.Held.{HasTables, StandsOtherwise, TellsAs, this_schema}
use Rattle.clear_schema.specs.Schema.{this_layout}
use Rattle.clear_database.specs.Opening.{IsBelowZero, TellsNoNumber}
use Rattle.clear_database.specs.Still.{Holds}
use Rattle.clear_office.specs.Office.{Keeps}
use Rattle.clear_host.specs.Contents.{AreBlameless, BlamesNone, HasJust, HoldsBelowZero, HoldsBook}
use Rattle.clear_host.specs.Contents.{HoldsNoNumber, HoldsNumberOrNone, HoldsOtherLayout, HoldsSchema}
use Rattle.clear_host.specs.Contents.{HoldsStore, IfOpen, IfRefused, MakesNone, TellsNone, TellsOnly}
use Rattle.clear_host.specs.Contents.{TellsOther}
use Rattle.clear_host.specs.declared.offices.NotOpened.{NotOpened}
use Rattle.clear_host.specs.declared.offices.Opened.{Opened}

-- they recover to a database, and to none of another schema, with other tables or indexes, or without
-- a number from 0 on
pub record IsOurs (image : Image) : Type 0 where
  pub recovers : (trees : Trees) × AreFoundIn image trees
  pub only_this : (number : ℕ) → HoldsSchema number image → number ≡ this_schema
  pub not_other : ¬ HoldsOtherLayout image
  pub only_stores : ¬ HoldsNoNumber image
  pub not_below_zero : ¬ HoldsBelowZero image

-- the office keeps the book that they hold, and has the tables that they hold and their ledger day,
-- whatever these are
pub record IsOfficeOver {S : Type 0} (g : Ghosts S) (image : Image) (opened : Opened S) : Type 0 where
  pub found : (t : Tables) → HoldsStore this_layout t image → Holds g opened.office.conn t
  pub keeps : (b : Book) → HoldsBook b image → Keeps g opened.office b
  pub day : (t : Tables) → HoldsStore this_layout t image → opened.ledger_day ≡ t.day
  pub ours : IsOurs image

-- the office keeps the book without requests, with these opening rates, and has its tables
pub record IsNewOffice {S : Type 0} (g : Ghosts S) (rates : List Rate) (opened : Opened S) : Type 0
  where
    pub created : Holds g opened.office.conn (first_tables rates)
    pub keeps : Keeps g opened.office (first_book rates)

-- the refusal tells that they hold another schema, other tables or indexes, a number below 0, or none,
-- where they do; and where they are blameless, no key and no row is to blame for it
pub record TellsOf {S : Type 0} (g : Ghosts S) (image : Image) (refused : NotOpened S) : Type 0 where
  pub version : (number : ℕ) → HoldsSchema number image
      → IfRefused g (IsWrong this_schema number) refused
  pub other : HoldsOtherLayout image → IfRefused g TellsOther refused
  pub empty : HoldsNoNumber image → IfRefused g (TellsOnly 0) refused
  pub below_zero : HoldsBelowZero image → IfRefused g TellsOutOfRange refused
  pub cause : AreBlameless image → IfRefused g BlamesNone refused

-- the refusal leaves what they hold: the tables of a store of this program; a database of another schema,
-- of another layout, or that tells no number or one below 0, as it was; and nothing, where they hold that
pub record Leaves {S : Type 0} (g : Ghosts S) (image : Image) (refused : NotOpened S) : Type 0 where
  pub tables : (t : Tables) → HoldsStore this_layout t image
      → IfOpen g (λ s. HasTables t s.now × HasTables t s.committed) refused
  pub others : (number : ℕ) (trees : Trees) → HoldsDatabase image trees → TellsAs number trees
      → number ≢ this_schema → IfOpen g (HasJust trees) refused
  pub otherwise : (trees : Trees) → HoldsDatabase image trees → StandsOtherwise trees
      → IfOpen g (HasJust trees) refused
  pub unnumbered : (db : Database) → HoldsDatabase image db.trees → IsDatabase db
      → TellsNoNumber db ⊎ IsBelowZero db → IfOpen g (HasJust db.trees) refused
  pub nothing : MakesNone g image refused

-- where a store was to be made, the refusal tells the number of the schema that they hold, at most 0 where
-- they tell none, that it is below 0, and no number where they hold nothing; where they tell a number or none,
-- no key and no row is to blame for it
pub record TellsOfNew {S : Type 0} (g : Ghosts S) (image : Image) (refused : NotOpened S) : Type 0
  where
    pub version : (number : ℕ) → HoldsSchema number image → IfRefused g (TellsOnly number) refused
    pub no_number : HoldsNoNumber image → IfRefused g (TellsOnly 0) refused
    pub below_zero : HoldsBelowZero image → IfRefused g TellsOutOfRange refused
    pub empty : IsNothing image → IfRefused g TellsNone refused
    pub cause : HoldsNumberOrNone image → IfRefused g BlamesNone refused
