-- An office that was just opened over a store.
use Rattle.std.proofs.Common.{◌≡◌, List, sym, subst, false}
use Rattle.std.specs.Prelude.{IsTrue}
use Rattle.sqlite.specs.Held.{Held, state}
use Rattle.sqlite.specs.State.{HasCleanDisk}
use Rattle.sqlite.specs.Store as store
use Rattle.clear_money.specs.Rates.{Rate}
use Rattle.clear_book.specs.Book.{Book, first_book}
use Rattle.clear_book.specs.Allocated.{Represents}
use Rattle.clear_book.specs.Tables.{Tables}
use Rattle.clear_laws.proofs.FirstLemmas.{first_stands}
use Rattle.clear_laws.proofs.TablePiecesLemmas.{first_allocated}
use Rattle.clear_database.specs.First.{first_tables}
use Rattle.clear_database.specs.Still.{Holds}
use Rattle.clear_office.specs.Office.{AtOffice, IsHonest, Keeps}

-- the first tables represent the first book
pub first_represents : (rates : List Rate) → Represents (first_book rates) (first_tables rates)
first_represents rates = record { stands = first_stands rates; pieces = first_allocated rates (λ row. row) }

module _ {S : Type 0} (g : store.Ghosts S) (office : AtOffice S) (conn : Held S) (is : office ≡ record { conn = conn; failed = false }) where
  -- its disk is that of the store
  pub honest_store : IsHonest g office → HasCleanDisk (state g conn)
  honest_store = subst (λ o. IsHonest g o → HasCleanDisk (state g conn)) (sym is) (λ honest. honest)

  -- its database is open where that of the store is
  pub opens_still : IsTrue (state g conn).is_open → IsTrue (state g office.conn).is_open
  opens_still was = subst (λ (o : AtOffice S). IsTrue (state g o.conn).is_open) (sym is) was

  -- it has the tables that the store has
  pub holds_still : (t : Tables) → Holds g conn t → Holds g office.conn t
  holds_still t holds = subst (λ (o : AtOffice S). Holds g o.conn t) (sym is) holds

  -- it keeps the book that the store's tables represent
  pub keeps_book : (b : Book) (t : Tables) → Represents b t → Holds g conn t → Keeps g office b
  keeps_book b t represents holds = subst (λ o. Keeps g o b) (sym is) (t, represents, holds)
