-- A store after a look, and what is known of an office that was opened.
use Rattle.std.proofs.Common.{◌≡◌, Result, IfOk, subst}
use Rattle.sqlite.specs.Held.{Held, state}
use Rattle.sqlite.specs.Store as store
use Rattle.sqlite.specs.Tree.{Trees}
use Rattle.clear_book.specs.Tables.{Tables}
use Rattle.clear_schema.specs.Held.{HasTables, StandsFor}
use Rattle.clear_database.specs.Still.{Holds}
use Rattle.clear_disk.proofs.SeenLemmas.{if_ok_both}

-- both hold of the value
pub if_ok_pair : {A E : Type 0} (r : Result A E) (P Q : A → Type 0) → IfOk r P → IfOk r Q → IfOk r (λ x. P x × Q x)
if_ok_pair r P Q = if_ok_both r P Q (λ x. P x × Q x) (λ x p q. (p, q))

module _ {S : Type 0} (g : store.Ghosts S) where
  -- the tables are those of before
  pub holds_same : (conn : Held S) (t u : Tables) → u ≡ t → HasTables u (state g conn).now → HasTables u (state g conn).committed
      → ((trees : Trees) → (state g conn).may_leave trees → StandsFor u trees) → Holds g conn t
  holds_same conn t u same now committed left = subst (Holds g conn) same (record { now = now; committed = committed; left = left })
