-- From what a crash may leave to what the next open finds.
use Rattle.std.proofs.Common.{◌≡◌, ◌&&◌, ◌∙◌, ℕ, Bool, true, false, refl, subst, IsTrue}
use Rattle.std.proofs.Math.Logic.{∥∥₁_map, ∥∥₁_elim}
use Rattle.sqlite_disk.specs.declared.Disk.{Ghosts}
use Rattle.sqlite_store.specs.declared.store.FileStore.{FileStore}
use Rattle.sqlite_store.specs.FileStore.{state, view, recovers, files}
use Rattle.sqlite_trees.specs.Tree.{Trees}
use Rattle.sqlite_trees.specs.View.{IsClean}
use Rattle.sqlite_trees.proofs.Doubt.{no_doubt}
use Rattle.sqlite_wal.specs.Recovery.{Image}
use Rattle.sqlite_wal.specs.Files.{outcomes}
use Rattle.sqlite_wal.specs.Reads.{AreClean}
use Rattle.sqlite_pool.proofs.StateLemmas.{clean_is, may_leave_is}
use Rattle.sqlite.specs.Held.{AreDatabases}
use Rattle.sqlite.specs.Files.{HoldsDatabase, image_of}
use Rattle.sqlite.proofs.Theorems.{opens_again}
use Rattle.clear_schema.specs.Faults.{IsWrong}
use Rattle.clear_schema.specs.Held.{this_schema}
use Rattle.clear_disk.specs.Opening.{IfNotTaken}
use Rattle.clear_disk.specs.declared.files.FilesRefusal.{FilesRefusal}
use Rattle.clear_disk.specs.declared.files.FilesRefusal.TheVariants.{Unopened, NotTaken}
use Rattle.clear_database.specs.declared.store.Refusal.{Refusal}
use Rattle.clear_schema.specs.declared.fault.OpenFault.{OpenFault}
use Rattle.clear_schema.specs.declared.fault.OpenFault.TheVariants.{WrongVersion}

-- ---- both files are clean

both : (a b : Bool) → IsTrue a → IsTrue b → IsTrue (a && b)
both true true p q = refl
both true false p q = q
both false b p q = p

first : (a b : Bool) → IsTrue (a && b) → IsTrue a
first true b h = refl
first false b h = h

second : (a b : Bool) → IsTrue (a && b) → IsTrue b
second true b h = h
second false b h = absurd cc

-- ---- a store is closed, its files crash, and are opened again

module _ {D : Type 0} {g : Ghosts D} (it : FileStore D g) (log db : D) (closed : ◌≡◌ {A = D × D} (log, db) (files it)) (new_log new_db : D)
    (log_left : g.may_leave log (g.seen new_log)) (db_left : g.may_leave db (g.seen new_db))
    (log_clean : IsTrue (g.is_clean new_log) → IsTrue (g.is_clean log)) (db_clean : IsTrue (g.is_clean new_db) → IsTrue (g.is_clean db))
    (numbered : IsClean (view it) → IsTrue (view it).is_numbered) (sound : IsClean (view it) → AreDatabases (recovers it)) (honest : AreClean g new_log new_db) where
  abbrev pub left : Image
  left = image_of g (record { log = new_log; db = new_db })

  before : AreClean g (files it).0 (files it).1
  before = subst (λ p. AreClean g p.0 p.1) closed (both _ _ (log_clean (first _ (g.is_clean new_db) honest)) (db_clean (second (g.is_clean new_log) _ honest)))

  none : IsClean (view it)
  none = no_doubt _ (clean_is it.pool ∙ before)

  may : (state it).may_leave left
  may = may_leave_is it.pool left before (subst (λ p. outcomes g p.0 p.1 left) closed (log_left, db_left))

  -- the open finds what a crash could leave
  pub finds : (A : Type 0) → ((trees : Trees) → recovers it trees → HoldsDatabase left trees → A) → ∥ A ∥₁
  finds A found = ∥∥₁_map (opens_again it (numbered none) (sound none) left may) (λ it. found it.0 it.1 it.2)

  -- so it does not end as nothing of that does
  pub never : ((trees : Trees) → recovers it trees → HoldsDatabase left trees → ⊥) → ⊥
  never no_way = ∥∥₁_elim (finds ⊥ no_way) (λ a b. absurd a) (λ a. a)

-- this program's number is not another one's
pub not_wrong : (fault : OpenFault) (told : ℕ) → fault ≡ WrongVersion told → IsWrong this_schema this_schema fault → ⊥
not_wrong fault told is wrong = (subst (IsWrong this_schema this_schema) is wrong).1 refl

-- what a refusal has twice, it has together
pub not_taken_then : {D : Type 0} {g : Ghosts D} (P Q R : Refusal (FileStore D g) → Type 0) (it : FilesRefusal D g) → ((refusal : Refusal (FileStore D g)) → P refusal → Q refusal → R refusal)
    → IfNotTaken P it → IfNotTaken Q it → IfNotTaken R it
not_taken_then P Q R (Unopened fault) then p q = tt
not_taken_then P Q R (NotTaken refusal) then p q = then refusal p q
