-- What is left where two files are not opened as a database, or as a store.
use Rattle.std.specs.Prelude.{◌≡◌, ◌⊎◌, ⊤, ℕ, List, []}
use Rattle.sqlite_disk.specs.declared.Disk.{Ghosts}
use Rattle.sqlite_disk.specs.declared.Files.{Files}
use Rattle.sqlite_pool.specs.Stored.{stored_size, trimmed}
use Rattle.sqlite_store.specs.Db.{IsFile}
use Rattle.sqlite_store.specs.Listing.{file_trees}
use Rattle.sqlite_store.specs.declared.catalog.Wanted.{Wanted}
use Rattle.sqlite_store.specs.declared.store.FileStore.{FileStore}
use Rattle.sqlite_trees.specs.Objects.{catalog_tree}
use Rattle.sqlite_trees.specs.Tree.{Trees}
use Rattle.sqlite_wal.specs.Files.{outcomes}
use Rattle.sqlite_wal.specs.Recovery.{Image, Pages, AreWhole, Recovers}
use Rattle.sqlite.specs.Files.{HoldsDatabase, image_of}
use Rattle.clear_disk.specs.Seen.{IsUnmade}
use Rattle.clear_schema.specs.declared.fault.Fault.{Fault}
use Rattle.clear_database.specs.declared.store.Refusal.{Refusal}
use Rattle.clear_disk.specs.declared.files.FilesRefusal.{FilesRefusal}
use Rattle.clear_disk.specs.declared.files.FilesRefusal.TheVariants.{Unopened, NotTaken}

module _ {D : Type 0} {g : Ghosts D} where
  -- where the files were not opened, the fault has this property
  abbrev pub IfUnopened : (Fault → Type 0) → FilesRefusal D g → Type 0
  IfUnopened P (Unopened fault) = P fault
  IfUnopened P (NotTaken refusal) = ⊤

  -- where the files were opened, and their database was not taken, the refusal has this property
  abbrev pub IfNotTaken : (Refusal (FileStore D g) → Type 0) → FilesRefusal D g → Type 0
  IfNotTaken P (Unopened fault) = ⊤
  IfNotTaken P (NotTaken refusal) = P refusal

-- The two files recover to a sound database file that reads as these trees. Nothing is said of the sums at the ends of its
-- pages, nor of the numbers of the rows that list its tables.
pub record ReadsAs (image : Image) (trees : Trees) : Type 0 where
  pub size : ℕ
  pub stored : Pages
  pub schema : List Wanted
  pub found : Recovers (stored_size size) image stored
  pub whole : AreWhole (stored_size size) stored
  pub sound : IsFile size schema (trimmed size stored)
  pub reads : trees ≡ file_trees size schema (trimmed size stored)

-- they recover to one without a table
abbrev pub ReadsAsEmpty : Image → Type 0
ReadsAsEmpty image = (trees : Trees) × ReadsAs image trees × (trees catalog_tree ≡ [])

-- What a refused open leaves of two files, the log and the database file: whatever a crash may leave of them now, it
-- might have left before, or else ..
pub record AreSpared {D : Type 0} (g : Ghosts D) (files : Files D) (left : D × D) : Type 0 where
  -- .. it reads as the database that they held
  pub held : (trees : Trees) → HoldsDatabase (image_of g files) trees
      → (image : Image) → outcomes g left.0 left.1 image
      → outcomes g files.log files.db image ⊎ ∥ ReadsAs image trees ∥₁
  -- .. it is no database yet, or an empty one, where none had been made of them
  pub unmade : IsUnmade (image_of g files)
      → (image : Image) → outcomes g left.0 left.1 image
      → outcomes g files.log files.db image ⊎ (IsUnmade image ⊎ ∥ ReadsAsEmpty image ∥₁)
