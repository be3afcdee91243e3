-- What a connection on files that were just opened sees of what they held.
use Rattle.std.specs.Prelude.{◌≡◌, ◌⊎◌, ℕ, []}
use Rattle.sqlite.specs.Files.{AreFoundIn, HoldsDatabase, IsNothing}
use Rattle.sqlite.specs.Held.{Held, state}
use Rattle.sqlite.specs.State.{State, HasCleanDisk, IsLive, Opens}
use Rattle.sqlite.specs.Store.{Ghosts}
use Rattle.sqlite_pool.specs.Opening.{IsBlankFile}
use Rattle.sqlite_trees.specs.Objects.{catalog_tree}
use Rattle.sqlite_trees.specs.Tree.{Trees}
use Rattle.sqlite_wal.specs.Recovery.{Image}

-- no database has been made of them yet: the file is empty, or has no more than what is first written of one,
-- whatever the size of its pages
abbrev pub IsUnmade : Image → Type 0
IsUnmade image = (size : ℕ) × IsBlankFile size image

-- it was just opened, and finds the database that they held, or no table where they held none
pub record SeesIn (image : Image) (s : State) : Type 0 where
  pub opened : Opens s × IsLive s
  pub holds : (trees : Trees) → HoldsDatabase image trees → s.committed.trees ≡ trees
  pub bare : IsNothing image → s.committed.trees catalog_tree ≡ []
  -- they recover to what it finds, or no database has been made of them yet: anything else isn't opened
  pub found : AreFoundIn image s.committed.trees
      ⊎ (IsUnmade image × (s.committed.trees catalog_tree ≡ []))

-- so it is, so far as the disk has returned what was written
abbrev pub Sees : {S : Type 0} (g : Ghosts S) → Image → Held S → Type 0
Sees g image h = HasCleanDisk (state g h) → SeesIn image (state g h)
