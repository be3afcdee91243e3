-- A store in memory has a clean disk, always.
use Rattle.std.proofs.Common.{◌∙◌, IsTrue}
use Rattle.std.proofs.lemmas.Bool.{and_from}
use Rattle.sqlite_disk.specs.declared.Disk.{Ghosts}
use Rattle.sqlite_store.specs.declared.store.FileStore.{FileStore}
use Rattle.sqlite_store.specs.FileStore.{view}
use Rattle.sqlite_trees.specs.View.{IsClean}
use Rattle.sqlite_trees.proofs.Doubt.{no_doubt}
use Rattle.sqlite_pool.proofs.StateLemmas.{clean_is}

-- on disks that never lie, a connection's disk is clean
pub always_clean : {D : Type 0} {g : Ghosts D} → ((d : D) → IsTrue (g.is_clean d)) → (it : FileStore D g) → IsClean (view it)
always_clean honest it = no_doubt _ (clean_is it.pool ∙ and_from _ _ (honest _) (honest _))
