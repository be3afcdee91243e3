use Rattle.std.proofs.Common.{ℕ, Bool, List, cond, subst}
use Rattle.sqlite.specs.Files.{file_state}
use Rattle.sqlite_disk.specs.Events.{Event, replay}
use Rattle.sqlite_wal.specs.Recovery.{Image}
use Rattle.clear_disk.specs.Seen.{SeesIn}
use Rattle.clear_host.proofs.opening.open_database.Goals as goal

-- files that were just settled show what they held
pub returns-in-Ok-clause-sees : goal.returns-in-Ok-clause-sees
returns-in-Ok-clause-sees g c clean =
    let (log, db) = c.in_ok-files.ensures.fresh in
    let seen : Bool → List Event → List ℕ = λ is_log history. (replay (cond is_log g.S.Start.log g.S.Start.db) history).seen in
    subst (λ (image : Image). SeesIn image (file_state c.in-Ok.connection)) (λ i. record { log = seen (log.0 i) (log.1 i); db = seen (db.0 i) (db.1 i) }) (c.in-Ok.ensures.sees clean)
