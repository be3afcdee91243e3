use Rattle.std.proofs.Common.{inr, subst, sym}
use Rattle.sqlite.specs.Files.{file_state}
use Rattle.clear_schema.specs.Faults.{IsOfDisk}
use Rattle.clear_schema.specs.Held.{StandsFor, TellsAs}
use Rattle.clear_schema.proofs.Causes.{open_fails}
use Rattle.clear_database.proofs.OpenLemmas.{tells_seen}
use Rattle.clear_disk.proofs.files.open_files.Goals as goal

pub returns-in-Ok-open-clause-honest : goal.returns-in-Ok-open-clause-honest
returns-in-Ok-open-clause-honest g c clean = (c.in-Ok.ensures.found (c.in-Ok-open.ensures.opened.clean clean)).honest

pub returns-in-Err-open-clause-honest_left : goal.returns-in-Err-open-clause-honest_left
returns-in-Err-open-clause-honest_left g c clean = (c.in-Ok.ensures.found (c.in-Err-open.ensures.refused.clean clean)).honest

pub returns-in-Ok-open-clause-found : goal.returns-in-Ok-open-clause-found
returns-in-Ok-open-clause-found g c clean t trees holds stands =
    let opened = c.in-Ok-open.ensures.opened in
    let there : StandsFor t (file_state c.in-Ok.conn).committed.trees = subst (StandsFor t) (sym ((c.in-Ok.ensures.found (opened.clean clean)).holds trees holds)) stands in
    let found = opened.found clean t there in
    (found.now, found.committed)

pub returns-in-Err-open-clause-version : goal.returns-in-Err-open-clause-version
returns-in-Err-open-clause-version g c clean number trees holds stands =
    let refused = c.in-Err-open.ensures.refused in
    let early = refused.clean clean in
    let there : TellsAs number (file_state c.in-Ok.conn).committed.trees = subst (TellsAs number) (sym ((c.in-Ok.ensures.found early).holds trees holds)) stands in
    refused.version clean number there (c.in-Ok.ensures.opened early).0.is_open

pub returns-in-Err-open-clause-cause : goal.returns-in-Err-open-clause-cause
returns-in-Err-open-clause-cause g c clean number trees holds stands =
    let refused = c.in-Err-open.ensures.refused in
    let early = refused.clean clean in
    let opened = c.in-Ok.ensures.opened early in
    let there : TellsAs number (file_state c.in-Ok.conn).committed.trees = subst (TellsAs number) (sym ((c.in-Ok.ensures.found early).holds trees holds)) stands in
    refused.cause clean (inr (number, tells_seen number (file_state c.in-Ok.conn) opened.0.clean opened.1 opened.0.is_open there))

pub returns-in-Err-clause-unopened : goal.returns-in-Err-clause-unopened
returns-in-Err-clause-unopened g c = subst IsOfDisk (sym c.fault_of.ensures) (open_fails _ c.in-Err.ensures.named)
