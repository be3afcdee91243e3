use Rattle.std.proofs.Common.{◌≡◌, IsTrue, subst, sym}
use Rattle.sqlite.specs.Held.{state}
use Rattle.clear_schema.specs.Faults.{IsOfDisk}
use Rattle.clear_schema.specs.Held.{HasTables}
use Rattle.clear_database.proofs.ConfirmLemmas.{asked_still, asked_survives, asked_unchanged, kept_still, no_query, unchanged_still}
use Rattle.clear_database.proofs.LookLemmas.{asked_fails}
use Rattle.clear_database.proofs.body.confirm.Goals as goal

pub returns-in-Ok-clause-open : goal.returns-in-Ok-clause-open
returns-in-Ok-clause-open g c clean =
    (asked_unchanged (state g.S.Store c.args.conn.now) (state g.S.Store c.query_all.new.self) _ (c.in-Ok.ensures.ok clean)).0.is_open

pub returns-in-Err-InvalidQuery-clause-open : goal.returns-in-Err-InvalidQuery-clause-open
returns-in-Err-InvalidQuery-clause-open g c clean =
    (no_query (state g.S.Store c.args.conn.now) (state g.S.Store c.query_all.new.self) (rw c.in-Err-InvalidQuery.field-0-is at (c.in-Err-InvalidQuery.ensures.err clean))).0.is_open

pub returns-in-Ok-clause-still : goal.returns-in-Ok-clause-still
returns-in-Ok-clause-still g c clean on =
    let old = state g.S.Store c.args.conn.now in
    let settled : IsTrue old.is_open → old.now ≡ old.committed = c.is_autocommit-outside.ensures.settled (rw (c.is_autocommit-outside.ensures.value, c.requires)) in
    unchanged_still old (state g.S.Store c.query_all.new.self) settled (asked_unchanged old (state g.S.Store c.query_all.new.self) _ (c.in-Ok.ensures.ok clean))

pub returns-in-Err-InvalidQuery-clause-still : goal.returns-in-Err-InvalidQuery-clause-still
returns-in-Err-InvalidQuery-clause-still g c clean on =
    let old = state g.S.Store c.args.conn.now in
    let settled : IsTrue old.is_open → old.now ≡ old.committed = c.is_autocommit-outside.ensures.settled (rw (c.is_autocommit-outside.ensures.value, c.requires)) in
    asked_still old (state g.S.Store c.query_all.new.self) _ settled on (rw c.in-Err-InvalidQuery.field-0-is at (c.in-Err-InvalidQuery.ensures.err clean))

pub returns-in-Err-clause-still : goal.returns-in-Err-clause-still
returns-in-Err-clause-still g c clean on =
    let old = state g.S.Store c.args.conn.now in
    let settled : IsTrue old.is_open → old.now ≡ old.committed = c.is_autocommit-outside.ensures.settled (rw (c.is_autocommit-outside.ensures.value, c.requires)) in
    asked_still old (state g.S.Store c.query_all.new.self) _ settled on (c.in-Err.ensures.err clean)

pub returns-in-Ok-clause-kept : goal.returns-in-Ok-clause-kept
returns-in-Ok-clause-kept g c clean t has =
    let old = state g.S.Store c.args.conn.now in
    let new = state g.S.Store c.query_all.new.self in
    let settled : IsTrue old.is_open → old.now ≡ old.committed = c.is_autocommit-outside.ensures.settled (rw (c.is_autocommit-outside.ensures.value, c.requires)) in
    let same = asked_unchanged old new _ (c.in-Ok.ensures.ok clean) in
    kept_still old new (HasTables t) (unchanged_still old new settled same) (λ db may. g.met.S.Store.settled c.query_all.new.self.store db same.0.is_open may) has

pub returns-in-Err-InvalidQuery-clause-kept : goal.returns-in-Err-InvalidQuery-clause-kept
returns-in-Err-InvalidQuery-clause-kept g c clean t has =
    let old = state g.S.Store c.args.conn.now in
    let new = state g.S.Store c.query_all.new.self in
    let settled : IsTrue old.is_open → old.now ≡ old.committed = c.is_autocommit-outside.ensures.settled (rw (c.is_autocommit-outside.ensures.value, c.requires)) in
    let same = no_query old new (rw c.in-Err-InvalidQuery.field-0-is at (c.in-Err-InvalidQuery.ensures.err clean)) in
    kept_still old new (HasTables t) (unchanged_still old new settled same) (λ db may. g.met.S.Store.settled c.query_all.new.self.store db same.0.is_open may) has

pub returns-in-Ok-clause-survives : goal.returns-in-Ok-clause-survives
returns-in-Ok-clause-survives g c = asked_survives (state g.S.Store c.args.conn.now) (state g.S.Store c.query_all.new.self) c.query_all.ensures.survives

pub returns-in-Err-InvalidQuery-clause-survives : goal.returns-in-Err-InvalidQuery-clause-survives
returns-in-Err-InvalidQuery-clause-survives g c = asked_survives (state g.S.Store c.args.conn.now) (state g.S.Store c.query_all.new.self) c.query_all.ensures.survives

pub returns-in-Err-clause-survives : goal.returns-in-Err-clause-survives
returns-in-Err-clause-survives g c = asked_survives (state g.S.Store c.args.conn.now) (state g.S.Store c.query_all.new.self) c.query_all.ensures.survives

pub returns-in-Err-clause-cause : goal.returns-in-Err-clause-cause
returns-in-Err-clause-cause g c clean =
    subst IsOfDisk (sym c.fault_of.ensures) (asked_fails (state g.S.Store c.args.conn.now) (state g.S.Store c.query_all.new.self) _ (c.in-Err.ensures.err clean))
