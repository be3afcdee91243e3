use Rattle.std.proofs.Common.{◌≡◌, inl, inr, IsTrue, OnOk, Ok, Err, arith, subst, sym}
use Rattle.sqlite.specs.State.{IsUnchanged}
use Rattle.sqlite.specs.Held.{state}
use Rattle.clear_schema.specs.Faults.{IsOfDisk}
use Rattle.clear_database.proofs.ConfirmLemmas.{unchanged_still}
use Rattle.clear_database.proofs.LookLemmas.{look_fails, look_still}
use Rattle.clear_database.proofs.VersionLemmas.{number_is, no_row, not_no_rows, no_rows_never, value_is, told_number, found_unchanged, none_unchanged, version_survives}
use Rattle.clear_database.proofs.open.number_of_meta.Goals as goal

pub returns-in-Ok-clause-empty : goal.returns-in-Ok-clause-empty
returns-in-Ok-clause-empty g c clean none =
    absurd (no_row (state g.S.Store c.args.conn.now) (state g.S.Store c.query_row.new.self) c.in-Ok.row c.requires none (c.in-Ok.ensures.row clean))

pub returns-in-Ok-clause-found : goal.returns-in-Ok-clause-found
returns-in-Ok-clause-found g c clean number has =
    let row = number_is number (state g.S.Store c.args.conn.now) (state g.S.Store c.query_row.new.self) has c.in-Ok.row (c.in-Ok.ensures.row clean) in
    told_number c.number_in.result c.in-Ok.row number c.number_in.ensures.told row

pub returns-in-Err-QueryReturnedNoRows-clause-found : goal.returns-in-Err-QueryReturnedNoRows-clause-found
returns-in-Err-QueryReturnedNoRows-clause-found g c clean number has =
    absurd (not_no_rows number (state g.S.Store c.args.conn.now) (state g.S.Store c.query_row.new.self) has (rw c.in-Err-QueryReturnedNoRows.field-0-is at (c.in-Err-QueryReturnedNoRows.ensures.row clean)))

pub returns-in-Ok-clause-same : goal.returns-in-Ok-clause-same
returns-in-Ok-clause-same g c clean = elim c.number_in.result as (λ r. OnOk r (IsUnchanged (state g.S.Store c.args.conn.now) (state g.S.Store c.query_row.new.self))) [
  | Ok n ↦ found_unchanged (state g.S.Store c.args.conn.now) (state g.S.Store c.query_row.new.self) c.in-Ok.row c.requires (c.in-Ok.ensures.row clean)
  | Err e ↦ tt
]

pub returns-in-Err-QueryReturnedNoRows-clause-same : goal.returns-in-Err-QueryReturnedNoRows-clause-same
returns-in-Err-QueryReturnedNoRows-clause-same g c clean =
    none_unchanged (state g.S.Store c.args.conn.now) (state g.S.Store c.query_row.new.self) c.requires (rw c.in-Err-QueryReturnedNoRows.field-0-is at (c.in-Err-QueryReturnedNoRows.ensures.row clean))

pub returns-in-Ok-clause-survives : goal.returns-in-Ok-clause-survives
returns-in-Ok-clause-survives g c = version_survives (state g.S.Store c.args.conn.now) (state g.S.Store c.query_row.new.self) c.requires c.query_row.ensures.survives

pub returns-in-Err-QueryReturnedNoRows-clause-survives : goal.returns-in-Err-QueryReturnedNoRows-clause-survives
returns-in-Err-QueryReturnedNoRows-clause-survives g c = version_survives (state g.S.Store c.args.conn.now) (state g.S.Store c.query_row.new.self) c.requires c.query_row.ensures.survives

pub returns-in-Err-clause-survives : goal.returns-in-Err-clause-survives
returns-in-Err-clause-survives g c = version_survives (state g.S.Store c.args.conn.now) (state g.S.Store c.query_row.new.self) c.requires c.query_row.ensures.survives

pub returns-in-Ok-clause-clean : goal.returns-in-Ok-clause-clean
returns-in-Ok-clause-clean g c clean = omega (arith, c.query_row.ensures.survives.clean)

pub returns-in-Err-QueryReturnedNoRows-clause-clean : goal.returns-in-Err-QueryReturnedNoRows-clause-clean
returns-in-Err-QueryReturnedNoRows-clause-clean g c clean = omega (arith, c.query_row.ensures.survives.clean)

pub returns-in-Err-clause-clean : goal.returns-in-Err-clause-clean
returns-in-Err-clause-clean g c clean = omega (arith, c.query_row.ensures.survives.clean)

pub returns-in-Ok-clause-below_zero : goal.returns-in-Ok-clause-below_zero
returns-in-Ok-clause-below_zero g c clean below = (
  c.number_in.ensures.below_zero below.1 (value_is _ below.2 (state g.S.Store c.args.conn.now) (state g.S.Store c.query_row.new.self) below.0 below.3 c.in-Ok.row (c.in-Ok.ensures.row clean)),
  c.number_in.ensures.fault,
)

pub returns-in-Err-clause-below_zero : goal.returns-in-Err-clause-below_zero
returns-in-Err-clause-below_zero g c clean below =
    (tt, inr (subst IsOfDisk (sym c.fault_of.ensures) (look_fails (state g.S.Store c.args.conn.now) (state g.S.Store c.query_row.new.self) _ c.requires (c.in-Err.ensures.row clean))))

pub returns-in-Err-QueryReturnedNoRows-clause-below_zero : goal.returns-in-Err-QueryReturnedNoRows-clause-below_zero
returns-in-Err-QueryReturnedNoRows-clause-below_zero g c clean below =
    absurd (no_rows_never _ below.2 (state g.S.Store c.args.conn.now) (state g.S.Store c.query_row.new.self) below.0 below.3 (rw c.in-Err-QueryReturnedNoRows.field-0-is at (c.in-Err-QueryReturnedNoRows.ensures.row clean)))

pub returns-in-Ok-clause-still : goal.returns-in-Ok-clause-still
returns-in-Ok-clause-still g c clean outside on =
    let old = state g.S.Store c.args.conn.now in
    let settled : IsTrue old.is_open → old.now ≡ old.committed = c.is_autocommit-outside.ensures.settled (rw (c.is_autocommit-outside.ensures.value, outside)) in
    unchanged_still old (state g.S.Store c.query_row.new.self) settled (found_unchanged old (state g.S.Store c.query_row.new.self) c.in-Ok.row c.requires (c.in-Ok.ensures.row clean))

pub returns-in-Err-QueryReturnedNoRows-clause-still : goal.returns-in-Err-QueryReturnedNoRows-clause-still
returns-in-Err-QueryReturnedNoRows-clause-still g c clean outside on =
    let old = state g.S.Store c.args.conn.now in
    let settled : IsTrue old.is_open → old.now ≡ old.committed = c.is_autocommit-outside.ensures.settled (rw (c.is_autocommit-outside.ensures.value, outside)) in
    look_still old (state g.S.Store c.query_row.new.self) settled _ on c.requires (c.in-Err-QueryReturnedNoRows.ensures.row clean)

pub returns-in-Err-clause-still : goal.returns-in-Err-clause-still
returns-in-Err-clause-still g c clean outside on =
    let old = state g.S.Store c.args.conn.now in
    let settled : IsTrue old.is_open → old.now ≡ old.committed = c.is_autocommit-outside.ensures.settled (rw (c.is_autocommit-outside.ensures.value, outside)) in
    look_still old (state g.S.Store c.query_row.new.self) settled _ on c.requires (c.in-Err.ensures.row clean)

pub returns-in-Ok-clause-cause : goal.returns-in-Ok-clause-cause
returns-in-Ok-clause-cause g c clean (inl (inl none)) = absurd (none c.requires)
returns-in-Ok-clause-cause g c clean (inl (inr none)) =
    absurd (no_row (state g.S.Store c.args.conn.now) (state g.S.Store c.query_row.new.self) c.in-Ok.row c.requires none (c.in-Ok.ensures.row clean))
returns-in-Ok-clause-cause g c clean (inr (number, has)) =
    c.number_in.ensures.cause number (number_is number (state g.S.Store c.args.conn.now) (state g.S.Store c.query_row.new.self) has c.in-Ok.row (c.in-Ok.ensures.row clean))

pub returns-in-Err-clause-cause : goal.returns-in-Err-clause-cause
returns-in-Err-clause-cause g c clean made =
    subst IsOfDisk (sym c.fault_of.ensures) (look_fails (state g.S.Store c.args.conn.now) (state g.S.Store c.query_row.new.self) _ c.requires (c.in-Err.ensures.row clean))
