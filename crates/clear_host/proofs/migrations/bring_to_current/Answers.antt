use Rattle.std.proofs.lemmas.Result.{err_from_is_err_and}
use Rattle.sqlite.specs.Files.{over_files}
use Rattle.sqlite_wal.specs.Files.{image_at}
use Rattle.clear_host.specs.Contents.{BlamesNone}
use Rattle.clear_host.proofs.RefusalLemmas.{back_outside, back_why, none_outside, unconnected, unopened_alone, unopened_bare, unopened_tells}
use Rattle.clear_host.proofs.migrations.bring_to_current.Goals as goal

pub returns-clause-current : goal.returns-clause-current
returns-clause-current g c = c.bring.ensures.current

pub returns-clause-found : goal.returns-clause-found
returns-clause-found g c = c.bring.ensures.found (image_at g.S.Start) c.in_ok-connection.ensures.sees

pub returns-clause-ours : goal.returns-clause-ours
returns-clause-ours g c = c.bring.ensures.ours (image_at g.S.Start) c.in_ok-connection.ensures.sees

pub returns-clause-tells : goal.returns-clause-tells
returns-clause-tells g c = c.bring.ensures.tells (image_at g.S.Start) c.in_ok-connection.ensures.sees

pub returns-in_err-connection-clause-tells : goal.returns-in_err-connection-clause-tells
returns-in_err-connection-clause-tells g c =
    let p = err_from_is_err_and c.from_residual.result c.from_residual.ensures.1 in
    rw (p.1, p.2) (unopened_tells over_files (image_at g.S.Start) c.in_err-connection.field-0.0 c.in_err-connection.ensures.none)

pub returns-clause-cause : goal.returns-clause-cause
returns-clause-cause g c = c.bring.ensures.cause (image_at g.S.Start) c.in_ok-connection.ensures.sees

pub returns-in_err-connection-clause-cause : goal.returns-in_err-connection-clause-cause
returns-in_err-connection-clause-cause g c known =
    let p = err_from_is_err_and c.from_residual.result c.from_residual.ensures.1 in
    rw (p.1, p.2) (unconnected over_files BlamesNone c.in_err-connection.field-0.0 c.in_err-connection.ensures.none)

pub returns-clause-still : goal.returns-clause-still
returns-clause-still g c = c.bring.ensures.still (image_at g.S.Start) c.in_ok-connection.ensures.sees

pub returns-clause-outside : goal.returns-clause-outside
returns-clause-outside g c = back_outside c.bring.result c.bring.ensures.back

pub returns-clause-unopened : goal.returns-clause-unopened
returns-clause-unopened g c = back_why c.bring.result c.bring.ensures.back

pub returns-in_err-connection-clause-outside : goal.returns-in_err-connection-clause-outside
returns-in_err-connection-clause-outside g c =
    let p = err_from_is_err_and c.from_residual.result c.from_residual.ensures.1 in
    rw (p.1, p.2) (none_outside c.in_err-connection.field-0.0 c.in_err-connection.ensures.none)

pub returns-clause-alone : goal.returns-clause-alone
returns-clause-alone g c = c.bring.ensures.alone (image_at g.S.Start) c.in_ok-connection.ensures.sees

pub returns-in_err-connection-clause-alone : goal.returns-in_err-connection-clause-alone
returns-in_err-connection-clause-alone g c =
    let p = err_from_is_err_and c.from_residual.result c.from_residual.ensures.1 in
    rw (p.1, p.2) (unopened_alone over_files (image_at g.S.Start) c.in_err-connection.field-0.0 c.in_err-connection.ensures.none)

pub returns-clause-bare : goal.returns-clause-bare
returns-clause-bare g c = c.bring.ensures.bare (image_at g.S.Start) c.in_ok-connection.ensures.sees

pub returns-in_err-connection-clause-bare : goal.returns-in_err-connection-clause-bare
returns-in_err-connection-clause-bare g c =
    let p = err_from_is_err_and c.from_residual.result c.from_residual.ensures.1 in
    rw (p.1, p.2) (unopened_bare over_files (image_at g.S.Start) c.in_err-connection.field-0.0 c.in_err-connection.ensures.none)

pub returns-clause-mode : goal.returns-clause-mode
returns-clause-mode g c = c.bring.ensures.mode
