use Rattle.std.proofs.lemmas.Result.{err_from_is_err_and}
use Rattle.sqlite.specs.Files.{over_files}
use Rattle.sqlite_wal.specs.Files.{image_at}
use Rattle.clear_host.proofs.RefusalLemmas.{back_outside, back_why, none_outside, unopened_alone, unopened_bare, unopened_new}
use Rattle.clear_host.proofs.stores.create_office.Goals as goal

pub returns-clause-working : goal.returns-clause-working
returns-clause-working g c = c.new_office.ensures.working

pub returns-clause-made : goal.returns-clause-made
returns-clause-made g c = c.new_office.ensures.made

pub returns-clause-only_new : goal.returns-clause-only_new
returns-clause-only_new g c = c.new_office.ensures.only_new (image_at g.S.Start) c.in_ok-connection.ensures.sees

pub returns-clause-over_none : goal.returns-clause-over_none
returns-clause-over_none g c = c.new_office.ensures.over_none (image_at g.S.Start) c.in_ok-connection.ensures.sees

pub returns-clause-day : goal.returns-clause-day
returns-clause-day g c = c.new_office.ensures.day

pub returns-clause-tells : goal.returns-clause-tells
returns-clause-tells g c = c.new_office.ensures.tells (image_at g.S.Start) c.in_ok-connection.ensures.sees

pub returns-in_err-connection-clause-tells : goal.returns-in_err-connection-clause-tells
returns-in_err-connection-clause-tells g c =
    let p = err_from_is_err_and c.from_residual.result c.from_residual.ensures.1 in
    rw (p.1, p.2) (unopened_new over_files (image_at g.S.Start) c.in_err-connection.field-0.0 c.in_err-connection.ensures.none)

pub returns-clause-unopened : goal.returns-clause-unopened
returns-clause-unopened g c = back_why c.new_office.result c.new_office.ensures.back

pub returns-clause-outside : goal.returns-clause-outside
returns-clause-outside g c = back_outside c.new_office.result c.new_office.ensures.back

pub returns-in_err-connection-clause-outside : goal.returns-in_err-connection-clause-outside
returns-in_err-connection-clause-outside g c =
    let p = err_from_is_err_and c.from_residual.result c.from_residual.ensures.1 in
    rw (p.1, p.2) (none_outside c.in_err-connection.field-0.0 c.in_err-connection.ensures.none)

pub returns-clause-alone : goal.returns-clause-alone
returns-clause-alone g c = c.new_office.ensures.alone (image_at g.S.Start) c.in_ok-connection.ensures.sees

pub returns-in_err-connection-clause-alone : goal.returns-in_err-connection-clause-alone
returns-in_err-connection-clause-alone g c =
    let p = err_from_is_err_and c.from_residual.result c.from_residual.ensures.1 in
    rw (p.1, p.2) (unopened_alone over_files (image_at g.S.Start) c.in_err-connection.field-0.0 c.in_err-connection.ensures.none)

pub returns-clause-bare : goal.returns-clause-bare
returns-clause-bare g c = c.new_office.ensures.bare (image_at g.S.Start) c.in_ok-connection.ensures.sees

pub returns-in_err-connection-clause-bare : goal.returns-in_err-connection-clause-bare
returns-in_err-connection-clause-bare g c =
    let p = err_from_is_err_and c.from_residual.result c.from_residual.ensures.1 in
    rw (p.1, p.2) (unopened_bare over_files (image_at g.S.Start) c.in_err-connection.field-0.0 c.in_err-connection.ensures.none)
