use Rattle.std.proofs.lemmas.Result.{err_from_is_err_and}
use Rattle.sqlite.specs.Files.{over_files}
use Rattle.sqlite_wal.specs.Files.{image_at}
use Rattle.clear_host.proofs.RefusalLemmas.{back_outside, back_why, none_outside, unopened_leaves, unopened_tells}
use Rattle.clear_host.proofs.stores.open_office.Goals as goal

pub returns-clause-working : goal.returns-clause-working
returns-clause-working g c = c.find_office.ensures.working

pub returns-clause-opened : goal.returns-clause-opened
returns-clause-opened g c = c.find_office.ensures.opened (image_at g.S.Start) c.in_ok-connection.ensures.sees

pub returns-clause-tells : goal.returns-clause-tells
returns-clause-tells g c = c.find_office.ensures.tells (image_at g.S.Start) c.in_ok-connection.ensures.sees

pub returns-in_err-connection-clause-tells : goal.returns-in_err-connection-clause-tells
returns-in_err-connection-clause-tells g c =
    let p = err_from_is_err_and c.from_residual.result c.from_residual.ensures.1 in
    rw (p.1, p.2) (unopened_tells over_files (image_at g.S.Start) c.in_err-connection.field-0.0 c.in_err-connection.ensures.none)

pub returns-clause-leaves : goal.returns-clause-leaves
returns-clause-leaves g c = c.find_office.ensures.leaves (image_at g.S.Start) c.in_ok-connection.ensures.sees

pub returns-in_err-connection-clause-leaves : goal.returns-in_err-connection-clause-leaves
returns-in_err-connection-clause-leaves g c =
    let p = err_from_is_err_and c.from_residual.result c.from_residual.ensures.1 in
    rw (p.1, p.2) (unopened_leaves over_files (image_at g.S.Start) c.in_err-connection.field-0.0 c.in_err-connection.ensures.none)

pub returns-clause-outside : goal.returns-clause-outside
returns-clause-outside g c = back_outside c.find_office.result c.find_office.ensures.back

pub returns-clause-unopened : goal.returns-clause-unopened
returns-clause-unopened g c = back_why c.find_office.result c.find_office.ensures.back

pub returns-in_err-connection-clause-outside : goal.returns-in_err-connection-clause-outside
returns-in_err-connection-clause-outside g c =
    let p = err_from_is_err_and c.from_residual.result c.from_residual.ensures.1 in
    rw (p.1, p.2) (none_outside c.in_err-connection.field-0.0 c.in_err-connection.ensures.none)
