use Rattle.std.proofs.lemmas.Result.{err_from_is_err_and}
use Rattle.clear_reading.specs.Look.{AreFewSuspended}
use Rattle.clear_reading.specs.LookParts.{rows_counted}
use Rattle.clear_reading.proofs.SequenceLemmas.{both, refused_behind, told_as}
use Rattle.clear_reading.proofs.row_counts.count_tables.Goals as goal

pub returns-in_err-reports-clause-tells : goal.returns-in_err-reports-clause-tells
returns-in_err-reports-clause-tells g c =
    let p = err_from_is_err_and c.from_residual-in_err-reports.result c.from_residual-in_err-reports.ensures.1 in
    rw (p.1, p.2) (refused_behind g.S.Store _ _ _ c.in_ok-firms.ensures.tells rows_counted AreFewSuspended (λ t few. tt) c.in_err-reports.ensures.tells)

pub returns-in_err-lines-clause-tells : goal.returns-in_err-lines-clause-tells
returns-in_err-lines-clause-tells g c =
    let p = err_from_is_err_and c.from_residual-in_err-lines.result c.from_residual-in_err-lines.ensures.1 in
    let two = both g.S.Store _ _ _ c.in_ok-firms.ensures.tells c.in_ok-reports.ensures.tells in
    rw (p.1, p.2) (refused_behind g.S.Store _ _ _ two rows_counted AreFewSuspended (λ t few. few) c.in_err-lines.ensures.tells)

pub returns-in_err-claims-clause-tells : goal.returns-in_err-claims-clause-tells
returns-in_err-claims-clause-tells g c =
    let p = err_from_is_err_and c.from_residual-in_err-claims.result c.from_residual-in_err-claims.ensures.1 in
    let two = both g.S.Store _ _ _ c.in_ok-firms.ensures.tells c.in_ok-reports.ensures.tells in
    let three = both g.S.Store _ _ _ two c.in_ok-lines.ensures.tells in
    rw (p.1, p.2) (refused_behind g.S.Store _ _ _ three rows_counted AreFewSuspended (λ t few. tt) c.in_err-claims.ensures.tells)

pub returns-clause-tells : goal.returns-clause-tells
returns-clause-tells g c =
    let two = both g.S.Store _ _ _ c.in_ok-firms.ensures.tells c.in_ok-reports.ensures.tells in
    let three = both g.S.Store _ _ _ two c.in_ok-lines.ensures.tells in
    let four = both g.S.Store _ _ _ three c.in_ok-claims.ensures.tells in
    told_as g.S.Store _ _ rows_counted AreFewSuspended _
    (λ t is i. record { firms = (is i).0.0.0; reports = (is i).0.0.1; lines = (is i).0.1; claims = (is i).1 })
    four
