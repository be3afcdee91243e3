use Rattle.std.proofs.Common.{Ok, Err, Some, None}
use Rattle.std.proofs.lemmas.Result.{err_from_is_err_and}
use Rattle.clear_firms.proofs.CountsTable.{finds_counts}
use Rattle.clear_firms.proofs.counts.find_counts.Goals as goal

pub returns-in_err-counts-clause-looks : goal.returns-in_err-counts-clause-looks
returns-in_err-counts-clause-looks g c =
    let p = err_from_is_err_and c.from_residual.result c.from_residual.ensures.1 in
    rw (p.1, p.2) (finds_counts g.S.Store c.args.tx.now.conn.now c.find.new.tx.conn.now (Err c.in_err-counts.field-0.0) c.in_err-counts.ensures.looks)

pub returns-in-Some-clause-looks : goal.returns-in-Some-clause-looks
returns-in-Some-clause-looks g c = finds_counts g.S.Store c.args.tx.now.conn.now c.find.new.tx.conn.now (Ok (Some c.in-Some.counts)) (rw c.in-Some.is at c.in_ok-counts.ensures.looks)

pub returns-in-None-clause-looks : goal.returns-in-None-clause-looks
returns-in-None-clause-looks g c = finds_counts g.S.Store c.args.tx.now.conn.now c.find.new.tx.conn.now (Ok None) (rw c.in-None.is at c.in_ok-counts.ensures.looks)
