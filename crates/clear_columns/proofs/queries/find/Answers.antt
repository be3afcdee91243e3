use Rattle.std.proofs.lemmas.Result.{err_from_is_err_and}
use Rattle.sqlite.specs.Values.{bound}
use Rattle.clear_schema.proofs.FrameLemmas.{looks_failed, looks_read}
use Rattle.clear_columns.proofs.queries.find.Goals as goal

pub returns-in_err-rows-clause-looks : goal.returns-in_err-rows-clause-looks
returns-in_err-rows-clause-looks g c =
    let it = c.in_err-rows.ensures in
    let p = err_from_is_err_and c.from_residual.result c.from_residual.ensures.1 in
    rw (p.1, p.2) (looks_failed g.S.Store c.args.tx.now.conn.now c.look.new.tx.conn.now g.T.StoredTable.shown g.T.StoredTable.is_in_range c.args.sql.now (bound c.args.values.now) _ _ _ _ it.no_row it.broke it.kept it.survives)

pub returns-clause-looks : goal.returns-clause-looks
returns-clause-looks g c =
    let read = rw c.deref.ensures.value at c.first_row.ensures in
    looks_read g.S.Store c.args.tx.now.conn.now c.look.new.tx.conn.now g.T.StoredTable.shown g.T.StoredTable.is_in_range c.args.sql.now (bound c.args.values.now) c.first_row.result c.in_ok-rows.rows.items _ _ _
    c.in_ok-rows.ensures.shown c.in_ok-rows.ensures.survives read.read read.good read.cause read.range
