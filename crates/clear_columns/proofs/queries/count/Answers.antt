use Rattle.std.proofs.Common.{◌∙◌}
use Rattle.std.proofs.lemmas.Result.{err_from_is_err_and}
use Rattle.sqlite.specs.Values.{bound}
use Rattle.clear_columns.proofs.CountLemmas.{failed, told}
use Rattle.clear_columns.proofs.queries.count.Goals as goal

pub returns-in_err-rows-clause-looks : goal.returns-in_err-rows-clause-looks
returns-in_err-rows-clause-looks g c =
    let it = c.in_err-rows.ensures in
    let p = err_from_is_err_and c.from_residual.result c.from_residual.ensures.1 in
    rw (p.1, p.2) (failed g.S.Store c.args.tx.now.conn.now c.look.new.tx.conn.now c.args.sql.now (bound c.args.values.now) _ it.no_row it.broke it.kept it.survives)

pub returns-clause-looks : goal.returns-clause-looks
returns-clause-looks g c =
    told g.S.Store c.args.tx.now.conn.now c.look.new.tx.conn.now c.args.sql.now (bound c.args.values.now) _ c.in_ok-rows.rows.items (c.len.ensures ∙ c.in_ok-rows.rows.ok.0) c.in_ok-rows.ensures.shown c.in_ok-rows.ensures.survives
