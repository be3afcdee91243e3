use Rattle.std.proofs.Common.{refl}
use Rattle.sqlite.specs.Values.{bound}
use Rattle.clear_columns.proofs.ReadingLemmas.{begins, left}
use Rattle.clear_columns.proofs.rows.begin_rows.Goals as goal

pub returns : goal.returns
returns g c =
    let sql = c.args.sql.now in
    let params = bound c.args.values.now in
    let old = c.args.conn.now in
    let made = c.query.result in (
      (refl, c.query.follows.holds, left g.S.Store sql params old c.query.follows.lender-at-none made c.query.follows.holds-at-none),
      (c.query.ensures.same_reference, begins g.T.StoredTable.shown g.S.Store sql params old _ made c.query.ensures.begun c.query.ensures.mode c.query.ensures.survives),
    )
