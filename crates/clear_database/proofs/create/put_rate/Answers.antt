use Rattle.std.proofs.Common.{true≢false, sym, ◌∙◌}
use Rattle.std.proofs.lemmas.Result.{on_ok_weaker}
use Rattle.sqlite.specs.Held.{state}
use Rattle.clear_schema.proofs.Causes.{of_disk}
use Rattle.clear_database.proofs.FirstLemmas.{rate_held, rate_put}
use Rattle.clear_database.proofs.create.put_rate.Goals as goal

pub returns-clause-put : goal.returns-clause-put
returns-clause-put g c clean t has = on_ok_weaker c.put.result (λ ran. rate_put t (state g.S.Store c.args.tx.now.conn.now) (state g.S.Store c.put.new.tx.conn.now) c.args.row.now has ran) (rw c.rate_values.ensures at (c.put.ensures.runs.done clean))

pub returns-clause-cause : goal.returns-clause-cause
returns-clause-cause g c clean t has free =
    of_disk c.put.result (rw c.rate_values.ensures at (c.put.ensures.runs.broke clean)) c.put.ensures.runs.no_row
    (λ broke. true≢false (sym (rate_held t (state g.S.Store c.args.tx.now.conn.now) (state g.S.Store c.put.new.tx.conn.now) c.args.row.now has broke) ∙ free))
