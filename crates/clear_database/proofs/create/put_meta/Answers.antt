use Rattle.std.proofs.lemmas.Result.{on_ok_weaker}
use Rattle.sqlite.specs.Held.{state}
use Rattle.clear_schema.proofs.Causes.{of_disk}
use Rattle.clear_database.proofs.FirstLemmas.{meta_breaks, meta_put}
use Rattle.clear_database.proofs.create.put_meta.Goals as goal

pub returns-clause-put : goal.returns-clause-put
returns-clause-put g c clean made = on_ok_weaker c.put.result (λ ran. meta_put (state g.S.Store c.args.tx.now.conn.now) (state g.S.Store c.put.new.tx.conn.now) made ran) (c.put.ensures.runs.done clean)

pub returns-clause-cause : goal.returns-clause-cause
returns-clause-cause g c clean made sound = of_disk c.put.result (c.put.ensures.runs.broke clean) c.put.ensures.runs.no_row (meta_breaks (state g.S.Store c.args.tx.now.conn.now) (state g.S.Store c.put.new.tx.conn.now) made sound)
