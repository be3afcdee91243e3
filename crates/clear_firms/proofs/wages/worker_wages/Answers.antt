use Rattle.clear_values.specs.RowRanges.{IsWageRow}
use Rattle.clear_schema.proofs.FrameLemmas.{lists}
use Rattle.clear_schema.specs.Values.{wage_shown}
use Rattle.clear_firms.proofs.WageTable.{answers_for}
use Rattle.clear_firms.proofs.wages.worker_wages.Goals as goal

pub returns-clause-looks : goal.returns-clause-looks
returns-clause-looks g c = lists g.S.Store c.args.tx.now.conn.now c.list.new.tx.conn.now wage_shown IsWageRow _ _ c.list.result _ (λ t has. answers_for g.S.Store t _ c.args.worker has) (rw c.worker.ensures at c.list.ensures.looks)
