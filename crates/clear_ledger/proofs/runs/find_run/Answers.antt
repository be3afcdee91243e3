use Rattle.std.proofs.Common.{refl}
use Rattle.clear_values.specs.RowRanges.{IsRunRow}
use Rattle.clear_columns.proofs.NumberedTable.{finds_one}
use Rattle.clear_ledger.proofs.RunTable.{get_says, runs}
use Rattle.clear_ledger.proofs.runs.find_run.Goals as goal

pub returns-clause-looks : goal.returns-clause-looks
returns-clause-looks g c = finds_one runs g.S.Store get_says c.args.run (λ _. refl) c.args.tx.now.conn.now c.find.new.tx.conn.now IsRunRow c.find.result (rw c.run_no.ensures at c.find.ensures.looks)
