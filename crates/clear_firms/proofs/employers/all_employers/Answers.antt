use Rattle.clear_values.specs.RowRanges.{IsEmployerRow}
use Rattle.clear_schema.proofs.FrameLemmas.{lists}
use Rattle.clear_schema.specs.Values.{employer_shown}
use Rattle.clear_firms.proofs.EmployerTable.{answers_all}
use Rattle.clear_firms.proofs.employers.all_employers.Goals as goal

pub returns-clause-looks : goal.returns-clause-looks
returns-clause-looks g c = lists g.S.Store c.args.tx.now.conn.now c.list.new.tx.conn.now employer_shown IsEmployerRow _ _ c.list.result _ (λ t has. answers_all g.S.Store t _ has) c.list.ensures.looks
