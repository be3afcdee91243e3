use Rattle.std.proofs.Common.{refl}
use Rattle.clear_values.specs.RowRanges.{IsEmployerRow}
use Rattle.clear_columns.proofs.NumberedTable.{finds_one}
use Rattle.clear_firms.proofs.EmployerTable.{get_says, employers}
use Rattle.clear_firms.proofs.employers.find_employer.Goals as goal

pub returns-clause-looks : goal.returns-clause-looks
returns-clause-looks g c = finds_one employers g.S.Store get_says c.args.no (λ _. refl) c.args.tx.now.conn.now c.find.new.tx.conn.now IsEmployerRow c.find.result (rw c.employer.ensures at c.find.ensures.looks)
