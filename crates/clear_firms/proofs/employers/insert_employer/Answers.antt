use Rattle.std.proofs.Common.{refl}
use Rattle.clear_columns.proofs.NumberedTable.{puts}
use Rattle.clear_firms.proofs.EmployerTable.{employers, insert_says}
use Rattle.clear_firms.proofs.employers.insert_employer.Goals as goal

pub returns-clause-writes : goal.returns-clause-writes
returns-clause-writes g c = puts employers g.S.Store c.args.tx.now.conn.now c.put.new.tx.conn.now insert_says c.args.row.now refl (λ xs. tt) c.put.result _ tt (rw c.employer_values.ensures at c.put.ensures.runs)
