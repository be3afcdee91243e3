use Rattle.std.proofs.Common.{refl}
use Rattle.clear_columns.proofs.NumberedTable.{replaces}
use Rattle.clear_firms.proofs.EmployerTable.{employers, update_says}
use Rattle.clear_firms.proofs.employers.replace_employer.Goals as goal

pub returns-clause-writes : goal.returns-clause-writes
returns-clause-writes g c =
    let row = c.args.row.now in
    replaces employers row _ refl (λ n. record row { employer = n }) (λ _. refl) refl g.S.Store c.args.tx.now.conn.now c.put.new.tx.conn.now update_says (λ _. refl) (λ _. tt) c.put.result _ tt (rw c.employer_values.ensures at c.put.ensures.runs)
