use Rattle.std.proofs.Common.{arith, refl, rules, true}
use Rattle.clear_columns.proofs.NumberedTable.{sets}
use Rattle.clear_schema.specs.Values.{counts_shown}
use Rattle.clear_firms.specs.Counts.{AreCountable}
use Rattle.clear_firms.proofs.CountsTable.{counts, is_one, update_says}
use Rattle.clear_firms.proofs.counts.put_counts.Goals as goal

pub returns-clause-writes : goal.returns-clause-writes
returns-clause-writes g c =
    let next = c.args.counts.now in
    let within : AreCountable c.args.counts.now = search rules in
    sets counts g.S.Store c.args.tx.now.conn.now c.put.new.tx.conn.now update_says (counts_shown next) (λ x. true) (λ x. next) (λ _. refl) (is_one (counts_shown next)) (λ _. refl) (λ t db has. omega arith) (λ t. (next, refl))
    c.put.result _ within (rw c.counts_values.ensures at c.put.ensures.runs)
