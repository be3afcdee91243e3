use Rattle.std.proofs.Common.{◌≡◌, [], take, IsTrue}
use Rattle.sqlite.specs.Held.{state}
use Rattle.sqlite.specs.State.{HasCleanDisk, KeepsCommit, Survives}
use Rattle.clear_database.specs.First.{first_tables}
use Rattle.clear_schema.specs.Held.{HasTables}
use Rattle.clear_database.proofs.create.put_rates.Given as goal

abbrev pub invariant-loop-row : goal.invariant-loop-row
invariant-loop-row g l = record {
  same_reference : l.tx.conn.ghost_name ≡ l.fn.tx.conn.ghost_name;
  put : HasCleanDisk (state g.S.Store l.tx.conn.now) → HasTables (first_tables []) (state g.S.Store l.fn.tx.conn.now).now → HasTables (first_tables (take l.row-index l.rows)) (state g.S.Store l.tx.conn.now).now;
  kept : HasCleanDisk (state g.S.Store l.tx.conn.now) → KeepsCommit (state g.S.Store l.fn.tx.conn.now) (state g.S.Store l.tx.conn.now);
  goes_on : HasCleanDisk (state g.S.Store l.tx.conn.now) → IsTrue l.fn.tx.conn.now.in_transaction → IsTrue l.tx.conn.now.in_transaction;
  survives : Survives (state g.S.Store l.fn.tx.conn.now) (state g.S.Store l.tx.conn.now) (λ _. ⊥);
}
