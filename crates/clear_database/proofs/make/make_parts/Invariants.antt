use Rattle.std.proofs.Common.{◌≡◌, ◌<◌, IsTrue}
use Rattle.sqlite.specs.Effect.{IsDatabase}
use Rattle.sqlite.specs.Held.{state}
use Rattle.sqlite.specs.State.{HasCleanDisk, KeepsCommit, Survives}
use Rattle.clear_database.specs.Making.{IsMade}
use Rattle.clear_schema.specs.Schema.{no_schema}
use Rattle.clear_database.proofs.MakeLemmas.{with_first}
use Rattle.clear_database.proofs.make.make_parts.Given as goal

abbrev pub invariant-loop-text : goal.invariant-loop-text
invariant-loop-text g l = record {
  same_reference : l.tx.conn.ghost_name ≡ l.fn.tx.conn.ghost_name;
  made : HasCleanDisk (state g.S.Store l.tx.conn.now) → (state g.S.Store l.fn.tx.conn.now).now.schema ≡ no_schema → IsMade (with_first l.text-index) (state g.S.Store l.tx.conn.now).now;
  sound : HasCleanDisk (state g.S.Store l.tx.conn.now) → (state g.S.Store l.fn.tx.conn.now).now.schema ≡ no_schema → 0 < l.text-index → IsDatabase (state g.S.Store l.tx.conn.now).now;
  kept : HasCleanDisk (state g.S.Store l.tx.conn.now) → KeepsCommit (state g.S.Store l.fn.tx.conn.now) (state g.S.Store l.tx.conn.now);
  goes_on : HasCleanDisk (state g.S.Store l.tx.conn.now) → 0 < l.text-index → IsTrue l.tx.conn.now.in_transaction;
  survives : Survives (state g.S.Store l.fn.tx.conn.now) (state g.S.Store l.tx.conn.now) (λ _. ⊥);
}
