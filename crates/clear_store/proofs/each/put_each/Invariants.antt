use Rattle.std.proofs.Common.{◌≡◌, drop}
use Rattle.std.specs.List.{AllByRecursion}
use Rattle.clear_store.proofs.EachLemmas.{AreLeft}
use Rattle.clear_store.proofs.each.put_each.Given as goal

abbrev pub invariant-loop-row : goal.invariant-loop-row
invariant-loop-row g l = record {
  same_reference : l.tx.conn.ghost_name ≡ l.fn.tx.conn.ghost_name;
  left : AreLeft g.S.Store (g.T.PutTable.are_free l.table) (AllByRecursion g.T.PutTable.fits) (g.T.PutTable.with_all l.table) l.rows (drop l.row-index l.rows) l.fn.tx.conn.now l.tx.conn.now;
}
