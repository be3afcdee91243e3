use Rattle.std.proofs.Common.{◌≡◌, length}
use Rattle.clear_values.specs.Keyed.{with_rows}
use Rattle.clear_values.specs.Tables.{wage_key, wage_rows}
use Rattle.clear_store.specs.Changes.{AreFree, AreGross}
use Rattle.clear_store.proofs.EachLemmas.{AreLeft}
use Rattle.clear_store.proofs.month_report.insert_wages.Given as goal

abbrev pub invariant-tens : goal.invariant-tens
invariant-tens g l = record {
  same_reference : l.tx.conn.ghost_name ≡ l.fn.tx.conn.ghost_name;
  left : AreLeft g.S.Store (λ lines t. AreFree wage_key t.wages (wage_rows l.no l.month lines)) AreGross (λ lines t. record t { wages = with_rows wage_key t.wages (wage_rows l.no l.month lines) }) l.lines l.rest l.fn.tx.conn.now l.tx.conn.now;
}

abbrev pub decreases-tens : goal.decreases-tens
decreases-tens g l = length l.rest
