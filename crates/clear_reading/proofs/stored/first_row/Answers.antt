use Rattle.clear_reading.proofs.ReadLemmas.{tells_first}
use Rattle.clear_reading.proofs.stored.first_row.Goals as goal

pub returns-clause-tells : goal.returns-clause-tells
returns-clause-tells g c = tells_first g.S.Store g.T.StoredTable.shown g.T.StoredTable.is_in_range c.args.rows.now.conn.now c.next_row.new.rows.conn.now c.next_row.result c.next_row.ensures.advances
