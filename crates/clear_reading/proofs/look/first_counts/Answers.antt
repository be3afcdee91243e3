use Rattle.std.proofs.Common.{rules}
use Rattle.clear_schema.specs.Values.{counts_shown}
use Rattle.clear_firms.proofs.CountsTable.{counts_in_range}
use Rattle.clear_reading.proofs.TellingLemmas.{tells_tables}
use Rattle.clear_reading.proofs.look.first_counts.Goals as goal

pub returns-in-Ok-clause-tells : goal.returns-in-Ok-clause-tells
returns-in-Ok-clause-tells g c =
    tells_tables g.S.Store _ counts_shown c.args.conn.now c.in-Ok.rows.conn.now c.first_row.new.rows.conn.now _ _ _ _ _ c.first_row.result (search rules) c.in-Ok.ensures.begun c.first_row.ensures.tells
    (λ t ranges right. (counts_in_range t ranges, tt))
