use Rattle.std.proofs.Common.{rules}
use Rattle.clear_values.specs.RowRanges.{IsEmployerRow}
use Rattle.clear_schema.specs.Values.{employer_shown}
use Rattle.clear_reading.proofs.TellingLemmas.{nothing_added, tells_tables}
use Rattle.clear_reading.proofs.row_counts.count_firms.Goals as goal

pub returns-in-Ok-clause-tells : goal.returns-in-Ok-clause-tells
returns-in-Ok-clause-tells g c =
    tells_tables g.S.Store _ employer_shown c.args.conn.now c.in-Ok.rows.conn.now c.count_rows.new.rows.conn.now _ _ _ _ _ c.count_rows.result (search rules) c.in-Ok.ensures.begun c.count_rows.ensures.tells
    (λ t ranges right. nothing_added IsEmployerRow t.employers ranges.employers)
