use Rattle.std.proofs.Common.{rules}
use Rattle.clear_schema.specs.Values.{bank_shown}
use Rattle.clear_reading.proofs.SuspenseLemmas.{lines_addable}
use Rattle.clear_reading.proofs.TellingLemmas.{tells_tables}
use Rattle.clear_reading.proofs.row_counts.count_lines.Goals as goal

pub returns-in-Ok-clause-tells : goal.returns-in-Ok-clause-tells
returns-in-Ok-clause-tells g c =
    tells_tables g.S.Store _ bank_shown c.args.conn.now c.in-Ok.rows.conn.now c.count_rows.new.rows.conn.now _ _ _ _ _ c.count_rows.result (search rules) c.in-Ok.ensures.begun c.count_rows.ensures.tells
    (λ t ranges few. lines_addable t.bank ranges.bank few)
