use Rattle.std.proofs.Common.{rules}
use Rattle.clear_schema.specs.Values.{piece_shown}
use Rattle.clear_reading.proofs.TellingLemmas.{tells_only, tells_tables}
use Rattle.clear_reading.proofs.statement.tell_statement.Goals as goal

pub returns-in-Ok-clause-tells : goal.returns-in-Ok-clause-tells
returns-in-Ok-clause-tells g c =
    tells_tables g.S.Store _ piece_shown c.args.conn.now c.in-Ok.rows.conn.now c.tell_rows.new.rows.conn.now _ _ _ _ _ c.tell_rows.result (search rules) c.in-Ok.ensures.begun c.tell_rows.ensures.tells
    (λ t ranges right. right)

pub returns-in-Ok-clause-only : goal.returns-in-Ok-clause-only
returns-in-Ok-clause-only g c =
    tells_only g.S.Store piece_shown c.args.conn.now c.in-Ok.rows.conn.now c.tell_rows.new.rows.conn.now _ _ _ _ c.tell_rows.result (search rules) c.in-Ok.ensures.begun c.tell_rows.ensures.tells.survives c.tell_rows.ensures.only
    (λ t right. right)
