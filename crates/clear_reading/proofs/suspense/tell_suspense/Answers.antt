use Rattle.std.proofs.Common.{rules}
use Rattle.clear_schema.specs.Values.{bank_shown}
use Rattle.clear_reading.proofs.TellingLemmas.{tells_only, tells_tables}
use Rattle.clear_reading.proofs.SuspenseLemmas.{addable}
use Rattle.clear_reading.proofs.suspense.tell_suspense.Goals as goal

pub returns-in-Ok-clause-tells : goal.returns-in-Ok-clause-tells
returns-in-Ok-clause-tells g c =
    tells_tables g.S.Store _ bank_shown c.args.conn.now c.in-Ok.rows.conn.now c.tell_rows.new.rows.conn.now _ _ _ _ _ c.tell_rows.result (search rules) c.in-Ok.ensures.begun c.tell_rows.ensures.tells
    (λ t ranges few. addable t.bank ranges.bank few)

pub returns-in-Ok-clause-only : goal.returns-in-Ok-clause-only
returns-in-Ok-clause-only g c =
    tells_only g.S.Store bank_shown c.args.conn.now c.in-Ok.rows.conn.now c.tell_rows.new.rows.conn.now _ _ _ _ c.tell_rows.result (search rules) c.in-Ok.ensures.begun c.tell_rows.ensures.tells.survives c.tell_rows.ensures.only
    (λ t right. right)
