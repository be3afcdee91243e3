use Rattle.std.proofs.Common.{[], ◌∷◌, rules}
use Rattle.clear_values.specs.Keyed.{find_row}
use Rattle.clear_values.specs.RowRanges.{IsListRow}
use Rattle.clear_values.specs.Tables.{list_key}
use Rattle.clear_schema.specs.Values.{list_shown}
use Rattle.clear_reading.proofs.FirstLemmas.{one_in_range, tells_one}
use Rattle.clear_reading.proofs.look.find_list.Goals as goal

pub returns-in-Ok-clause-tells : goal.returns-in-Ok-clause-tells
returns-in-Ok-clause-tells g c =
    tells_one g.S.Store _ list_shown IsListRow c.args.conn.now c.in-Ok.rows.conn.now c.first_row.new.rows.conn.now _ (λ t. find_row list_key t.lists (c.args.list ∷ [])) c.first_row.result (search rules) c.in-Ok.ensures.begun c.first_row.ensures.tells
    (λ t ranges. one_in_range list_key IsListRow t.lists (c.args.list ∷ []) ranges.lists)
