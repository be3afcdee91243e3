use Rattle.std.proofs.Common.{[], ◌∷◌, rules}
use Rattle.clear_values.specs.Keyed.{find_row}
use Rattle.clear_values.specs.RowRanges.{IsRunRow}
use Rattle.clear_values.specs.Tables.{run_key}
use Rattle.clear_schema.specs.Values.{run_shown}
use Rattle.clear_reading.proofs.FirstLemmas.{one_in_range, tells_one}
use Rattle.clear_reading.proofs.look.find_run.Goals as goal

pub returns-in-Ok-clause-tells : goal.returns-in-Ok-clause-tells
returns-in-Ok-clause-tells g c =
    tells_one g.S.Store _ run_shown IsRunRow c.args.conn.now c.in-Ok.rows.conn.now c.first_row.new.rows.conn.now _ (λ t. find_row run_key t.runs (c.args.run ∷ [])) c.first_row.result (search rules) c.in-Ok.ensures.begun c.first_row.ensures.tells
    (λ t ranges. one_in_range run_key IsRunRow t.runs (c.args.run ∷ []) ranges.runs)
