use Rattle.std.proofs.Common.{[], ◌∷◌, refl}
use Rattle.clear_columns.proofs.ReadingLemmas.{begins_on}
use Rattle.std.specs.Option.{option_to_list}
use Rattle.clear_values.specs.Keyed.{find_row}
use Rattle.clear_values.specs.Tables.{run_key}
use Rattle.clear_columns.proofs.NumberedTable.{answers_one}
use Rattle.clear_ledger.proofs.RunTable.{get_says, runs}
use Rattle.clear_schema.specs.Values.{run_shown}
use Rattle.clear_ledger.proofs.runs.read_run.Goals as goal

pub returns : goal.returns
returns g c =
    let it = begins_on g.S.Store c.args.conn.now _ _ _ _ run_shown (λ t. option_to_list (find_row run_key t.runs (c.args.run ∷ []))) (λ t has. answers_one runs g.S.Store get_says c.args.run (λ _. refl) t _ has) c.begin_rows.result c.begin_rows.follows.holds-at-none (rw (c.number.ensures, c.from.ensures) at c.begin_rows.ensures.begun) in
    ((refl, c.begin_rows.follows.holds, it.0), record { refused = tt; same_reference = c.begin_rows.ensures.same_reference; begun = it.1 })
