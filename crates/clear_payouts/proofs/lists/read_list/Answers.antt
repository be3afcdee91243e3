use Rattle.std.proofs.Common.{[], ◌∷◌, refl}
use Rattle.clear_columns.proofs.ReadingLemmas.{begins_on}
use Rattle.std.specs.Option.{option_to_list}
use Rattle.clear_values.specs.Keyed.{find_row}
use Rattle.clear_values.specs.Tables.{list_key}
use Rattle.clear_columns.proofs.NumberedTable.{answers_one}
use Rattle.clear_payouts.proofs.ListTable.{get_says, lists}
use Rattle.clear_schema.specs.Values.{list_shown}
use Rattle.clear_payouts.proofs.lists.read_list.Goals as goal

pub returns : goal.returns
returns g c =
    let it = begins_on g.S.Store c.args.conn.now _ _ _ _ list_shown (λ t. option_to_list (find_row list_key t.lists (c.args.list ∷ []))) (λ t has. answers_one lists g.S.Store get_says c.args.list (λ _. refl) t _ has) c.begin_rows.result c.begin_rows.follows.holds-at-none (rw (c.number.ensures, c.from.ensures) at c.begin_rows.ensures.begun) in
    ((refl, c.begin_rows.follows.holds, it.0), record { refused = tt; same_reference = c.begin_rows.ensures.same_reference; begun = it.1 })
