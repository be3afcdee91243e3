use Rattle.std.proofs.Common.{List, ap}
use Rattle.std.proofs.lemmas.Result.{err_from_is_err_and}
use Rattle.clear_values.specs.Keyed.{find_row, with_row}
use Rattle.clear_values.specs.Tables.{claim_key, list_key}
use Rattle.clear_values.specs.declared.rows.ClaimRow.{ClaimRow}
use Rattle.clear_store.proofs.JoinLemmas.{each, first_alone, first_failed, put_by, put_then}
use Rattle.clear_store.proofs.PutLemmas.{replaced_there}
use Rattle.clear_store.proofs.RowLemmas.{not_held}
use Rattle.clear_store.proofs.lists.add_list.Goals as goal

pub returns-clause-puts : goal.returns-clause-puts
returns-clause-puts g c =
    put_then (put_by c.in_ok-insert_list.ensures.writes (λ t. not_held (find_row list_key t.lists (list_key c.args.row.now)))) c.put_each.ensures.puts
    (λ t there. tt) (λ t there. ap (λ (claims : List ClaimRow). record t { lists = with_row list_key t.lists c.args.row.now; claims = claims }) (replaced_there claim_key t.claims c.args.claims.now there.0)) (λ t. first_alone) each

pub returns-in_err-insert_list-clause-puts : goal.returns-in_err-insert_list-clause-puts
returns-in_err-insert_list-clause-puts g c =
    let p = err_from_is_err_and c.from_residual.result c.from_residual.ensures.1 in
    rw (p.1, p.2) (first_failed (put_by c.in_err-insert_list.ensures.writes (λ t. not_held (find_row list_key t.lists (list_key c.args.row.now)))) (λ t free. free) (λ good. good.0))
