use Rattle.std.proofs.Common.{◌∙◌, ◌+◌, ◌∷◌, [], drop}
use Rattle.std.proofs.lemmas.List.{drop_all}
use Rattle.std.proofs.lemmas.Result.{err_from_is_err_and}
use Rattle.clear_store.proofs.EachLemmas.{all_put, from_row, some_more, some_refused}
use Rattle.clear_store.proofs.JoinLemmas.{each}
use Rattle.clear_store.proofs.each.put_each.Goals as goal

pub loop-row-preserved : goal.loop-row-preserved
loop-row-preserved g c =
    let it = c.args.table.now in
    let row = c.row-item.result in
    let rest = drop (c.loop-row.row-index + 1) c.args.rows.now in
    let whole = from_row c.args.rows.now c.loop-row.row-index row c.loop-row-test.true c.row-item.is in
    record {
      same_reference = c.put.ensures.same_reference ∙ c.loop-row.invariant.same_reference;
      left = some_more (row ∷ []) rest whole c.loop-row.invariant.left c.in_ok-put.ensures.writes (λ t. (g.met.T.PutTable.first it row rest t).0) (λ t. (g.met.T.PutTable.first it row rest t).1) each;
    }

pub returns-in_err-put-clause-puts : goal.returns-in_err-put-clause-puts
returns-in_err-put-clause-puts g c =
    let it = c.args.table.now in
    let row = c.row-item.result in
    let rest = drop (c.loop-row.row-index + 1) c.args.rows.now in
    let whole = from_row c.args.rows.now c.loop-row.row-index row c.loop-row-test.true c.row-item.is in
    let p = err_from_is_err_and c.from_residual.result c.from_residual.ensures.1 in
    rw (p.1, p.2) (some_refused (row ∷ []) rest whole c.loop-row.invariant.left c.in_err-put.ensures.writes (λ t. (g.met.T.PutTable.first it row rest t).1) each)

pub returns-clause-puts : goal.returns-clause-puts
returns-clause-puts g c =
    all_put (drop_all c.loop-row.row-index c.args.rows.now c.loop-row-test.false) c.loop-row.invariant.left (λ t. (g.met.T.PutTable.nothing c.args.table.now t).0) (λ t. (g.met.T.PutTable.nothing c.args.table.now t).1) tt
