use Rattle.std.proofs.Common.{◌≡◌, ◌++◌, ap₂, ◌∙◌}
use Rattle.std.proofs.lemmas.List.{take-append-drop}
use Rattle.std.proofs.lemmas.Result.{err_from_is_err_and}
use Rattle.clear_store.proofs.EachLemmas.{some_more, some_refused}
use Rattle.clear_store.proofs.PartLemmas.{gross_by_parts, wages_by_parts, wages_free_by_parts}
use Rattle.clear_store.proofs.month_report.insert_wages.Goals as goal

pub tens-preserved : goal.tens-preserved
tens-preserved g c =
    let ten = c.split_at.result.0.now in
    let more = c.split_at.result.1.now in
    let whole : ten ++ more ≡ c.tens.rest.now = ap₂ (λ xs ys. xs ++ ys) c.split_at.ensures.front c.split_at.ensures.back ∙ take-append-drop 10 c.tens.rest.now in
    record {
      same_reference = c.insert_ten_wages.ensures.same_reference ∙ c.tens.invariant.same_reference;
      left = some_more ten more whole c.tens.invariant.left c.in_ok-insert_ten_wages.ensures.writes (wages_by_parts c.args.no c.args.month ten more) (wages_free_by_parts c.args.no c.args.month ten more) (gross_by_parts ten more);
    }

pub returns-in_err-insert_ten_wages-clause-puts : goal.returns-in_err-insert_ten_wages-clause-puts
returns-in_err-insert_ten_wages-clause-puts g c =
    let ten = c.split_at.result.0.now in
    let more = c.split_at.result.1.now in
    let whole : ten ++ more ≡ c.tens.rest.now = ap₂ (λ xs ys. xs ++ ys) c.split_at.ensures.front c.split_at.ensures.back ∙ take-append-drop 10 c.tens.rest.now in
    let p = err_from_is_err_and c.from_residual.result c.from_residual.ensures.1 in
    rw (p.1, p.2) (some_refused ten more whole c.tens.invariant.left c.in_err-insert_ten_wages.ensures.writes (wages_free_by_parts c.args.no c.args.month ten more) (gross_by_parts ten more))
