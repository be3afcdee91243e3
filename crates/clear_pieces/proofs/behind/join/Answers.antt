use Rattle.std.proofs.Common.{◌∙◌, ◌++◌, ◌∷◌, ◌≤◌, [], length, sym, arith}
use Rattle.std.proofs.lemmas.Result.{err_from_is_err_and}
use Rattle.std.proofs.lemmas.List.{take_all}
use Rattle.clear_pieces.specs.Behind.{paid_rows}
use Rattle.clear_pieces.proofs.PaidLemmas.{as_many, joined_good, joined_more}
use Rattle.clear_pieces.proofs.behind.join.Goals as goal

pub loop-place-preserved : goal.loop-place-preserved
loop-place-preserved c =
    c.in_ok-push.ensures.items
    ∙ (λ i. c.loop-place.invariant i ++ c.in_ok-row.ensures.row i ∷ [])
    ∙ sym (joined_more c.args.kept.now c.args.paid.now c.requires c.loop-place.place c.index-kept-place.result c.index-paid-place.result c.loop-place-test.true c.index-kept-place.is c.index-paid-place.is)

pub returns-in_err-row-clause-fault : goal.returns-in_err-row-clause-fault
returns-in_err-row-clause-fault c all =
    let p = err_from_is_err_and c.from_residual.result c.from_residual.ensures.1 in
    rw (p.1, p.2) (c.in_err-row.ensures.fault (joined_good c.args.kept.now c.args.paid.now c.requires c.loop-place.place c.index-kept-place.result c.index-paid-place.result c.loop-place-test.true c.index-kept-place.is c.index-paid-place.is all))

pub returns-clause-rows : goal.returns-clause-rows
returns-clause-rows c =
    let past : length (paid_rows c.args.kept.now c.args.paid.now) ≤ c.loop-place.place = omega (arith, c.loop-place-test.false, as_many c.args.kept.now c.args.paid.now c.requires) in
    c.loop-place.invariant ∙ take_all c.loop-place.place (paid_rows c.args.kept.now c.args.paid.now) past
