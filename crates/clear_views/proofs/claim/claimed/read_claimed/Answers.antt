use Rattle.std.proofs.Common.{◌≡◌, ◌==◌, ◌∙◌, cond, true, false, List, sum_by, ap, arith}
use Rattle.std.proofs.lemmas.Result.{err_from_is_err_and}
use Rattle.sqlite_trees.proofs.ListLemmas.{all-filter}
use Rattle.clear_book.specs.RowRanges.{IsClaimRow}
use Rattle.clear_book.specs.Workers.{is_withdrawn}
use Rattle.clear_book.specs.declared.rows.ClaimRow.{ClaimRow}
use Rattle.clear_views.proofs.ClaimLemmas.{claims_counted}
use Rattle.clear_views.proofs.claim.claimed.read_claimed.Goals as goal

pub returns-in-Some-clause-claimed : goal.returns-in-Some-clause-claimed
returns-in-Some-clause-claimed g c clean t has =
    c.in-Some.ensures.value
    ∙ ap (λ (rows : List ClaimRow). sum_by (λ row. cond (is_withdrawn row.state) 0 row.cents) rows) (c.as_slice.ensures.value ∙ c.in_ok-rows.ensures.looks.found clean t has)
    ∙ claims_counted c.args.worker t.claims

pub returns-clause-fault : goal.returns-clause-fault
returns-clause-fault g c clean t has within below =
    let sum =
    ap (λ (rows : List ClaimRow). sum_by (λ row. cond (is_withdrawn row.state) 0 row.cents) rows) (c.as_slice.ensures.value ∙ c.in_ok-rows.ensures.looks.found clean t has)
    ∙ claims_counted c.args.worker t.claims in
    let no : false ≡ true = c.in-None.ensures.some (omega (arith, sum, below)) in
    absurd (cc no)

pub returns-in_err-rows-clause-fault : goal.returns-in_err-rows-clause-fault
returns-in_err-rows-clause-fault g c clean t has within below =
    let p = err_from_is_err_and c.from_residual.result c.from_residual.ensures.1 in
    rw (p.1, p.2) (
      c.in_err-rows.ensures.looks.cause clean t has,
      λ told. c.in_err-rows.ensures.looks.range clean t has told (all-filter IsClaimRow (λ row. row.worker == c.args.worker) t.claims within.claims),
    )
