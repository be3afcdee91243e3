use Rattle.std.proofs.Common.{refl}
use Rattle.std.proofs.lemmas.Result.{err_from_is_err_and}
use Rattle.clear_store.proofs.JoinLemmas.{first_alone, first_failed, not_put, put_then, turned}
use Rattle.clear_store.proofs.claims.put_release.Goals as goal

pub returns-clause-puts : goal.returns-clause-puts
returns-clause-puts g c =
    put_then (rw (c.as_slice.ensures.value, c.in_ok-credits.ensures.value) at c.in_ok-put_each.ensures.puts) c.put_claim.ensures.puts
    (λ t there. there) (λ t there. refl) (λ t. first_alone) turned

pub returns-in_err-credits-clause-puts : goal.returns-in_err-credits-clause-puts
returns-in_err-credits-clause-puts g c =
    let p = err_from_is_err_and c.from_residual.result c.from_residual.ensures.1 in
    rw (p.1, p.2) (not_put c.in_err-credits.ensures.cause (λ told good. c.in_err-credits.ensures.range told good.0))

pub returns-in_err-put_each-clause-puts : goal.returns-in_err-put_each-clause-puts
returns-in_err-put_each-clause-puts g c =
    let p = err_from_is_err_and c.from_residual-in_err-put_each.result c.from_residual-in_err-put_each.ensures.1 in
    rw (p.1, p.2) (first_failed (rw (c.as_slice.ensures.value, c.in_ok-credits.ensures.value) at c.in_err-put_each.ensures.puts) (λ t free. free) (λ good. good.1))
