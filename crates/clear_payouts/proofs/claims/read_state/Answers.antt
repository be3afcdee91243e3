use Rattle.std.proofs.lemmas.Result.{err_from_is_err_and}
use Rattle.clear_payouts.proofs.claims.read_state.Goals as goal

pub returns-in_err-columns-clause-range : goal.returns-in_err-columns-clause-range
returns-in_err-columns-clause-range c =
    let p = err_from_is_err_and c.from_residual.result c.from_residual.ensures.1 in
    rw (p.1, p.2) (λ told x same is. c.in_err-columns.ensures.range told x same c.args.cents is)
