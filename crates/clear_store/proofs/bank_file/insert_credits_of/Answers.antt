use Rattle.std.proofs.lemmas.Result.{err_from_is_err_and}
use Rattle.clear_store.proofs.JoinLemmas.{not_put}
use Rattle.clear_store.proofs.bank_file.insert_credits_of.Goals as goal

pub returns-clause-puts : goal.returns-clause-puts
returns-clause-puts g c = rw (c.as_slice.ensures.value, c.in_ok-credits.ensures) at c.put_each.ensures.puts

pub returns-in_err-credits-clause-puts : goal.returns-in_err-credits-clause-puts
returns-in_err-credits-clause-puts g c =
    let p = err_from_is_err_and c.from_residual.result c.from_residual.ensures.1 in
    rw (p.1, p.2) (not_put (λ told. cc) (λ told. absurd cc))
