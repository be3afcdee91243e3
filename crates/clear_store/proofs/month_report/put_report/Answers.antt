use Rattle.std.proofs.Common.{refl}
use Rattle.std.proofs.lemmas.Result.{err_from_is_err_and}
use Rattle.clear_store.proofs.JoinLemmas.{first_failed, put_by, put_then, second_alone, turned}
use Rattle.clear_store.proofs.RowLemmas.{no_key}
use Rattle.clear_store.proofs.month_report.put_report.Goals as goal

pub returns-clause-puts : goal.returns-clause-puts
returns-clause-puts g c =
    put_then (put_by c.in_ok-correct_charge.ensures.writes (λ t. no_key)) c.replace_month.ensures.puts
    (λ t there. there.0) (λ t there. refl) (λ t. second_alone) turned

pub returns-in_err-correct_charge-clause-puts : goal.returns-in_err-correct_charge-clause-puts
returns-in_err-correct_charge-clause-puts g c =
    let p = err_from_is_err_and c.from_residual.result c.from_residual.ensures.1 in
    rw (p.1, p.2) (first_failed (put_by c.in_err-correct_charge.ensures.writes (λ t. no_key)) (λ t free. tt) (λ good. good.1))
