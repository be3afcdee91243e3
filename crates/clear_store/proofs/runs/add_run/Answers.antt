use Rattle.std.proofs.Common.{refl}
use Rattle.std.proofs.lemmas.Result.{err_from_is_err_and}
use Rattle.clear_values.specs.Keyed.{find_row}
use Rattle.clear_values.specs.Tables.{run_key}
use Rattle.clear_store.proofs.JoinLemmas.{each, first_failed, put_by, put_then}
use Rattle.clear_store.proofs.RowLemmas.{not_held}
use Rattle.clear_store.proofs.runs.add_run.Goals as goal

pub returns-clause-puts : goal.returns-clause-puts
returns-clause-puts g c =
    put_then (put_by c.in_ok-insert_run.ensures.writes (λ t. not_held (find_row run_key t.runs (run_key c.args.row.now)))) c.put_each.ensures.puts
    (λ t is. tt) (λ t is. refl) (λ t. each) each

pub returns-in_err-insert_run-clause-puts : goal.returns-in_err-insert_run-clause-puts
returns-in_err-insert_run-clause-puts g c =
    let p = err_from_is_err_and c.from_residual.result c.from_residual.ensures.1 in
    rw (p.1, p.2) (first_failed (put_by c.in_err-insert_run.ensures.writes (λ t. not_held (find_row run_key t.runs (run_key c.args.row.now)))) (λ t free. free.0) (λ good. good.0))
