use Rattle.std.proofs.Common.{refl}
use Rattle.std.proofs.lemmas.Result.{err_from_is_err_and}
use Rattle.clear_values.specs.Keyed.{find_row}
use Rattle.clear_values.specs.Tables.{charge_key}
use Rattle.clear_store.proofs.JoinLemmas.{first_failed, put_by, put_then, turned}
use Rattle.clear_store.proofs.RowLemmas.{not_held}
use Rattle.clear_store.proofs.month_report.add_report.Goals as goal

pub returns-clause-puts : goal.returns-clause-puts
returns-clause-puts g c =
    put_then (put_by c.in_ok-insert_charge.ensures.writes (λ t. not_held (find_row charge_key t.charges (charge_key c.args.charge.now)))) c.insert_month.ensures.puts
    (λ t is. tt) (λ t is. refl) (λ t. turned) turned

pub returns-in_err-insert_charge-clause-puts : goal.returns-in_err-insert_charge-clause-puts
returns-in_err-insert_charge-clause-puts g c =
    let p = err_from_is_err_and c.from_residual.result c.from_residual.ensures.1 in
    rw (p.1, p.2) (first_failed (put_by c.in_err-insert_charge.ensures.writes (λ t. not_held (find_row charge_key t.charges (charge_key c.args.charge.now)))) (λ t free. free.1) (λ good. good.1))
