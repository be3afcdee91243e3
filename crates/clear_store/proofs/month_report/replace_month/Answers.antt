use Rattle.std.proofs.Common.{ap, cond}
use Rattle.std.proofs.lemmas.Result.{err_from_is_err_and}
use Rattle.clear_values.specs.Keyed.{put_row}
use Rattle.clear_values.specs.Tables.{report_key, with_wages}
use Rattle.clear_store.proofs.JoinLemmas.{each, first_failed, put_by, put_then, second_alone}
use Rattle.clear_store.proofs.RowLemmas.{no_key}
use Rattle.clear_store.proofs.month_report.replace_month.Goals as goal

pub returns-clause-puts : goal.returns-clause-puts
returns-clause-puts g c =
    put_then (put_by c.in_ok-replace_report.ensures.writes (λ t. no_key)) c.replace_wages.ensures.puts
    (λ t is. tt) (λ t there. ap (λ b. record t { reports = cond b (put_row report_key t.reports c.args.row.now) t.reports; wages = with_wages c.args.row.now.employer c.args.row.now.month c.args.lines.now t.wages }) there) (λ t. second_alone) each

pub returns-in_err-replace_report-clause-puts : goal.returns-in_err-replace_report-clause-puts
returns-in_err-replace_report-clause-puts g c =
    let p = err_from_is_err_and c.from_residual.result c.from_residual.ensures.1 in
    rw (p.1, p.2) (first_failed (put_by c.in_err-replace_report.ensures.writes (λ t. no_key)) (λ t free. tt) (λ good. good.0))
