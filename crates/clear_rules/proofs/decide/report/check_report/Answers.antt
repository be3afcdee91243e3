use Rattle.std.proofs.Common.{inr, ◌∷◌}
use Rattle.std.proofs.lemmas.Result.{err_from_is_err_and}
use Rattle.std.specs.Option.{option_map}
use Rattle.clear_book.specs.Own.Lines.{month_rules, size_rules, twice_rule, worker_twice}
use Rattle.clear_book.specs.Own.Report.{exists_rule}
use Rattle.clear_book.specs.Tables.{member_in}
use Rattle.clear_rules.proofs.ReportLemmas.{first_kept}
use Rattle.clear_rules.proofs.decide.report.check_report.Goals as goal

pub returns-in_err-check_month-clause-rule : goal.returns-in_err-check_month-clause-rule
returns-in_err-check_month-clause-rule c =
    let p = err_from_is_err_and c.from_residual.result c.from_residual.ensures.1 in
    rw (p.1, p.2) (let report = c.args.report.now in
    let view = c.args.view.now in
    inr (first_kept (month_rules (option_map member_in view.member) c.args.day report.month)
    (exists_rule view.version ∷ twice_rule (worker_twice report.lines) ∷ size_rules report.lines)
    _ c.in_err-check_month.ensures))
