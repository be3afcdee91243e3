use Rattle.std.proofs.Common.{◌∙◌}
use Rattle.clear_book.specs.Accounts.{kept_charge}
use Rattle.clear_laws.proofs.ReportTablesLemmas.{Stands-reported}
use Rattle.clear_rules.proofs.decide.report.decide_report.Goals as goal

pub returns-clause-change : goal.returns-clause-change
returns-clause-change c b is = λ t caller number lawful stands judged.
    let report = c.args.report.now in
    Stands-reported b t lawful stands caller number c.args.day report _ judged c.in-Ok.copied c.in-Ok.ensures
    c.kept_charge-charge.result (c.kept_charge-charge.ensures.value ∙ (λ i. kept_charge (is.row_is i) report.employer report.month (c.as_slice-lines.ensures i)))
