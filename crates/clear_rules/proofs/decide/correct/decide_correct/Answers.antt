use Rattle.std.proofs.Common.{◌∙◌}
use Rattle.clear_book.specs.Accounts.{kept_charge}
use Rattle.clear_laws.proofs.ReportTablesLemmas.{Stands-corrected}
use Rattle.clear_rules.proofs.decide.correct.decide_correct.Goals as goal

pub returns-clause-change : goal.returns-clause-change
returns-clause-change c b is = λ t caller number lawful stands judged.
    let report = c.args.correction.now.report in
    Stands-corrected b t lawful stands caller number c.args.day c.args.correction.now _ judged c.in_ok-version.version c.in_ok-version.ensures.version c.in-Ok.copied c.in-Ok.ensures
    c.kept_charge-charge.result (c.kept_charge-charge.ensures.value ∙ (λ i. kept_charge (is.row_is i) report.employer report.month (c.as_slice-lines.ensures i)))
