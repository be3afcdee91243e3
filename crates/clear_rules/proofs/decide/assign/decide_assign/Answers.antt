use Rattle.std.proofs.Common.{sym, ◌∙◌}
use Rattle.clear_laws.proofs.AssignTablesLemmas.{Stands-assigned}
use Rattle.clear_rules.proofs.decide.assign.decide_assign.Goals as goal

pub returns-clause-change : goal.returns-clause-change
returns-clause-change c b day is = λ t caller number lawful stands judged.
    Stands-assigned b t stands caller number day c.args.assignment.now _ judged c.in-Some.line (sym is.line_is ∙ c.in-Some.is)
