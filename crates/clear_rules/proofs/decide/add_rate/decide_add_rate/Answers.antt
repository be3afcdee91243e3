use Rattle.clear_laws.proofs.RateTablesLemmas.{Stands-rate_added}
use Rattle.clear_rules.proofs.decide.add_rate.decide_add_rate.Goals as goal

pub returns-clause-change : goal.returns-clause-change
returns-clause-change c b = λ t caller number lawful stands judged.
    Stands-rate_added b t stands caller number c.args.day lawful c.args.row _ judged
