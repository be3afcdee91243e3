use Rattle.clear_laws.proofs.TablesLemmas.{Stands-registered}
use Rattle.clear_rules.proofs.decide.register.decide_register.Goals as goal

pub returns-clause-change : goal.returns-clause-change
returns-clause-change c b = λ t caller number lawful stands judged.
    Stands-registered b t stands caller number c.args.day c.args.registration.now _ judged c.in-Ok.name c.in-Ok.ensures
