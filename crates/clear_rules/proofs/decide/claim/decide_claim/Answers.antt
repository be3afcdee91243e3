use Rattle.clear_laws.proofs.ClaimTablesLemmas.{Stands-claimed}
use Rattle.clear_rules.proofs.decide.claim.decide_claim.Goals as goal

pub returns-clause-change : goal.returns-clause-change
returns-clause-change c b is = λ t caller number lawful stands judged.
    Stands-claimed b t stands caller number c.args.day c.args.claim.now _ judged c.args.view.now.next is.next_is
