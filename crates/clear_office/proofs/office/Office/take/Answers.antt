use Rattle.clear_office.proofs.StepLemmas.{noted_so}
use Rattle.clear_office.proofs.office.Office.take.Goals as goal

pub returns-in-Ok-clause-noted : goal.returns-in-Ok-clause-noted
returns-in-Ok-clause-noted g c caller number day command reply is said =
    noted_so g.S.Store c.args.self.now c.submit.new.self _ _ _ _ _ _ c.in-Do.is c.in-Ok.ensures.noted caller number day command reply is said
