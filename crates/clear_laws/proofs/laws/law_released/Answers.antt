use Rattle.clear_laws.proofs.ReleasedLemmas.{released_by_entry, released_stays}
use Rattle.clear_laws.proofs.laws.law_released.Goals as goal

pub returns-clause-entry : goal.returns-clause-entry
returns-clause-entry c = λ b number claim release lawful found state. released_by_entry b.opening b.entries lawful number claim release found state

pub returns-clause-stays : goal.returns-clause-stays
returns-clause-stays c = λ x b number claim release lawful found state. released_stays b.opening b.entries x lawful number claim release found state
