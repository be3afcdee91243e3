use Rattle.clear_database.proofs.OpenLemmas.{later_tells, store_tells}
use Rattle.clear_database.proofs.laws.law_tells_schema.Goals as goal

pub returns-clause-ours : goal.returns-clause-ours
returns-clause-ours c = store_tells

pub returns-clause-later : goal.returns-clause-later
returns-clause-later c = later_tells
