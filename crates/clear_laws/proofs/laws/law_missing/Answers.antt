use Rattle.clear_laws.proofs.MissingLemmas.{missing-unregistered, missing_all, missing_just}
use Rattle.clear_laws.proofs.laws.law_missing.Goals as goal

pub returns-clause-just : goal.returns-clause-just
returns-clause-just c = missing_just

pub returns-clause-all : goal.returns-clause-all
returns-clause-all c = λ b e t m member there month begun going late none. missing_all b e t member there m month (begun, going, late, none)

pub returns-clause-unregistered : goal.returns-clause-unregistered
returns-clause-unregistered c = missing-unregistered
