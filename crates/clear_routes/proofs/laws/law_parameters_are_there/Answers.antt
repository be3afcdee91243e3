use Rattle.clear_routes.proofs.NeedLemmas.{parameters_are_there, no_others_are_read}
use Rattle.clear_routes.proofs.laws.law_parameters_are_there.Goals as goal

pub returns-clause-there : goal.returns-clause-there
returns-clause-there c = parameters_are_there

pub returns-clause-alone : goal.returns-clause-alone
returns-clause-alone c = no_others_are_read
