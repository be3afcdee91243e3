use Rattle.clear_routes.proofs.AskedLemmas.{each_has_its_path, none_has_another}
use Rattle.clear_routes.proofs.laws.law_each_has_its_path.Goals as goal

pub returns-clause-there : goal.returns-clause-there
returns-clause-there c = each_has_its_path

pub returns-clause-alone : goal.returns-clause-alone
returns-clause-alone c = none_has_another
