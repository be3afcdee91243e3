use Rattle.clear_routes.proofs.RouteLemmas.{one_path}
use Rattle.clear_routes.proofs.laws.law_one_path.Goals as goal

pub returns : goal.returns
returns c = one_path
