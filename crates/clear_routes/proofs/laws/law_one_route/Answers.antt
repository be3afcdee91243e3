use Rattle.clear_routes.proofs.RouteLemmas.{one_route}
use Rattle.clear_routes.proofs.laws.law_one_route.Goals as goal

pub returns : goal.returns
returns c = one_route
