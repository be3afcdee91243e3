use Rattle.std.proofs.Common.{map, ◌∙◌}
use Rattle.clear_routes.proofs.FurtherLemmas.{first_is_least}
use Rattle.clear_routes.proofs.further.least_further.Goals as goal

pub returns : goal.returns
returns c = c.first_further.ensures ∙ first_is_least (map (λ k. k.now) c.args.listed.now) c.args.members.now.entries c.iter-in_order.ensures.ordered
