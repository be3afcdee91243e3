use Rattle.clear_routes.proofs.NeedLemmas.{names_are_kinds}
use Rattle.clear_routes.proofs.laws.law_names_are_kinds.Goals as goal

pub returns : goal.returns
returns c = names_are_kinds
