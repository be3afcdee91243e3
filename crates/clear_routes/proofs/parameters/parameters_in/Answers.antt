use Rattle.clear_routes.proofs.ValueLemmas.{one_value, two_values}
use Rattle.clear_routes.proofs.parameters.parameters_in.Goals as goal

pub returns-in-One-texts-2-clause-found : goal.returns-in-One-texts-2-clause-found
returns-in-One-texts-2-clause-found c =
    one_value c.args.kinds c.in-One.kind c.args.texts c.in-One-texts-2.text _ c.with.result c.in-One.is c.in-One-texts-2.is c.none-in-One-texts-2.ensures c.with.ensures.found

pub returns-in-Some-clause-found : goal.returns-in-Some-clause-found
returns-in-Some-clause-found c =
    two_values c.args.kinds c.in-Two.kind c.in-Two.next c.args.texts c.in-Two-texts.text c.in-Two-texts.later _ _ c.with-in-Two-texts-2.result c.in-Two.is c.in-Two-texts.is c.none-in-Two-texts.ensures c.in-Some.ensures.found c.with-in-Two-texts-2.ensures.found
