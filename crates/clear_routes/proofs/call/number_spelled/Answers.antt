use Rattle.clear_routes.proofs.NumberLemmas.{made_is_spelled}
use Rattle.clear_routes.proofs.call.number_spelled.Goals as goal

pub returns : goal.returns
returns c = made_is_spelled c.in-Some.number c.args.text.now c.new.result c.in-Some.ensures.found c.new.ensures.some c.new.ensures.value
