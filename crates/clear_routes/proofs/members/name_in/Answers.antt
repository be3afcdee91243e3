use Rattle.clear_routes.proofs.MemberLemmas.{made_is_name}
use Rattle.clear_routes.proofs.members.name_in.Goals as goal

pub returns : goal.returns
returns c = made_is_name _ c.args.text.now c.new.result c.in_ok-from_str.ensures.ok c.new.ensures.some c.new.ensures.value
