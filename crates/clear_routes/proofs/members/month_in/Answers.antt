use Rattle.clear_routes.proofs.MemberLemmas.{read_is_spelled}
use Rattle.clear_routes.proofs.members.month_in.Goals as goal

pub returns : goal.returns
returns c = read_is_spelled _ _ c.read.result c.as_bytes.ensures.value c.read.ensures.found c.read.ensures.only
