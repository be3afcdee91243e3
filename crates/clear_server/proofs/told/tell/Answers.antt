use Rattle.clear_server.proofs.ToldLemmas.{lines_then}
use Rattle.clear_server.proofs.told.tell.Goals as goal

pub returns : goal.returns
returns g c = lines_then _ _ _ _ _ c.tell_end.ensures c.tell_failing.ensures
