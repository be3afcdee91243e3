use Rattle.std.proofs.Common.{refl}
use Rattle.clear_http.proofs.DeskLemmas.{nothing_said}
use Rattle.clear_server.proofs.connections.serve_next.Goals as goal

pub returns-in-Err-clause-said : goal.returns-in-Err-clause-said
returns-in-Err-clause-said g c = nothing_said g.S.Store _ _ _ _ refl
