use Rattle.std.proofs.Common.{inl}
use Rattle.clear_server.specs.Told.{written_by}
use Rattle.clear_work.proofs.work.serve_at.Goals as goal

pub returns-clause-serves : goal.returns-clause-serves
returns-clause-serves g c =
    let it = c.serve_connections-ended.ensures in
    inl ((c.serve_connections-ended.result, it.served, it.failed, c.say_served.ensures), (written_by g.E.Write.contents c.tell_ready.new.errors, c.in_ok-tell_ready.ensures.told, it.told))
