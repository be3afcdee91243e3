use Rattle.clear_server.specs.Told.{ends, written_by}
use Rattle.clear_server.proofs.ToldLemmas.{one_line}
use Rattle.clear_server.proofs.told.tell_end.Goals as goal

pub returns-in-Err : goal.returns-in-Err
returns-in-Err g c =
    rw (c.in-Err.is)
    (one_line (ends c.in-Err.fault) c.end_line.result.now (written_by g.E.Write.contents c.args.errors.now) (written_by g.E.Write.contents c.write_front.new.errors) c.end_line.ensures
    c.write_front.ensures)
