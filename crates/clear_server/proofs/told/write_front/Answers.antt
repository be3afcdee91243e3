use Rattle.clear_server.proofs.ToldLemmas.{front_written}
use Rattle.clear_server.specs.Told.{written_by}
use Rattle.clear_server.proofs.told.write_front.Goals as goal

pub returns : goal.returns
returns g c =
    front_written c.args.text.now (written_by g.E.Write.contents c.args.errors.now) (written_by g.E.Write.contents c.write_all.new.writer) c.write_all.result
    c.write_all.ensures.wrote c.write_all.ensures.failed c.write_all.ensures.well
